-- What the depth of an answer assures (02, P7: "The keeper buys memory by the deepest stack"), for every input. A frame is 32 words of 8 bytes, so that a
-- workspace of k frames has 256 · k bytes. The theorems are proved in proofs/Depth.antt.
use Rattle.std.specs.Prelude.{ℕ, ◌*◌, ◌≤◌, ◌≡◌, ◌↔◌, List}
use Rattle.schedule.specs.Machine.{Schedule}
use Rattle.language.specs.declared.Counts.{Counts}
use Rattle.language.specs.declared.Stop.{Stop}
use Rattle.language.specs.declared.Answer.TheVariants.{Value, Stopped}
use Rattle.language.specs.Checks.{frames_in}
use Rattle.language.specs.Answers.{answer_of, deepest_of}

-- THEOREM (`depths_within`), of every answer of every machine: the depth is never above the frames of the workspace.
abbrev pub DepthsWithin : Type 0
DepthsWithin = (m : Schedule) (w arguments : List ℕ) (fuel N τ workspace : ℕ)
    → deepest_of (answer_of m w arguments fuel N τ workspace) ≤ frames_in workspace

-- THEOREM (`full_at_stop_21`). 01: "21 no free frame: all frames are occupied": the depth is then the frames of the workspace.
abbrev pub FullAtStop21 : Type 0
FullAtStop21 = (m : Schedule) (w arguments : List ℕ) (fuel N τ workspace : ℕ) (s : Stop)
    → answer_of m w arguments fuel N τ workspace ≡ Stopped s → s.number ≡ 21 → s.deepest ≡ frames_in workspace

-- THEOREM (`just_enough`): WHAT TO BUY. Beside a value, of any machine and with any workspace: so many frames as the depth give the same answer, and so
-- do more; fewer do not. No workspace has less than 1 frame or more than 4,096 (refusal 11).
abbrev pub JustEnough : Type 0
JustEnough = (m : Schedule) (w arguments : List ℕ) (fuel N τ workspace v : ℕ) (a : Counts) → answer_of m w arguments fuel N τ workspace ≡ Value v a
    → (k : ℕ) → 1 ≤ k → k ≤ 4096 → (answer_of m w arguments fuel N τ (32 * k) ≡ Value v a) ↔ (a.deepest ≤ k)
