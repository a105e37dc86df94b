-- DEMAND 3 WITH BUFFERS LENT, still one claim about the three answers together (02, P1): "what demand 3 says of a parallel or heartbeat run also needs that
-- this run did not stop with 25". Each machine has a buffer of its own, of any length. What other requests say beside demand 3 is carried over too.
use Rattle.std.specs.Prelude.{ℕ, ◌+◌, ◌*◌, ◌≤◌, ◌≡◌, ◌⊎◌, List}
use Rattle.schedule.specs.Machine.{Schedule, sequential, parallel, heartbeat}
use Rattle.language.specs.declared.Counts.{Counts}
use Rattle.language.specs.declared.Stop.{Stop}
use Rattle.language.specs.declared.Answer.{Answer}
use Rattle.language.specs.declared.Answer.TheVariants.{Value, Stopped}
use Rattle.language.specs.Claim.{DemandThree, SameDepth, StopsAgree}
use Rattle.language.specs.Stops.{Listed}
use Rattle.graph_answers.specs.Answers.{graphed_of}
use Rattle.graph_answers.specs.AsWithout.{too_long_answer}

-- An answer is no stop 25.
abbrev pub Not25 : Answer → Type 0
Not25 r = (s : Stop) → r ≡ Stopped s → s.number ≡ 25 → ⊥

-- A machine's answer beside so many words; heartbeat's period is the N of the call.
abbrev pub answer_lent : Schedule → (w arguments : List ℕ) (fuel N τ workspace lent : ℕ) → Answer
answer_lent m w arguments fuel N τ workspace lent = (graphed_of m w arguments fuel N τ workspace lent).answer

-- THEOREM (proofs/Claim.antt, `claim_lent`), for every input and any three numbers of words.
abbrev pub LentForEveryInput : Type 0
LentForEveryInput = (w arguments : List ℕ) (fuel N τ workspace a b c : ℕ)
    → Not25 (answer_lent parallel w arguments fuel N τ workspace b) → Not25 (answer_lent (heartbeat N) w arguments fuel N τ workspace c)
    → DemandThree N τ (answer_lent sequential w arguments fuel N τ workspace a) (answer_lent parallel w arguments fuel N τ workspace b)
    (answer_lent (heartbeat N) w arguments fuel N τ workspace c)

-- The value v with counts k, or stop 25 of the run that has it.
abbrev pub ValueOr25 : ℕ → Counts → Answer → Type 0
ValueOr25 v k r = (r ≡ Value v k) ⊎ (r ≡ too_long_answer k)

-- The four statements beside a sequential answer with value v and counts a, where either of the others may be 25: it then is that of a run with the same
-- value, and the bounds and the identity are of that run's counts.
pub record FourOr25 (N τ : ℕ) (v : ℕ) (a : Counts) (parallel heartbeat : Answer) : Type 0 where
  pub p : Counts
  pub h : Counts
  pub parallel_value : ValueOr25 v p parallel
  pub heartbeat_value : ValueOr25 v h heartbeat
  pub work_bound : N * h.work.0 ≤ (N + τ) * a.work.0
  pub span_bound : τ * h.span.0 ≤ (N + τ) * p.span.0
  pub identity : h.work.0 + 2 * h.forks ≡ a.work.0 + τ * h.forks

-- THEOREM (`claim_or_25`).
abbrev pub Or25ForEveryInput : Type 0
Or25ForEveryInput = (w arguments : List ℕ) (fuel N τ workspace a b c v : ℕ) (k : Counts) → answer_lent sequential w arguments fuel N τ workspace a ≡ Value v k
    → FourOr25 N τ v k (answer_lent parallel w arguments fuel N τ workspace b) (answer_lent (heartbeat N) w arguments fuel N τ workspace c)

-- THEOREM (`same_depth_lent`). P7: "Where the sequential run has a value, all three machines show the same depth.", a 25 among them.
abbrev pub DepthLent : Type 0
DepthLent = (w arguments : List ℕ) (fuel N τ workspace a b c : ℕ)
    → SameDepth (answer_lent sequential w arguments fuel N τ workspace a) (answer_lent parallel w arguments fuel N τ workspace b)
    (answer_lent (heartbeat N) w arguments fuel N τ workspace c)

-- THEOREM (`stops_agree_lent`). P12: where the sequential machine "stops with 21, 22, 23 or 24", the others "stop with the same number, function and node".
abbrev pub StopsAgreeLent : Type 0
StopsAgreeLent = (w arguments : List ℕ) (fuel N τ workspace a b c : ℕ)
    → StopsAgree (answer_lent sequential w arguments fuel N τ workspace a) (answer_lent parallel w arguments fuel N τ workspace b)
    (answer_lent (heartbeat N) w arguments fuel N τ workspace c)

-- Stop 25 as told: "25 alone names no step".
pub record Told25 (fuel : ℕ) (s : Stop) : Type 0 where
  pub number : s.number ≡ 25
  pub function : s.function ≡ 0
  pub node : s.node ≡ 0
  pub within_fuel : s.transitions ≤ fuel

-- THEOREM (`stops_listed_lent`): every stop beside a buffer is one of 01's list or 25.
abbrev pub StopsListedLent : Type 0
StopsListedLent = (m : Schedule) (w arguments : List ℕ) (fuel N τ workspace lent : ℕ) (s : Stop)
    → answer_lent m w arguments fuel N τ workspace lent ≡ Stopped s → Listed w fuel s ⊎ Told25 fuel s
