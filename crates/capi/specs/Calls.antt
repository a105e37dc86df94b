-- What a call tells and leaves, for any input.
use Rattle.std.specs.Prelude.{ℕ, ◌≡◌, Bool, true, false, cond, ◌&&◌, List, length, eqb, leb, Option, MatchOption}
use Rattle.language.specs.declared.Answer.{Answer}
use Rattle.language.specs.Answers.{sequential_of, parallel_of, heartbeat_of}
use Rattle.machine.specs.declared.Schedule.{Schedule}
use Rattle.machine.specs.Schedules.{number_of}
use Rattle.machine.specs.Workspace.{left_by}
use Rattle.capi.specs.Words.{answer_words, written}

-- the answer of a machine by its number: 0 sequential, 1 parallel, 2 heartbeat
unfoldable pub answer_by : ℕ → List ℕ → List ℕ → ℕ → ℕ → ℕ → ℕ → Answer
answer_by machine w arguments fuel N τ workspace =
    cond (eqb machine 0) (sequential_of w arguments fuel N τ workspace)
    (cond (eqb machine 1) (parallel_of w arguments fuel N τ workspace) (heartbeat_of w arguments fuel N τ workspace))

-- Is this machine one of the three, and are there eight words at least? An answer had eight at first (its depth came with 02, P7), and they stay
-- enough.
unfoldable pub served : ℕ → ℕ → Bool
served machine room = leb machine 2 && leb 8 room

-- a call that is served has the schedule of its machine's number
abbrev pub Serves : ℕ → ℕ → Option Schedule → Type 0
Serves machine room r =
    MatchOption r (served machine room ≡ false) (λ schedule. (served machine room ≡ true) × (number_of schedule ≡ machine))

-- `ws` and `out` are the words of the workspace and of the answer's buffer at the call, `ws'` and `out'` those at its end, and r is what
-- the call returns: where it is not served, 1, and nothing is changed
pub record Called (machine : ℕ) (w arguments : List ℕ) (fuel N τ : ℕ) (ws out ws' out' : List ℕ) (r : ℕ) : Type 0 where
  pub returned : r ≡ cond (served machine (length out)) 0 1
  pub workspace : ws' ≡ cond (served machine (length out)) (left_by (answer_by machine w arguments fuel N τ (length ws)) ws) ws
  pub answer : out' ≡ cond (served machine (length out)) (written out (answer_words (answer_by machine w arguments fuel N τ (length ws)))) out
