-- What the functions under the three machines tell: a run's start, its answer, and what holds of both for every schedule that a plan's
-- flags have.
use Rattle.std.specs.Prelude.{ℕ, ◌+◌, ◌*◌, ◌≤◌, ◌≡◌, Bool, List, length, replicate}
use Rattle.schedule.specs.Algebra.{spans}
use Rattle.schedule.specs.Machine.{Schedule}
use Rattle.schedule.specs.Runs.{outcome}
use Rattle.schedule.specs.Bounds.{Flags}
use Rattle.table.specs.Words.{arity_at}
use Rattle.table.specs.WellFormed.{WellFormed}
use Rattle.language.specs.declared.Answer.{Answer}
use Rattle.language.specs.declared.Answer.TheVariants as answer
use Rattle.language.specs.Language.{language}
use Rattle.language.specs.Checks.{frames_in}
use Rattle.language.specs.Answers.{entry_code, counts_of, stopped, unfinished, told_by_spans, answer_of}
use Rattle.moves.specs.declared.Control.TheVariants.{Eval}
use Rattle.moves.specs.declared.Registers.{Registers}
use Rattle.moves.specs.declared.Plan.{Plan}
use Rattle.moves.specs.declared.Step.{Step}
use Rattle.moves.specs.declared.Step.TheVariants.{Go, Value, Halt}
use Rattle.moves.specs.Ready.{Limits}
use Rattle.machine.specs.Workspace.{left_by}

-- the registers at a run's start: function 0's root, with so many arguments, and no frame
abbrev pub begun : ℕ → Registers
begun count = record {
  control = Eval (record { function = 0; node = 0; count = count });
  depth = 0;
  oldest = 4096;
  credits = record { 0 = 0 };
  span = record { 0 = 0 };
  transitions = 0;
  forks = 0;
  deepest = 0;
}

-- what is answered where a run ends at these registers; a run that goes on is at no end, so that the first line is never told
unfoldable pub told_at : ℕ → Registers → Step → Answer
told_at τ s (Go next) = unfinished
told_at τ s (Value v) = answer.Value v (counts_of s.transitions s.forks (s.transitions + τ * s.forks) s.span.0 s.deepest)
told_at τ s (Halt h) = stopped h.number (record { function = h.function; node = h.node }) s.transitions s.deepest

-- the counts are small enough for the sum of the work
pub record Countable (plan : Plan) (s : Registers) : Type 0 where
  pub transitions : s.transitions ≤ 100000000
  pub tau : plan.tau ≤ 10000
  pub forks : s.forks ≤ 1000000000

-- what a run knows of its input
pub record Accepted (w arguments ws : List ℕ) (plan : Plan) : Type 0 where
  pub table : WellFormed w
  pub count : length arguments ≡ arity_at w 0
  pub limits : Limits ws plan

-- a run can begin, with the first `count` of the sixteen locals as arguments
pub record Begins (w ws ls : List ℕ) (plan : Plan) (count : ℕ) : Type 0 where
  pub table : WellFormed w
  pub limits : Limits ws plan
  pub sixteen : length ls ≡ 16
  pub arguments : count ≡ arity_at w 0

-- WHAT A RUN ANSWERS, with a workspace of so many words: the definition's run, by each schedule that the plan's flags have; and no
-- refusal
pub record Ran (w arguments : List ℕ) (workspace : ℕ) (plan : Plan) (r : Answer) : Type 0 where
  pub answers : (m : Schedule) → Flags plan.fuel.0 m plan.birth plan.period
      → r ≡ told_by_spans plan.tau (outcome (spans plan.tau) (language w) plan.fuel.0 (frames_in workspace) m (entry_code arguments))
  pub began : (ws : List ℕ) → left_by r ws ≡ replicate (length ws) 0

-- the flags are a schedule's, where the fuel is in its range; the check refuses any other
abbrev pub Suits : ℕ → Schedule → Bool → ℕ → Type 0
Suits fuel m birth pace = fuel ≤ 100000000 → Flags fuel m birth pace

-- WHAT A MACHINE ANSWERS, for any input: its definition, of each schedule that the flags suit
abbrev pub Tells : List ℕ → List ℕ → ℕ → ℕ → ℕ → ℕ → Bool → ℕ → Answer → Type 0
Tells w arguments fuel N τ workspace birth pace r =
    (m : Schedule) → Suits fuel m birth pace → r ≡ answer_of m w arguments fuel N τ workspace
