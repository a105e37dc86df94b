-- The three machines keep in step: where marks and costs are left out, a state of any of them is a state of the sequential one, and a transition,
-- a free fork or an arrival at a promoted frame is one sequential transition. So they end alike: the statement.
use Rattle.std.specs.Prelude.{ℕ, ◌+◌, ◌*◌, ◌≤◌, ◌≡◌, Bool, true, false}
use Rattle.schedule.specs.Algebra.{CostAlgebra}
use Rattle.schedule.specs.FrameMachine.{Place, FrameMachine}
use Rattle.schedule.specs.Machine.{Ending, value, stop, RunCounts, Schedule, sequential, promoted_at_birth, ended}
use Rattle.schedule.specs.Runs.{outcome, EndsIn}

-- The sequential transitions that a fork spares: both arrivals, and its opening too where it is promoted at its birth.
unfoldable pub spared : Bool → ℕ
spared true = 3
spared false = 2

-- Beside a sequential run that ends as z with the counts t. Requests P12 ("the same number, function and node. Their transitions may be
-- fewer, never more") and P7 ("all three machines show the same depth") ask for it.
pub record EndsAlike (K : CostAlgebra) (M : FrameMachine) (fuel frames : ℕ) (m : Schedule) (c : M.Code) (z : Ending) (t : RunCounts)
    : Type 0 where
  pub run : EndsIn (outcome K M fuel frames m c) z
  pub fewer : run.counts.transitions ≤ t.transitions
  pub depth : run.counts.deepest ≡ t.deepest
  pub spares : (v : ℕ) → z ≡ value v → run.counts.transitions + spared (promoted_at_birth m) * run.counts.forks ≡ t.transitions

-- THEOREM (proofs/Lockstep.antt, `in_lockstep`). "For stop 20 nothing is claimed."
abbrev pub Lockstep : Type 1
Lockstep = (K : CostAlgebra) (M : FrameMachine) (fuel frames : ℕ) (m : Schedule) (c : M.Code) (z : Ending) (g : K.Cost) (t : RunCounts)
    → ((p : Place) → z ≡ stop 20 p → ⊥) → outcome K M fuel frames sequential c ≡ ended z g t → EndsAlike K M fuel frames m c z t
