-- What is known of the cost and the counts of every run that ends in a value.
use Rattle.std.specs.Prelude.{ℕ, ◌≤◌, ◌≡◌}
use Rattle.schedule.specs.Graph.{Graph, span}
use Rattle.schedule.specs.Algebra.{graphs}
use Rattle.schedule.specs.FrameMachine.{FrameMachine}
use Rattle.schedule.specs.Machine.{value, RunCounts, Schedule, ended}
use Rattle.schedule.specs.Runs.{outcome}

-- The span is at least 1: the transition that returns the run's value lies in no branch of a fork. The transitions are within the fuel: stop 20
-- comes before one more.
pub record AtValue (fuel τ : ℕ) (g : Graph) (t : RunCounts) : Type 0 where
  pub span_positive : 1 ≤ span τ g
  pub within_fuel : t.transitions ≤ fuel

-- THEOREM (proofs/Values.antt, `at_every_value`), for every frame machine, fuel, number of frames and τ, and all schedules at once.
abbrev pub AtEveryValue : Type 1
AtEveryValue = (M : FrameMachine) (fuel frames τ : ℕ) (m : Schedule) (c : M.Code) (v : ℕ) (g : Graph) (t : RunCounts)
    → outcome graphs M fuel frames m c ≡ ended (value v) g t → AtValue fuel τ g t
