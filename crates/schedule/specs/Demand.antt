-- Demand 3, and what a run's work is: the statements. What they speak of is in Graph.antt and Runs.antt.
use Rattle.std.specs.Prelude.{ℕ, ◌+◌, ◌*◌, ◌≤◌, ◌≡◌}
use Rattle.schedule.specs.Graph.{Graph, work, span}
use Rattle.schedule.specs.Algebra.{graphs}
use Rattle.schedule.specs.FrameMachine.{FrameMachine}
use Rattle.schedule.specs.Machine.{Ending, value, RunCounts, Schedule, sequential, parallel, heartbeat, ended}
use Rattle.schedule.specs.Runs.{outcome, EndsIn}

-- 01, "Conditions of acceptance": "Demand 3 is one claim about the three answers together, with all four of its statements". Beside a sequential
-- run that ends in the value v with the graph g: the two other runs end in that value (004, Theorem 1); the work bound (Theorem 2); the span
-- bound (Theorem 3); and the identity of heartbeat work, promotions and sequential work.
pub record DemandOfRuns (M : FrameMachine) (fuel frames N τ : ℕ) (c : M.Code) (v : ℕ) (g : Graph) : Type 0 where
  pub parallel_run : EndsIn (outcome graphs M fuel frames parallel c) (value v)
  pub heartbeat_run : EndsIn (outcome graphs M fuel frames (heartbeat N) c) (value v)
  pub work_bound : N * work τ heartbeat_run.cost ≤ (N + τ) * work τ g
  pub span_bound : τ * span τ heartbeat_run.cost ≤ (N + τ) * span τ parallel_run.cost
  pub identity : work τ heartbeat_run.cost + 2 * heartbeat_run.counts.forks ≡ work τ g + τ * heartbeat_run.counts.forks

-- THEOREM (proofs/Demand.antt, `demand_3`), for every frame machine, fuel, number of frames, N and τ.
abbrev pub DemandOfEveryRun : Type 1
DemandOfEveryRun = (M : FrameMachine) (fuel frames N τ : ℕ) (c : M.Code) (v : ℕ) (g : Graph) (t : RunCounts) → 1 ≤ N → 1 ≤ τ
    → outcome graphs M fuel frames sequential c ≡ ended (value v) g t → DemandOfRuns M fuel frames N τ c v g

-- THEOREM (proofs/WorkCount.antt, `work_counted`), for all schedules at once: the work needs no graph.
abbrev pub WorkCounted : Type 1
WorkCounted = (M : FrameMachine) (fuel frames τ : ℕ) (m : Schedule) (c : M.Code) (v : ℕ) (g : Graph) (t : RunCounts)
    → outcome graphs M fuel frames m c ≡ ended (value v) g t → work τ g ≡ t.transitions + τ * t.forks

-- 01, Sequential: "work and span both equal the transitions; forks are 0." (004, Figure 4: the graph is a chain.)
pub record Chain (τ : ℕ) (g : Graph) (t : RunCounts) : Type 0 where
  pub work_is : work τ g ≡ t.transitions
  pub span_is : span τ g ≡ t.transitions
  pub forks_are : t.forks ≡ 0

-- THEOREM (proofs/WorkCount.antt, `sequential_chain`).
abbrev pub SequentialChain : Type 1
SequentialChain = (M : FrameMachine) (fuel frames τ : ℕ) (c : M.Code) (z : Ending) (g : Graph) (t : RunCounts)
    → outcome graphs M fuel frames sequential c ≡ ended z g t → Chain τ g t
