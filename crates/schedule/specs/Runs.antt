-- Runs: a step function repeated, over any state. A run is given a number of moves, since definitions must end; it always suffices, so that no
-- run is unfinished.
use Rattle.std.specs.Prelude.{ℕ, zero, suc, ◌+◌, ◌*◌, ◌≡◌}
use Rattle.schedule.specs.Algebra.{CostAlgebra}
use Rattle.schedule.specs.FrameMachine.{FrameMachine}
use Rattle.schedule.specs.Machine.{Ending, RunCounts, Outcome, Result, ended, ongoing, Schedule, step, start}

-- Go on from an outcome, unless it is an end.
unfoldable pub and_then : {Cost X Y : Type 0} → Outcome Cost X → (X → Outcome Cost Y) → Outcome Cost Y
and_then (ended z g t) f = ended z g t
and_then (ongoing s) f = f s

-- At most so many moves.
unfoldable pub run : {Cost X : Type 0} → (X → Outcome Cost X) → ℕ → X → Outcome Cost X
run f zero s = ongoing s
run f (suc k) s = and_then (f s) (run f k)

-- The number that suffices. Between two transitions there is at most one promotion and one arrival at a promoted frame, but as many parallel
-- forks as there are free frames.
abbrev pub moves : ℕ → ℕ → ℕ
moves fuel frames = 5 * fuel + frames + 1

-- THE RUN of a frame machine's code under a schedule.
unfoldable pub outcome : (K : CostAlgebra) (M : FrameMachine) (fuel frames : ℕ) → Schedule → M.Code → Result K M
outcome K M fuel frames m c = run (step K M fuel frames m) (moves fuel frames) (start K M c)

-- An outcome is an end of the kind z, with some cost and counts.
pub record EndsIn {Cost X : Type 0} (o : Outcome Cost X) (z : Ending) : Type 0 where
  pub cost : Cost
  pub counts : RunCounts
  pub is : o ≡ ended z cost counts

-- THEOREM (proofs/Finish.antt, `finishes`): every run of every frame machine comes to its end.
abbrev pub NeverUnfinished : Type 1
NeverUnfinished = (K : CostAlgebra) (M : FrameMachine) (fuel frames : ℕ) (m : Schedule) (c : M.Code)
    → (z : Ending) × EndsIn (outcome K M fuel frames m c) z
