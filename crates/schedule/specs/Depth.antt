-- What is known of a run's depth, the most frames that it occupied at once (02, P7: "The keeper buys memory by the deepest stack").
use Rattle.std.specs.Prelude.{ℕ, ◌≤◌, ◌≡◌}
use Rattle.schedule.specs.Algebra.{CostAlgebra}
use Rattle.schedule.specs.FrameMachine.{Place, stuck, fail, FrameMachine}
use Rattle.schedule.specs.Machine.{Ending, value, stop, RunCounts, Schedule, ended}
use Rattle.schedule.specs.Runs.{outcome}

-- THEOREM (proofs/Depth.antt, `depth_within`), of every run and whatever it ends in: no more frames were occupied than there are.
abbrev pub DepthWithin : Type 1
DepthWithin = (K : CostAlgebra) (M : FrameMachine) (fuel frames : ℕ) (m : Schedule) (c : M.Code) (z : Ending) (g : K.Cost) (t : RunCounts)
    → outcome K M fuel frames m c ≡ ended z g t → t.deepest ≤ frames

-- No node and no frame of the language has a stop 21 of its own.
pub record NoOwn21 (M : FrameMachine) : Type 0 where
  pub at_code : (c : M.Code) → M.next c ≡ stuck 21 → ⊥
  pub at_frame : (f : M.Frame) (v : ℕ) → M.arrive f v ≡ fail 21 → ⊥

-- THEOREM (`full_at_21`). 01: "21 no free frame: all frames are occupied and one more must be opened." So the depth is then their number.
abbrev pub FullAt21 : Type 1
FullAt21 = (K : CostAlgebra) (M : FrameMachine) (fuel frames : ℕ) (m : Schedule) (c : M.Code) (p : Place) (g : K.Cost) (t : RunCounts)
    → NoOwn21 M → outcome K M fuel frames m c ≡ ended (stop 21 p) g t → t.deepest ≡ frames

-- THEOREM (`frames_enough`): a run that ends in a value is the same with any number of frames that is not below its depth.
abbrev pub FramesEnough : Type 1
FramesEnough = (K : CostAlgebra) (M : FrameMachine) (fuel frames others : ℕ) (m : Schedule) (c : M.Code) (v : ℕ) (g : K.Cost) (t : RunCounts)
    → outcome K M fuel frames m c ≡ ended (value v) g t → t.deepest ≤ others → outcome K M fuel others m c ≡ ended (value v) g t
