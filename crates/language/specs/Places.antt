-- Where a stop is told. 01: "The node is the one being evaluated, or that of the frame the value returns to."
use Rattle.std.specs.Prelude.{ℕ, ◌≡◌, List}
use Rattle.schedule.specs.FrameMachine.{open_frame, open_fork, keep, FrameMachine}
use Rattle.language.specs.Language.{language}

-- The node of a frame is the one whose evaluation opened it, as long as it is kept; and so is that of a fork.
pub record Placed (M : FrameMachine) : Type 0 where
  pub opened : (c d : M.Code) (f : M.Frame) → M.next c ≡ open_frame f d → M.frame_place f ≡ M.code_place c
  pub kept : (f e : M.Frame) (v : ℕ) (d : M.Code) → M.arrive f v ≡ keep e d → M.frame_place e ≡ M.frame_place f
  pub forked : (c d : M.Code) (b : M.Fork) → M.next c ≡ open_fork b d → M.fork_place b ≡ M.code_place c

-- THEOREM (proofs/Places.antt, `frames_placed`), for any words.
abbrev pub FramesPlaced : Type 0
FramesPlaced = (w : List ℕ) → Placed (language w)
