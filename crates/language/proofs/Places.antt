-- The node of a frame or of a fork is the one whose evaluation opened it.
use Prim.Native.Nat.{ℕ, zero, suc}
use Rattle.std.specs.Prelude.{Result, Ok, Err}
use mathlib.Core.Path.{◌≡◌}
use mathlib.Core.Bool.{Bool, true, false, cond}
use mathlib.Core.List.{List, [], ◌∷◌, ◌++◌}
use native.Mathlib.Omega.{arith}
use lib.Dec.{ltb}
use lib.ListN.{length}
use Rattle.table.specs.declared.Node.{Node}
use Rattle.table.specs.declared.Node.TheVariants.{Constant, Local, Arithmetic, Choose, Let, Call, Both, Unknown}
use Rattle.table.specs.Words.{arity_at, start_of}
use Rattle.table.specs.Nodes.{node_at}
use Rattle.schedule.specs.FrameMachine.{Place, evaluate, go_on, open_frame, open_fork, stuck, close, keep, fail}
use Rattle.schedule.specs.FrameMachine.{Next as FlatNext, Arrival as FlatArrival}
use Rattle.arithmetic.specs.declared.Failure.{Failure}
use Rattle.arithmetic.specs.Operate.{computed}
use Rattle.language.specs.Language as language
use Rattle.language.specs.Language.{Code, Frame, left_operand, right_operand, condition, binding, argument, place, frame_place, result, operated, next, gathered, arrive}
use Rattle.language.specs.Places.{FramesPlaced}

-- A place is two numbers, in whatever way they are written.
pub same_place : {f n f' n' : ℕ} → f ≡ f' → n ≡ n' → ◌≡◌ {A = Place} (record { function = f; node = n }) (record { function = f'; node = n' })
same_place a b = rw (a, b)

-- Of the place p is the frame or the fork that is opened at a node, and the frame that is kept at a value's return, if there is one.
abbrev OpensAt : List ℕ → Place → FlatNext Code Frame Code → Type 0
OpensAt w p (go_on c) = Unit {0}
OpensAt w p (open_frame f d) = frame_place f ≡ p
OpensAt w p (open_fork b d) = (language.language w).fork_place b ≡ p
OpensAt w p (stuck i) = Unit {0}

abbrev KeepsAt : Place → FlatArrival Code Frame → Type 0
KeepsAt p (close c) = Unit {0}
KeepsAt p (keep f d) = frame_place f ≡ p
KeepsAt p (fail i) = Unit {0}

module _ (w : List ℕ) where
  opened_at : (c : Code) (o : Node) → OpensAt w (place c) (next w c o)
  unfolding next language.call
  opened_at c (Constant v) = tt
  opened_at c (Local v) = tt
  opened_at c (Arithmetic o b) = same_place (omega arith) (omega arith)
  opened_at c (Choose a b) = same_place (omega arith) (omega arith)
  opened_at c (Let b) = same_place (omega arith) (omega arith)
  opened_at c (Call g a b) = on (arity_at w g)
    where
      on : (n : ℕ) → OpensAt w (place c) (language.call w c g n)
      on zero = tt
      on (suc n) = same_place (omega arith) (omega arith)
  opened_at c (Both a b) = same_place (omega arith) (omega arith)
  opened_at c Unknown = tt

  result_at : (p : Place) (r : Result ℕ Failure) → KeepsAt p (result r)
  unfolding result
  result_at p (Ok v) = tt
  result_at p (Err e) = tt

  operated_at : (p : Place) (o : Node) (x v : ℕ) → KeepsAt p (operated o x v)
  unfolding operated
  operated_at p (Constant u) x v = tt
  operated_at p (Local u) x v = tt
  operated_at p (Arithmetic o b) x v = result_at p (computed o x v)
  operated_at p (Choose a b) x v = tt
  operated_at p (Let b) x v = tt
  operated_at p (Call g a b) x v = tt
  operated_at p (Both a b) x v = tt
  operated_at p Unknown x v = tt

  kept_at : (f : Frame) (v : ℕ) → KeepsAt (frame_place f) (arrive w f v)
  unfolding arrive gathered
  kept_at (left_operand c) v = same_place (omega arith) (omega arith)
  kept_at (right_operand c x) v = operated_at _ _ x v
  kept_at (condition c) v = tt
  kept_at (binding c) v = tt
  kept_at (argument c vs) v = on (ltb (length (vs ++ (v ∷ []))) (arity_at w (language.called w c))) _ _
    where
      on : (t : Bool) (x y : Code) → KeepsAt (frame_place (argument c vs)) (cond t (keep (argument c (vs ++ (v ∷ []))) x) (close (evaluate y)))
      on true x y = same_place (omega arith) (omega arith)
      on false x y = tt

pub frames_placed : FramesPlaced
frames_placed w = record {
  opened = λ c d f e. rw e at (at_node c);
  kept = λ f g v d e. rw e at (kept_at w f v);
  forked = λ c d b e. rw e at (at_node c);
}
  where
    at_node : (c : Code) → OpensAt w (place c) ((language.language w).next c)
    at_node c = opened_at w c (node_at w (start_of w c.function) c.node)
