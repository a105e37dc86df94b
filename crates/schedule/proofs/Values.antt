-- A run that ends in a value has a span of at least 1, and is within its fuel.
use Prim.Native.Nat.{ℕ, ◌+◌, ◌≤◌}
use mathlib.Core.Path.{◌≡◌, sym}
use mathlib.Core.Bool.{Bool, true, true≢false}
use mathlib.Core.List.{List, [], ◌∷◌}
use native.Mathlib.Omega.{arith}
use lib.ListN.{length}
use Rattle.schedule.specs.Graph.{span}
use Rattle.schedule.specs.Algebra.{graphs}
use Rattle.schedule.specs.FrameMachine.{FrameMachine}
use Rattle.schedule.specs.Machine.{Slot, promotable, value, State, state, Schedule, start}
use Rattle.schedule.specs.Runs.{moves, outcome}
use Rattle.schedule.specs.Bounds.{returning}
use Rattle.schedule.specs.Values.{AtEveryValue}
use Rattle.schedule.proofs.Moves.{due_promotable, Move, goes_on, opens, closes, keeps_frame, forks, turns, joins, forks_freely, turns_freely, joins_freely, Step, moves_on, promotes, way, at_value}
use Rattle.schedule.proofs.Stacks.{length_promote}
use Rattle.schedule.proofs.Finish.{returning_le, Fits, step_falls}

-- A stack with a frame to promote has a frame.
not_empty : {Cost Frame Fork : Type 0} (S : List (Slot Cost Frame Fork)) → promotable S ≡ true → 1 ≤ length S
unfolding promotable
not_empty [] e = absurd (true≢false (sym e))
not_empty (s ∷ S) e = omega arith

module _ (M : FrameMachine) (fuel frames τ : ℕ) where
  -- A value that returns to no frame has a span. Every transition gives one; a free move is followed by a node to evaluate; and a promotion, which
  -- starts the span again, leaves a frame to return to.
  unfoldable Spanned : State graphs M → Type 0
  Spanned (state c S n g t) = returning c ≤ span τ g + length S

  spanned_move : {born : Bool} {s u : State graphs M} → Move graphs M fuel frames born s u → Spanned u
  unfolding Spanned span returning
  spanned_move (goes_on {d = d} e l) = omega (arith, returning_le d)
  spanned_move (opens e l r) = omega arith
  spanned_move (closes {d = d} e l) = omega (arith, returning_le d)
  spanned_move (keeps_frame e l) = omega arith
  spanned_move (forks e l r) = omega arith
  spanned_move (turns l) = omega arith
  spanned_move (joins l) = omega arith
  spanned_move (forks_freely e r) = omega arith
  spanned_move turns_freely = omega arith
  spanned_move joins_freely = omega arith

  spanned_step : (m : Schedule) {s u : State graphs M} → Step graphs M fuel frames m s u → Spanned u
  unfolding Spanned span
  spanned_step m (moves_on q mv) = spanned_move mv
  spanned_step m (promotes {c = c} {S = S} {n = n} {g = g} h) =
      omega (arith, returning_le c, length_promote g S, not_empty S (due_promotable m n (promotable S) h))

  abbrev Inv : State graphs M → Type 0
  Inv s = Spanned s × Fits graphs M fuel frames s

  kept : (m : Schedule) (s u : State graphs M) → Step graphs M fuel frames m s u → Inv s → Inv u
  kept m s u x i = (spanned_step m x, (step_falls graphs M fuel frames m x i.1).0)

pub at_every_value : AtEveryValue
unfolding outcome start Spanned Fits returning
at_every_value M fuel frames τ m c v g t e =
    let w = way graphs M fuel frames m (moves fuel frames) (start graphs M c) (value v) g t e in
    let i = (at_value graphs M fuel frames m (Inv M fuel frames τ) (kept M fuel frames τ m) w (omega arith, (omega arith, omega arith))).1 in
    record { span_positive = omega (arith, i.0); within_fuel = i.1.0 }
