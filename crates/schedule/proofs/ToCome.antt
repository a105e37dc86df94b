-- What the rest of a sequential run would cost in parallel span, read backwards from its end. The potential counts it before it has come.
use Prim.Native.Nat.{ℕ, ◌+◌, max}
use mathlib.Core.Path.{◌≡◌, refl, sym}
use mathlib.Core.Bool.{Bool, false, true≢false}
use mathlib.Core.List.{[]}
use Rattle.schedule.specs.Algebra.{CostAlgebra}
use Rattle.schedule.specs.FrameMachine.{Place, Control, return, FrameMachine}
use Rattle.schedule.specs.Machine.{Stack, Ending, value, stop, RunCounts, State, state, Schedule, sequential, promoted_at_birth, promotion_due}
use Rattle.schedule.proofs.Moves.{Move, goes_on, opens, closes, keeps_frame, forks, turns, joins, forks_freely, turns_freely, joins_freely, Stuck, no_fuel, is_stuck, Step, moves_on, promotes, Way, to_value, to_halt, via}

-- For each fork's frame of the stack, newest first: the span of its right branch, and of what follows its join.
pub data Ahead : Type 0 where
  nothing : Ahead
  at_fork : ℕ → ℕ → Ahead → Ahead

abbrev pub right_span : Ahead → ℕ
right_span nothing = 0
right_span (at_fork r y A) = r

abbrev pub after_span : Ahead → ℕ
after_span nothing = 0
after_span (at_fork r y A) = y

abbrev pub older : Ahead → Ahead
older nothing = nothing
older (at_fork r y A) = A

-- WHAT IS TO COME: at the level of the running code, and at each fork's frame.
pub record ToCome : Type 0 where
  pub here : ℕ
  pub ahead : Ahead

abbrev pub at_the_end : ToCome
at_the_end = record { here = 0; ahead = nothing }

-- What was to come before a move, from what is to come after it. A transition adds 1. A fork makes its two branches τ + the larger. The turn
-- from left to right sets the right branch's span aside, and the join what follows it.
abbrev pub before_transition : ToCome → ToCome
before_transition y = record { here = y.here + 1; ahead = y.ahead }

abbrev pub before_fork : ℕ → ToCome → ToCome
before_fork τ y = record { here = τ + max y.here (right_span y.ahead) + after_span y.ahead; ahead = older y.ahead }

abbrev pub before_turn : ToCome → ToCome
before_turn y = record { here = 0; ahead = at_fork y.here (after_span y.ahead) (older y.ahead) }

abbrev pub before_join : ToCome → ToCome
before_join y = record { here = 0; ahead = at_fork 0 y.here y.ahead }

module _ (K : CostAlgebra) (M : FrameMachine) (fuel frames τ : ℕ) where
  unfoldable pub before : {born : Bool} {s u : State K M} → Move K M fuel frames born s u → ToCome → ToCome
  before (goes_on e l) y = before_transition y
  before (opens e l r) y = before_transition y
  before (closes e l) y = before_transition y
  before (keeps_frame e l) y = before_transition y
  before (forks e l r) y = before_fork τ y
  before (turns l) y = before_turn y
  before (joins l) y = before_join y
  before (forks_freely e r) y = before_fork τ y
  before turns_freely y = before_turn y
  before joins_freely y = before_join y

  -- A promotion changes nothing of what is to come.
  unfoldable pub before_step : (m : Schedule) {s u : State K M} → Step K M fuel frames m s u → ToCome → ToCome
  before_step m (moves_on q mv) y = before mv y
  before_step m (promotes h) y = y

module _ (K : CostAlgebra) (M : FrameMachine) (fuel frames : ℕ) (z : Ending) (g' : K.Cost) (t' : RunCounts) where
  -- The rest of a sequential run that ends as z, and not for want of fuel.
  pub data Rest : State K M → Type 0 where
    at_value : {c : Control M.Code} {S : Stack K M} {n v : ℕ} → c ≡ return v → S ≡ [] → z ≡ value v → Rest (state c S n g' t')
    at_stop : {c : Control M.Code} {S : Stack K M} {n i : ℕ} {p : Place} → Stuck K M fuel frames false (state c S n g' t') i p
        → z ≡ stop i p → Rest (state c S n g' t')
    onward : {s u : State K M} → Move K M fuel frames false s u → Rest u → Rest s

  pub rest : ((p : Place) → z ≡ stop 20 p → ⊥) → {s : State K M} → Way K M fuel frames sequential z g' t' s → Rest s
  unfolding promoted_at_birth promotion_due
  rest funded (to_value e) = at_value refl refl e
  rest funded (to_halt {p = p} e (no_fuel l)) = absurd (funded p e)
  rest funded (to_halt e (is_stuck h)) = at_stop h e
  rest funded (via (moves_on q mv) w) = onward mv (rest funded w)
  rest funded (via (promotes h) w) = absurd (true≢false (sym h))

  unfoldable pub to_come : ℕ → {s : State K M} → Rest s → ToCome
  to_come τ (at_value c S e) = at_the_end
  to_come τ (at_stop h e) = at_the_end
  to_come τ (onward mv r) = before K M fuel frames τ mv (to_come τ r)
