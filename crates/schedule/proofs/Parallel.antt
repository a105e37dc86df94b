-- The parallel run's span is what the sequential run beside it foretells: the potential in units of 1, with nothing in hand, never changes.
use Prim.Native.Nat.{ℕ, ◌+◌, ◌*◌}
use mathlib.Core.Path.{◌≡◌, refl, sym, ◌∙◌}
use mathlib.Core.Bool.{true, false, true≢false}
use mathlib.Core.List.{List, [], ◌∷◌}
use native.Mathlib.Nat.{le_antisymm}
use native.Mathlib.Omega.{arith}
use Rattle.schedule.specs.Graph.{Graph, span}
use Rattle.schedule.specs.Algebra.{graphs}
use Rattle.schedule.specs.FrameMachine.{FrameMachine}
use Rattle.schedule.specs.Machine.{Slot, ordinary, plain_left, plain_right, promoted_left, promoted_right, promotable, State, state, parallel, promoted_at_birth, promotion_due}
use Rattle.schedule.proofs.Moves.{Move, goes_on, opens, closes, keeps_frame, turns, joins, forks_freely, turns_freely, joins_freely, Step, moves_on, promotes}
use Rattle.schedule.proofs.ToCome.{Ahead, older, ToCome, before, before_step}
use Rattle.schedule.proofs.Potential.{Φ, Φ-level}

-- Every fork is promoted.
unfoldable pub AllPromoted : {Cost Frame Fork : Type 0} → List (Slot Cost Frame Fork) → Type 0
AllPromoted [] = Unit {0}
AllPromoted (ordinary f ∷ S) = AllPromoted S
AllPromoted (plain_left b ∷ S) = ⊥
AllPromoted (plain_right b v ∷ S) = ⊥
AllPromoted (promoted_left g b ∷ S) = AllPromoted S
AllPromoted (promoted_right g l b v ∷ S) = AllPromoted S

not_promotable : {Cost Frame Fork : Type 0} (S : List (Slot Cost Frame Fork)) → AllPromoted S → promotable S ≡ false
unfolding AllPromoted promotable
not_promotable [] p = refl
not_promotable (ordinary f ∷ S) p = not_promotable S p
not_promotable (plain_left b ∷ S) p = absurd p
not_promotable (plain_right b v ∷ S) p = absurd p
not_promotable (promoted_left g b ∷ S) p = refl
not_promotable (promoted_right g l b v ∷ S) p = refl

level : {Frame Fork : Type 0} (τ c x c' x' : ℕ) (S : List (Slot Graph Frame Fork)) (A : Ahead) → AllPromoted S → c + x ≡ c' + x'
    → Φ τ 1 1 0 0 c x S A ≡ Φ τ 1 1 0 0 c' x' S A
level τ c x c' x' S A p e =
    let flat = not_promotable S p in
    le_antisymm (Φ-level τ 1 1 0 0 c x 0 c' x' S A flat (omega arith)) (Φ-level τ 1 1 0 0 c' x' 0 c x S A flat (omega arith))

unfoldable pub foretold : (M : FrameMachine) → ℕ → State graphs M → ToCome → ℕ
foretold M τ (state c S n g t) y = Φ τ 1 1 0 0 (1 * span τ g) (1 * y.here) S y.ahead

unfoldable pub AllPromotedState : (M : FrameMachine) → State graphs M → Type 0
AllPromotedState M (state c S n g t) = AllPromoted S

pub record Foretold (M : FrameMachine) (τ whole : ℕ) (s : State graphs M) (y : ToCome) : Type 0 where
  pub all : AllPromotedState M s
  pub is : foretold M τ s y ≡ whole

module _ (M : FrameMachine) (fuel frames τ : ℕ) where
  all_move : {s u : State graphs M} → Move graphs M fuel frames true s u → AllPromotedState M s → AllPromotedState M u
  unfolding AllPromotedState AllPromoted
  all_move (goes_on e l) p = p
  all_move (opens e l r) p = p
  all_move (closes e l) p = p
  all_move (keeps_frame e l) p = p
  all_move (turns l) p = absurd p
  all_move (joins l) p = absurd p
  all_move (forks_freely e r) p = p
  all_move turns_freely p = p
  all_move joins_freely p = p

  -- NO MOVE CHANGES IT.
  same_move : {s u : State graphs M} (mv : Move graphs M fuel frames true s u) (y : ToCome) → AllPromotedState M s
      → foretold M τ u y ≡ foretold M τ s (before graphs M fuel frames τ mv y)
  unfolding foretold before AllPromotedState AllPromoted Φ span
  same_move (goes_on {S = S} e l) y p = level τ _ _ _ _ S y.ahead p (omega arith)
  same_move (opens {S = S} e l r) y p = level τ _ _ _ _ S y.ahead p (omega arith)
  same_move (closes {S = S} e l) y p = level τ _ _ _ _ S y.ahead p (omega arith)
  same_move (keeps_frame {S = S} e l) y p = level τ _ _ _ _ S y.ahead p (omega arith)
  same_move (turns l) y p = absurd p
  same_move (joins l) y p = absurd p
  same_move (forks_freely {S = S} e r) y p = level τ _ _ _ _ S (older y.ahead) p (omega arith)
  same_move (turns_freely {S = S}) y p = level τ _ _ _ _ S (older y.ahead) p (omega arith)
  same_move (joins_freely {S = S}) y p = level τ _ _ _ _ S y.ahead p (omega arith)

  pub foretold_kept : (whole : ℕ) (s u : State graphs M) (x : Step graphs M fuel frames parallel s u) (y : ToCome)
      → Foretold M τ whole s (before_step graphs M fuel frames τ parallel x y) → Foretold M τ whole u y
  unfolding promotion_due promoted_at_birth before_step
  foretold_kept whole s u (moves_on q mv) y i = record { all = all_move mv i.all; is = same_move mv y i.all ∙ i.is }
  foretold_kept whole s u (promotes h) y i = absurd (true≢false (sym h))
