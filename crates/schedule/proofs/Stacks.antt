-- Facts about stacks and the promotion of their oldest plain frame, over any costs, frames and forks.
use Prim.Native.Nat.{ℕ, suc, ◌+◌}
use mathlib.Core.Path.{◌≡◌, refl, ap, sym, ◌∙◌}
use mathlib.Core.Bool.{Bool, true, false, true≢false}
use mathlib.Core.List.{List, [], ◌∷◌}
use native.Mathlib.Omega.{arith}
use lib.ListN.{length}
use Rattle.schedule.specs.Machine.{Slot, ordinary, plain_left, plain_right, promoted_left, promoted_right, promotable, promote}
use Rattle.schedule.specs.Bounds.{total}

module _ {Cost Frame Fork : Type 0} where
  -- The stack of the sequential machine at the same moment: no frame is promoted.
  unfoldable pub erased : Slot Cost Frame Fork → Slot Cost Frame Fork
  erased (ordinary f) = ordinary f
  erased (plain_left b) = plain_left b
  erased (plain_right b v) = plain_right b v
  erased (promoted_left g b) = plain_left b
  erased (promoted_right g l b v) = plain_right b v

  unfoldable pub erase : List (Slot Cost Frame Fork) → List (Slot Cost Frame Fork)
  erase [] = []
  erase (s ∷ S) = erased s ∷ erase S

  pub length_erase : (S : List (Slot Cost Frame Fork)) → length (erase S) ≡ length S
  unfolding erase
  length_erase [] = refl
  length_erase (s ∷ S) = ap suc (length_erase S)

  pub erase_empty : (S : List (Slot Cost Frame Fork)) → erase S ≡ [] → S ≡ []
  unfolding erase
  erase_empty [] e = refl
  erase_empty (s ∷ S) e = let no : ◌≡◌ {A = ℕ} 0 1 = cc in absurd (omega arith)

  -- Every plain frame that awaits its left lies above the newest promoted frame. This is what promoting the OLDEST one keeps, and the span bound
  -- rests on it.
  unfoldable pub Layered : List (Slot Cost Frame Fork) → Type 0
  Layered [] = Unit {0}
  Layered (ordinary f ∷ S) = Layered S
  Layered (plain_left b ∷ S) = Layered S
  Layered (plain_right b v ∷ S) = Layered S
  Layered (promoted_left g b ∷ S) = (promotable S ≡ false) × Layered S
  Layered (promoted_right g l b v ∷ S) = (promotable S ≡ false) × Layered S

  -- A promotion changes one frame, from a plain left to a promoted one. So a sum over the stack changes by what that frame counts.
  pub total_promote : (f : Slot Cost Frame Fork → ℕ) (new old : ℕ) (g : Cost) → ((b : Fork) → f (promoted_left g b) ≡ new)
      → ((b : Fork) → f (plain_left b) ≡ old)
      → (S : List (Slot Cost Frame Fork)) → promotable S ≡ true → total f (promote g S) + old ≡ total f S + new
  unfolding total promotable promote
  total_promote f new old g is-new is-old [] e = absurd (true≢false (sym e))
  total_promote f new old g is-new is-old (ordinary u ∷ S) e = omega (arith, total_promote f new old g is-new is-old S e)
  total_promote f new old g is-new is-old (plain_left b ∷ S) e = on (total_promote f new old g is-new is-old S) (promotable S) refl
    where
      on : (promotable S ≡ true → total f (promote g S) + old ≡ total f S + new) → (q : Bool) → promotable S ≡ q
          → total f (promote g (plain_left b ∷ S)) + old ≡ f (plain_left b) + total f S + new
      on below true h = rw h (omega (arith, below h, is-new b, is-old b))
      on below false h = rw h (omega (arith, is-new b, is-old b))
  total_promote f new old g is-new is-old (plain_right b v ∷ S) e = omega (arith, total_promote f new old g is-new is-old S e)
  total_promote f new old g is-new is-old (promoted_left h b ∷ S) e = absurd (true≢false (sym e))
  total_promote f new old g is-new is-old (promoted_right h l b v ∷ S) e = absurd (true≢false (sym e))

  pub erase_promote : (g : Cost) (S : List (Slot Cost Frame Fork)) → erase (promote g S) ≡ erase S
  unfolding erase erased promote
  erase_promote g [] = refl
  erase_promote g (ordinary f ∷ S) = rw (erase_promote g S)
  erase_promote g (plain_left b ∷ S) = on (erase_promote g S) (promotable S) refl
    where
      on : erase (promote g S) ≡ erase S → (q : Bool) → promotable S ≡ q → erase (promote g (plain_left b ∷ S)) ≡ plain_left b ∷ erase S
      on below true h = rw h (cc)
      on below false h = rw h (cc)
  erase_promote g (plain_right b v ∷ S) = rw (erase_promote g S)
  erase_promote g (promoted_left h b ∷ S) = refl
  erase_promote g (promoted_right h l b v ∷ S) = refl

  pub length_promote : (g : Cost) (S : List (Slot Cost Frame Fork)) → length (promote g S) ≡ length S
  length_promote g S = sym (length_erase (promote g S)) ∙ ap length (erase_promote g S) ∙ length_erase S

  pub layered_promote : (g : Cost) (S : List (Slot Cost Frame Fork)) → promotable S ≡ true → Layered S → Layered (promote g S)
  unfolding promotable promote Layered
  layered_promote g [] e o = o
  layered_promote g (ordinary f ∷ S) e o = layered_promote g S e o
  layered_promote g (plain_left b ∷ S) e o = on (λ h. layered_promote g S h o) (promotable S) refl
    where
      on : (promotable S ≡ true → Layered (promote g S)) → (q : Bool) → promotable S ≡ q → Layered (promote g (plain_left b ∷ S))
      on below true h = rw h (below h)
      on below false h = rw h (h, o)
  layered_promote g (plain_right b v ∷ S) e o = layered_promote g S e o
  layered_promote g (promoted_left h b ∷ S) e o = absurd (true≢false (sym e))
  layered_promote g (promoted_right h l b v ∷ S) e o = absurd (true≢false (sym e))
