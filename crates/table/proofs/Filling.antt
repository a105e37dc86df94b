-- The array of the bodies' first words, filled in the order of the functions.
use Prim.Native.Nat.{ℕ, zero, suc, ◌+◌, ◌<◌, ◌≤◌}
use mathlib.Core.Path.{◌≡◌, refl, sym, ap, ◌∙◌}
use mathlib.Core.List.{List}
use mathlib.Core.Bool.{Bool, true, false, cond}
use native.Mathlib.Omega.{arith}
use lib.ListN.{length, get_or, set, replicate, length-set, get_or-replicate}
use lib.Seq.{get_or-set_same, get_or-set_other, ext_get_or}
use lib.Dec.{ltb, eqb}
use borrow.Author.Tests.{lt-ltb, le-ltb, ltb-true, ltb-false, eqb-true, eqb-false}
use Rattle.table.specs.Words.{functions, start_of}
use Rattle.table.specs.Read.{starts_from, starts_of}

module _ (w : List ℕ) where
  starts_length : (n f : ℕ) → length (starts_from w n f) ≡ n
  unfolding starts_from
  starts_length zero f = refl
  starts_length (suc n) f = ap suc (starts_length n (f + 1))

  starts_at : (n f i : ℕ) → i < n → get_or (starts_from w n f) i 0 ≡ cond (ltb (f + i) (functions w)) (start_of w (f + i)) 0
  unfolding starts_from
  starts_at zero f i h = absurd (omega arith)
  starts_at (suc n) f zero h = let e : f + 0 ≡ f = omega arith in rw e
  starts_at (suc n) f (suc i) h = let e : f + suc i ≡ f + 1 + i = omega arith in rw e (starts_at n (f + 1) i (omega arith))

  pub starts_sixty_four : length (starts_of w) ≡ 64
  starts_sixty_four = starts_length 64 0

  -- what `starts` gives of each function
  pub starts_of_lem : (f : ℕ) → f < functions w → functions w ≤ 64 → get_or (starts_of w) f 0 ≡ start_of w f
  starts_of_lem f h k = let e : 0 + f ≡ f = omega arith in (rw e at (starts_at 64 0 f (omega arith))) ∙ rw (lt-ltb f (functions w) h)

  -- filled up to function f, and 0 from there on
  pub record Filled (found : List ℕ) (f : ℕ) : Type 0 where
    pub long : length found ≡ 64
    pub at : (i : ℕ) → i < 64 → get_or found i 0 ≡ cond (ltb i f) (start_of w i) 0

  pub filled_none : Filled (replicate 64 0) 0
  filled_none = record { long = refl; at = λ i h. rw (le-ltb i 0 (omega arith)) (get_or-replicate 64 i 0 0 h) }

  pub filled_next : (found : List ℕ) (f start : ℕ) → start ≡ start_of w f → f < 64 → Filled found f → Filled (set found f start) (f + 1)
  filled_next found f start e h l = record { long = length-set found f start ∙ l.long; at = λ i k. here i k (eqb i f) refl }
    where
      other : (i : ℕ) → i < 64 → (i ≡ f → ⊥) → (t : Bool) → ltb i f ≡ t → get_or (set found f start) i 0 ≡ cond (ltb i (f + 1)) (start_of w i) 0
      other i k d true q = let x : i < f = ltb-true _ _ q in get_or-set_other found f i start 0 d ∙ l.at i k ∙ rw (q, lt-ltb i (f + 1) (omega arith))
      other i k d false q = let x : f ≤ i = ltb-false _ _ q in get_or-set_other found f i start 0 d ∙ l.at i k ∙ rw (q, le-ltb i (f + 1) (omega arith))

      here : (i : ℕ) → i < 64 → (t : Bool) → eqb i f ≡ t → get_or (set found f start) i 0 ≡ cond (ltb i (f + 1)) (start_of w i) 0
      here i k true q = let x : i ≡ f = eqb-true _ _ q in rw (x, lt-ltb f (f + 1) (omega arith)) (get_or-set_same found f start 0 (omega (arith, l.long)) ∙ e)
      here i k false q = other i k (eqb-false _ _ q) (ltb i f) refl

  pub filled_all : (found : List ℕ) → Filled found (functions w) → found ≡ starts_of w
  filled_all found l = ext_get_or 0 found (starts_of w) (l.long ∙ sym (starts_length 64 0)) (λ i h. l.at i (omega (arith, l.long)) ∙ sym (same i (omega (arith, l.long))))
    where
      same : (i : ℕ) → i < 64 → get_or (starts_of w) i 0 ≡ cond (ltb i (functions w)) (start_of w i) 0
      same i h = let e : 0 + i ≡ i = omega arith in rw e at (starts_at 64 0 i h)
