-- A reading that tries one thing after another, and the functions in order.
use Prim.Native.Nat.{ℕ, zero, suc, ◌+◌, ◌-◌, ◌<◌, ◌≤◌}
use mathlib.Core.Path.{◌≡◌, refl, sym, ap, ◌∙◌}
use mathlib.Core.Logic.{◌↔◌}
use native.Mathlib.Omega.{arith}
use mathlib.Core.Bool.{Bool, true, false}
use lib.Dec.{eqb}
use borrow.Author.Tests.{eqb-true, eqb-false}
use Rattle.std.specs.Prelude.{Result, Ok, Err}
use Rattle.std.specs.Result.{IsErrAnd}
use Rattle.std.proofs.lemmas.Result.{err_from_is_err_and}
use Rattle.table.specs.declared.Refusal.{Refusal}
use Rattle.table.specs.Read.{Reading, ◌then◌, each}

module _ (told : ℕ → Reading) (n f : ℕ) where
  first_of : f < n → each told (n - f) f ≡ (told f then each told (n - (f + 1)) (f + 1))
  unfolding each
  first_of h = let e : n - f ≡ suc (n - (f + 1)) = omega arith in rw e

  pub each_done : n ≤ f → each told (n - f) f ≡ Ok tt
  unfolding each
  each_done h = let e : n - f ≡ 0 = omega arith in rw e

  pub each_next : f < n → told f ≡ Ok tt → each told (n - f) f ≡ each told (n - (f + 1)) (f + 1)
  unfolding ◌then◌
  each_next h e = first_of h ∙ ap (λ r. r then each told (n - (f + 1)) (f + 1)) e

  pub each_stop : {r : Refusal} → f < n → told f ≡ Err r → each told (n - f) f ≡ Err r
  unfolding ◌then◌
  each_stop h e = first_of h ∙ ap (λ r. r then each told (n - (f + 1)) (f + 1)) e

  -- what a loop over the functions keeps: n tell what those from f on tell
  abbrev pub Reached : Type 0
  Reached = each told n 0 ≡ each told (n - f) f

  pub reached_next : f < n → Reached → Ok tt ≡ told f → each told n 0 ≡ each told (n - (f + 1)) (f + 1)
  reached_next h i a = i ∙ each_next h (sym a)

  pub reached_stop : {r : Refusal} → f < n → Reached → Err r ≡ told f → each told n 0 ≡ Err r
  reached_stop h i a = i ∙ each_stop h (sym a)

  pub reached_end : n ≤ f → Reached → each told n 0 ≡ Ok tt
  reached_end h i = i ∙ each_done h

pub reached_start : (told : ℕ → Reading) (n : ℕ) → Reached told n 0
reached_start told n = let e : n - 0 ≡ n = omega arith in ap (λ m. each told m 0) (sym e)

-- what the exit of a `?` returns whose error is told as it is
pub told_err : {T E : Type 0} {e : E} (r : Result T E) → IsErrAnd r (λ y. y ≡ e) → r ≡ Err e
told_err r h = let p = err_from_is_err_and r h in p.1 ∙ ap Err p.2

-- a refusal of the first is the answer
pub then_stop : (a b : Reading) (r : Refusal) → a ≡ Err r → (a then b) ≡ Err r
unfolding ◌then◌
then_stop a b r e = ap (λ a. a then b) e

-- and where the first accepts, the second answers
pub then_go : (a b : Reading) → a ≡ Ok tt → (a then b) ≡ b
unfolding ◌then◌
then_go a b e = ap (λ a. a then b) e

-- accepted iff both are
pub then_iff : (a b : Reading) → ((a then b) ≡ Ok tt) ↔ ((a ≡ Ok tt) × (b ≡ Ok tt))
unfolding ◌then◌
then_iff (Ok _) b = ((λ e. (refl, e)), (λ e. e.1))
then_iff (Err r) b = ((λ e. absurd cc), (λ e. e.0))

-- accepted iff each function is
each_only : (told : ℕ → Reading) (n f : ℕ) → each told n f ≡ Ok tt → (i : ℕ) → f ≤ i → i < f + n → told i ≡ Ok tt
unfolding each
each_only told zero f e i h k = absurd (omega arith)
each_only told (suc n) f e i h k = let both = (then_iff (told f) (each told n (f + 1))).0 e in at both.0 (each_only told n (f + 1) both.1) (eqb i f) refl
  where
    at : told f ≡ Ok tt → ((i : ℕ) → f + 1 ≤ i → i < f + 1 + n → told i ≡ Ok tt) → (t : Bool) → eqb i f ≡ t → told i ≡ Ok tt
    at here rest true q = ap told (eqb-true _ _ q) ∙ here
    at here rest false q = let d : i ≡ f → ⊥ = eqb-false _ _ q in rest i (omega arith) (omega arith)

each_all : (told : ℕ → Reading) (n f : ℕ) → ((i : ℕ) → f ≤ i → i < f + n → told i ≡ Ok tt) → each told n f ≡ Ok tt
unfolding each
each_all told zero f h = refl
each_all told (suc n) f h = (then_iff (told f) (each told n (f + 1))).1 (h f (omega arith) (omega arith), each_all told n (f + 1) (λ i l k. h i (omega arith) (omega arith)))

pub each_iff : (told : ℕ → Reading) (n f : ℕ) → (each told n f ≡ Ok tt) ↔ ((i : ℕ) → f ≤ i → i < f + n → told i ≡ Ok tt)
each_iff told n f = (each_only told n f, each_all told n f)
