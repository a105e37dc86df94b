-- Which number refuses a node's own words, and what they assure where none does.
use Prim.Native.Nat.{ℕ, ◌<◌, ◌≤◌}
use mathlib.Core.Path.{◌≡◌, refl}
use mathlib.Core.List.{List}
use mathlib.Core.Bool.{Bool, true, false, cond}
use lib.Dec.{leb, ltb}
use borrow.Author.Tests.{not-true, not-false, le-leb, lt-leb, leb-true}
use Rattle.std.specs.Prelude.{Option, Some, None}
use Rattle.table.specs.declared.Node.{Node}
use Rattle.table.specs.declared.Node.TheVariants.{Constant, Local, Arithmetic, Choose, Let, Call, Both, Unknown}
use Rattle.table.specs.declared.Shape.{Shape}
use Rattle.table.specs.Words.{functions, arity_at}
use Rattle.table.specs.Walk.{known, unknown, unused_of, shape_of, call_shape, number_of}

pub record Sound (s : Shape) (level : ℕ) : Type 0 where
  pub known : s.known ≡ true
  pub clear : s.clear ≡ true
  pub bound : s.bound ≡ true
  pub low : level ≤ 64

-- no number: all that is looked at is good
pub sound : (s : Shape) (level : ℕ) → number_of s level ≡ None → Sound s level
sound s level e = at s.known s.clear s.bound (leb level 64) refl refl refl refl e
  where
    at : (x y z l : Bool) → s.known ≡ x → s.clear ≡ y → s.bound ≡ z → leb level 64 ≡ l → ◌≡◌ {A = Option ℕ} (cond x (cond y (cond z (cond l None (Some 6)) (Some 5)) (Some 16)) (Some 4)) None → Sound s level
    at true true true true p q r t e = record { known = p; clear = q; bound = r; low = leb-true _ _ t }
    at true true true false p q r t e = absurd cc
    at true true false l p q r t e = absurd cc
    at true false z l p q r t e = absurd cc
    at false y z l p q r t e = absurd cc

-- the number by what is looked at, in order
module _ (s : Shape) (level : ℕ) where
  pub number_unknown : s.known ≡ false → Some 4 ≡ number_of s level
  number_unknown k = rw k

  pub number_unused : s.known ≡ true → s.clear ≡ false → Some 16 ≡ number_of s level
  number_unused k c = rw (k, c)

  pub number_unbound : s.known ≡ true → s.clear ≡ true → s.bound ≡ false → Some 5 ≡ number_of s level
  number_unbound k c b = rw (k, c, b)

  pub number_deep : s.known ≡ true → s.clear ≡ true → s.bound ≡ true → 64 < level → Some 6 ≡ number_of s level
  number_deep k c b l = rw (k, c, b, lt-leb level 64 l)

  pub number_none : s.known ≡ true → s.clear ≡ true → s.bound ≡ true → level ≤ 64 → None ≡ number_of s level
  number_none k c b l = rw (k, c, b, le-leb level 64 l)

-- these laws, and what a negated test says
pub ruleset numbers = (number_unknown, number_unused, number_unbound, number_deep, number_none, not-true, not-false)

-- what a node binds stays within 16 locals
module _ (w : List ℕ) (a b c k : ℕ) (few : k ≤ 16) where
  pub last_few : (node : Node) → (shape_of w a b c k node).bound ≡ true → (shape_of w a b c k node).last ≤ 16
  unfolding shape_of call_shape
  last_few (Constant v) e = few
  last_few (Local slot) e = few
  last_few (Arithmetic operation second) e = few
  last_few (Choose second third) e = few
  last_few (Let second) e = leb-true _ _ e
  last_few (Call f second third) e = at (ltb f (functions w))
    where
      at : (t : Bool) → (cond t (known (unused_of (arity_at w f) b c) true (arity_at w f) k) (unknown k)).last ≤ 16
      at true = few
      at false = few
  last_few (Both second third) e = leb-true _ _ e
  last_few Unknown e = few
