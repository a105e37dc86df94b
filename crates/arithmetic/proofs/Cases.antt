-- The two cases of a test in `computed`, for two operations each: sum and product, quotient and remainder; and the test of a product
-- by a quotient. Assumes nothing.
use Prim.Native.Nat.{ℕ, ◌*◌, ◌/◌, ◌<◌, ◌≤◌, ◌^◌}
use mathlib.Core.Path.{◌≡◌}
use mathlib.Core.Bool.{cond}
use native.Mathlib.Nat.{pos_of_ne-zero, le-div_iff_mul-le, div-lt_iff_lt-mul}
use lib.Dec.{ltb, eqb}
use borrow.Author.Tests.{lt-ltb, le-ltb, eq-eqb, ne_eqb}
use Rattle.std.specs.Prelude.{Result, Ok, Err}
use Rattle.arithmetic.specs.declared.Failure.{Failure}
use Rattle.arithmetic.specs.declared.Failure.TheVariants.{TooLarge, DivisionByZero}

-- a sum or product n
pub fits : (n : ℕ) → n < 2 ^ 64 → ◌≡◌ {A = Result ℕ Failure} (Ok n) (cond (ltb n (2 ^ 64)) (Ok n) (Err TooLarge))
fits n h = rw lt-ltb

-- in whatever way it is written
pub fits_as : (n r : ℕ) → r ≡ n → n < 2 ^ 64 → ◌≡◌ {A = Result ℕ Failure} (Ok r) (cond (ltb n (2 ^ 64)) (Ok n) (Err TooLarge))
fits_as n r e h = rw (e, lt-ltb)

pub above : (n : ℕ) → 2 ^ 64 ≤ n → Err TooLarge ≡ cond (ltb n (2 ^ 64)) (Ok n) (Err TooLarge)
above n h = rw le-ltb

-- a quotient or remainder n by y
pub by_zero : (y n : ℕ) → y ≡ 0 → Err DivisionByZero ≡ cond (eqb y 0) (Err DivisionByZero) (Ok n)
by_zero y n h = rw eq-eqb

pub divided : (y n : ℕ) → (y ≡ 0 → ⊥) → ◌≡◌ {A = Result ℕ Failure} (Ok n) (cond (eqb y 0) (Err DivisionByZero) (Ok n))
divided y n h = rw ne_eqb

-- for y above 0: x ≤ m / y iff x * y ≤ m
pub product_within : {x y m : ℕ} → (y ≡ 0 → ⊥) → x ≤ m / y → x * y ≤ m
product_within y≢0 h = (le-div_iff_mul-le (pos_of_ne-zero y≢0)).0 h

pub product_beyond : {x y m : ℕ} → (y ≡ 0 → ⊥) → m / y < x → m < x * y
product_beyond y≢0 h = (div-lt_iff_lt-mul (pos_of_ne-zero y≢0)).0 h
