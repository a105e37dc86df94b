-- A result fits 64 bits where the first operand does. Assumes nothing.
use Prim.Native.Nat.{ℕ, ◌<◌, ◌+◌, ◌-◌, ◌*◌, ◌/◌, ◌%◌, ◌^◌}
use Rattle.std.specs.Prelude.{Result, Ok, Err}
use mathlib.Core.Path.{◌≡◌, refl}
use mathlib.Core.Bool.{Bool, true, false, cond}
use native.Mathlib.Omega.{arith}
use native.Mathlib.Nat.{div-le_self, mod-le}
use lib.Dec.{leb, ltb, eqb}
use borrow.Author.Tests.{ltb-true}
use Rattle.table.specs.declared.Operation.{Operation}
use Rattle.table.specs.declared.Operation.TheVariants.{Add, Subtract, Multiply, Divide, Remainder, Less, Equal}
use Rattle.arithmetic.specs.declared.Failure.{Failure}
use Rattle.arithmetic.specs.declared.Failure.TheVariants.{TooLarge, BelowZero, DivisionByZero}
use Rattle.arithmetic.specs.Operate.{bit, computed}

-- the result, if it is one, fits
abbrev Fits : Result ℕ Failure → Type 0
Fits (Ok n) = n < 2 ^ 64
Fits (Err e) = Unit {0}

-- of a test's two answers each need fit only in its case
either : (b : Bool) (p q : Result ℕ Failure) → (b ≡ true → Fits p) → (b ≡ false → Fits q) → Fits (cond b p q)
either true p q h g = h refl
either false p q h g = g refl

-- a sum or product n
total_fits : (n : ℕ) → Fits (cond (ltb n (2 ^ 64)) (Ok n) (Err TooLarge))
total_fits n = either (ltb n (2 ^ 64)) (Ok n) (Err TooLarge) (ltb-true n (2 ^ 64)) (λ _. tt)

-- a quotient or remainder n by y
divided_fits : (y n : ℕ) → n < 2 ^ 64 → Fits (cond (eqb y 0) (Err DivisionByZero) (Ok n))
divided_fits y n h = either (eqb y 0) (Err DivisionByZero) (Ok n) (λ _. tt) (λ _. h)

bit_fits : (b : Bool) → bit b < 2 ^ 64
bit_fits true = omega arith
bit_fits false = omega arith

each_fits : (o : Operation) (x y : ℕ) → x < 2 ^ 64 → Fits (computed o x y)
unfolding computed
each_fits Add x y h = total_fits (x + y)
each_fits Subtract x y h = either (leb y x) (Ok (x - y)) (Err BelowZero) (λ _. omega arith) (λ _. tt)
each_fits Multiply x y h = total_fits (x * y)
each_fits Divide x y h = divided_fits y (x / y) (omega (arith, div-le_self x y))
each_fits Remainder x y h = divided_fits y (x % y) (omega (arith, mod-le x y))
each_fits Less x y h = bit_fits (ltb x y)
each_fits Equal x y h = bit_fits (eqb x y)

pub computed_fits : (o : Operation) (x y : ℕ) {r : ℕ} → x < 2 ^ 64 → computed o x y ≡ Ok r → r < 2 ^ 64
computed_fits o x y h e = rw e at (each_fits o x y h)
