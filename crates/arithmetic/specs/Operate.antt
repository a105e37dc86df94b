-- 01, "Operations", and the stops 22, 23 and 24 of "Stopped by the run's state".
use Rattle.std.specs.Prelude.{ℕ, ◌+◌, ◌-◌, ◌*◌, ◌/◌, ◌%◌, ◌^◌, Bool, true, false, cond, leb, ltb, eqb, Result, Ok, Err}
use Rattle.table.specs.declared.Operation.{Operation}
use Rattle.table.specs.declared.Operation.TheVariants.{Add, Subtract, Multiply, Divide, Remainder, Less, Equal}
use Rattle.arithmetic.specs.declared.Failure.{Failure}
use Rattle.arithmetic.specs.declared.Failure.TheVariants.{TooLarge, BelowZero, DivisionByZero}

-- 01's stops, "Stopped by the run's state", end a run.
abbrev pub number_of : Failure → ℕ
-- "22 sum or product above 2^64 − 1"
number_of TooLarge = 22
-- "23 difference below 0"
number_of BelowZero = 23
-- "24 divisor 0, in operation 3 or 4"
number_of DivisionByZero = 24

-- "1 or 0", of a test that is true or false
abbrev pub bit : Bool → ℕ
bit true = 1
bit false = 0

-- The result of an operation, or why it has none. Sum, difference, product, quotient and remainder are those of natural numbers: the
-- quotient is rounded down.
unfoldable pub computed : Operation → ℕ → ℕ → Result ℕ Failure
-- "0 add"; "22 sum or product above 2^64 − 1"
computed Add x y = cond (ltb (x + y) (2 ^ 64)) (Ok (x + y)) (Err TooLarge)
-- "1 subtract"; "23 difference below 0"
computed Subtract x y = cond (leb y x) (Ok (x - y)) (Err BelowZero)
-- "2 multiply"; "22 sum or product above 2^64 − 1"
computed Multiply x y = cond (ltb (x * y) (2 ^ 64)) (Ok (x * y)) (Err TooLarge)
-- "3 divide"; "24 divisor 0, in operation 3 or 4"
computed Divide x y = cond (eqb y 0) (Err DivisionByZero) (Ok (x / y))
-- "4 remainder"; "24 divisor 0, in operation 3 or 4"
computed Remainder x y = cond (eqb y 0) (Err DivisionByZero) (Ok (x % y))
-- "5 less (1 or 0)"
computed Less x y = Ok (bit (ltb x y))
-- "6 equal (1 or 0)"
computed Equal x y = Ok (bit (eqb x y))
