-- The fewest digits that hold a number are its decimal digits.
-- Assumes nothing.
use Prim.Native.Nat.{ℕ, zero, suc, ◌-◌, ◌*◌, ◌/◌, ◌%◌, ◌^◌, ◌≤◌, ◌<◌}
use mathlib.Core.Path.{◌≡◌}
use native.Mathlib.Omega.{arith}
use native.Mathlib.Nat.{pow-suc, one-le-pow, pow-le-pow_right}
use native.Mathlib.Decide.{dec_le}
use borrow.Author.Tests.{lt-ltb, le-ltb}
use Rattle.io.specs.Digits.{last_digits, IsDigitCount}
use Rattle.lines.specs.Lines.{digits_in}

less_one : (r : ℕ) → suc r - 1 ≡ r
less_one r = omega arith

-- a tenth of it has one digit less
fewer : (r n : ℕ) → 1 < suc r → 10 ^ r * 10 ≤ n → 10 ^ (suc r - 1) ≤ n / 10
fewer r n g h = rw (less_one r) (omega (arith, h))

pub of_fewest : (n r k : ℕ) → IsDigitCount 10 1 n r → r ≤ k → last_digits 10 r n ≡ digits_in k n
unfolding digits_in
of_fewest n zero k (h, below, above) l = absurd (omega (arith, h))
of_fewest n (suc r) zero (h, below, above) l = absurd (omega (arith, l))
of_fewest n (suc zero) (suc k) (h, below, above) l =
    let few : n < 10 = below in
    let last : n % 10 ≡ n = omega (arith, few) in
    rw (lt-ltb n 10 few, last, lt-ltb n 10 few)
of_fewest n (suc (suc r)) (suc k) (h, below, above) l =
    let many : 10 ^ suc r ≤ n = rw (← less_one (suc r)) (above (omega arith)) in
    let top : n < 10 ^ suc r * 10 = rw (← pow-suc 10 (suc r)) below in
    let last : n % 10 < 10 = omega arith in
    let rest : IsDigitCount 10 1 (n / 10) (suc r) = (omega arith, omega (arith, top), λ g. fewer r n g (rw (← pow-suc 10 r) many)) in
    let large : 10 ≤ n = omega (arith, many, pow-suc 10 r, one-le-pow r 10 (omega arith)) in
    rw (le-ltb n 10 large, of_fewest (n / 10) (suc r) k rest (omega (arith, l)), lt-ltb (n % 10) 10 last)

-- a 64-bit number has at most 20 digits
pub at_most_20 : (n r : ℕ) → IsDigitCount 10 1 n r → n < 2 ^ 64 → r ≤ 20
at_most_20 n r (h, below, above) small = by_cases (dec_le r 20)
  where
    by_cases : Dec (r ≤ 20) → r ≤ 20
    by_cases (yes l) = l
    by_cases (no l) =
        let many : 21 ≤ r = omega (arith, l) in
        let large : 10 ^ 20 ≤ 10 ^ (r - 1) = pow-le-pow_right {n = 10} (omega arith) {i = 20} {j = r - 1} (omega (arith, many)) in
        absurd (omega (arith, large, above (omega (arith, many)), small))
