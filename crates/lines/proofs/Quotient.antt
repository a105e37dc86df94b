-- Laws of the breadth's quotient.
--     equal_quotients    equal dividends have equal quotients
--     below_one          what a breadth below 1 says
use Prim.Native.Nat.{ℕ, ◌*◌, ◌/◌, ◌<◌}
use mathlib.Core.Path.{◌≡◌, ap}
use mathlib.Core.Logic.{◌↔◌}
use native.Mathlib.Nat.{div-lt_iff_lt-mul}
use native.Mathlib.Omega.{arith}
use Rattle.lines.specs.Lines.{breadth_of, BelowOne}

pub equal_quotients : (a b span : ℕ) → a ≡ b → a / span ≡ b / span
equal_quotients a b span e = ap (λ (x : ℕ). x / span) e

pub below_one : BelowOne
below_one work span positive =
    let same : breadth_of work span ≡ work * 100 / span = equal_quotients _ _ span (omega arith) in
    let quotient : (work * 100 / span < 100) ↔ (work * 100 < 100 * span) = div-lt_iff_lt-mul positive in (
      λ h. let less : work * 100 / span < 100 = omega (arith, same, h) in omega (arith, quotient.0 less),
      λ h. let less = quotient.1 (omega (arith, h)) in omega (arith, same, less),
    )
