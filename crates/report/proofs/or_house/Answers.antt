-- `report::or_house` meets its contract. Assumes nothing.
use borrow.Author.Tests.{eq-eqb, ne_eqb}
use native.Mathlib.Omega.{arith}
use Rattle.report.specs.Input.{or_house}
use Rattle.report.proofs.or_house.Goals as goal

pub returns-then-given-eq0 : goal.returns-then-given-eq0
unfolding or_house
returns-then-given-eq0 c = rw (eq-eqb c.args.given 0 (omega arith))

pub returns-else-given-eq0 : goal.returns-else-given-eq0
unfolding or_house
returns-else-given-eq0 c = rw (ne_eqb c.args.given 0 (λ e. omega (arith, e))) c.from.ensures
