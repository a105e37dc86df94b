-- `lines::Text::number` meets its contract: the fewest digits are the decimal ones, and at most 20 (proofs/Digits.antt). Assumes nothing.
use mathlib.Core.Path.{◌∙◌}
use native.Mathlib.Omega.{arith}
use Rattle.lines.proofs.Buffer.{then_as}
use Rattle.lines.proofs.Digits.{at_most_20, of_fewest}
use Rattle.lines.proofs.Text.number.Goals as goal

pub returns-clause-wrote : goal.returns-clause-wrote
returns-clause-wrote c =
    let most = at_most_20 c.args.n _ c.decimal-k.ensures.len (omega (arith, c.ranges.n)) in
    then_as _ c.put.ensures.wrote c.put-2.ensures.wrote (c.decimal-k.ensures.digits ∙ of_fewest _ _ 20 c.decimal-k.ensures.len most)
