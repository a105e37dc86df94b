-- `lines::Text::quotient_line` meets its contract: one text after another (proofs/Buffer.antt). Assumes nothing.
use Prim.Native.Nat.{◌/◌}
use native.Mathlib.Omega.{arith}
use Rattle.lines.specs.Lines.{tagged, decimals, quotient_line}
use Rattle.lines.proofs.Buffer.{then, same, of_equal}
use Rattle.lines.proofs.Text.quotient_line.Goals as goal

pub put-requires : goal.put-requires
unfolding decimals
put-requires c =
    omega (arith, c.number.ensures.short, c.put_decimals.ensures.wrote.ends, same c.put_decimals.ensures.wrote, same c.number.ensures.wrote, c.requires)

pub returns-clause-wrote : goal.returns-clause-wrote
unfolding quotient_line decimals
returns-clause-wrote c =
    then (of_equal (tagged "breadth ") _ (c.args.n / 100) (omega arith) c.number.ensures.wrote) (then c.put_decimals.ensures.wrote c.put.ensures.wrote)

pub returns-clause-short : goal.returns-clause-short
unfolding decimals
returns-clause-short c =
    omega (arith, c.number.ensures.short, c.put_decimals.ensures.wrote.ends, c.put.ensures.wrote.ends)
