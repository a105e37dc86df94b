-- `machine::begin` meets its contract: the counts of a start are 0, and its limit is the fuel. Assumes nothing.
use Rattle.compact.specs.Compact.{limit_of}
use Rattle.machine.proofs.begin.Goals as goal

pub returns : goal.returns
unfolding limit_of
returns c = rw c.none-before.ensures
