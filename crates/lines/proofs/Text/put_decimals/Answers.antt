-- `lines::Text::put_decimals` meets its contract: the two digits after a point are those that were made. Assumes nothing.
use Rattle.lines.specs.Lines.{decimals}
use Rattle.lines.proofs.Text.put_decimals.Goals as goal

pub returns-clause-wrote : goal.returns-clause-wrote
unfolding decimals
returns-clause-wrote c = rw (← c.digit-tenths.ensures, ← c.digit-hundredths.ensures) c.put.ensures.wrote
