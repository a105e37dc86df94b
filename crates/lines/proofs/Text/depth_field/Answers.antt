-- `lines::Text::depth_field` meets its contract, the field, and the line's end. Assumes nothing.
use Rattle.lines.specs.Lines.{depth_field}
use Rattle.lines.proofs.Buffer.{then}
use Rattle.lines.proofs.Text.depth_field.Goals as goal

pub returns-clause-wrote : goal.returns-clause-wrote
unfolding depth_field
returns-clause-wrote c =
    then c.number.ensures.wrote c.put.ensures.wrote
