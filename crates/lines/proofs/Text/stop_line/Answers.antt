-- `lines::Text::stop_line` meets its contract, text after text. Assumes nothing.
use Rattle.lines.specs.Lines.{stop_line}
use Rattle.lines.proofs.Buffer.{then}
use Rattle.lines.proofs.Text.stop_line.Goals as goal

pub returns-clause-wrote : goal.returns-clause-wrote
unfolding stop_line
returns-clause-wrote c =
    then c.number.ensures.wrote (then c.number-2.ensures.wrote (then c.number-3.ensures.wrote (then c.number-4.ensures.wrote c.depth_field.ensures.wrote)))
