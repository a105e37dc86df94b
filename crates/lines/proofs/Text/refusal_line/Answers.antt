-- `lines::Text::refusal_line` meets its contract, text after text. Assumes nothing.
use Rattle.lines.specs.Lines.{refusal_line}
use Rattle.lines.proofs.Buffer.{then}
use Rattle.lines.proofs.Text.refusal_line.Goals as goal

pub returns-clause-wrote : goal.returns-clause-wrote
unfolding refusal_line
returns-clause-wrote c =
    then c.number.ensures.wrote (then c.number-2.ensures.wrote (then c.number-3.ensures.wrote c.put.ensures.wrote))
