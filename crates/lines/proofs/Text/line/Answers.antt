-- `lines::Text::line` meets its contract: the name, and the line of the answer's case. Assumes nothing.
use Rattle.lines.specs.Lines.{answer_line}
use Rattle.lines.proofs.Buffer.{then}
use Rattle.lines.proofs.Text.line.Goals as goal

pub returns-in-Value-clause-wrote : goal.returns-in-Value-clause-wrote
unfolding answer_line
returns-in-Value-clause-wrote c = rw c.in-Value.is (then c.put.ensures.wrote c.value_line.ensures.wrote)

pub returns-in-Stopped-clause-wrote : goal.returns-in-Stopped-clause-wrote
unfolding answer_line
returns-in-Stopped-clause-wrote c = rw c.in-Stopped.is (then c.put.ensures.wrote c.stop_line.ensures.wrote)

pub returns-in-Refused-clause-wrote : goal.returns-in-Refused-clause-wrote
unfolding answer_line
returns-in-Refused-clause-wrote c = rw c.in-Refused.is (then c.put.ensures.wrote c.refusal_line.ensures.wrote)
