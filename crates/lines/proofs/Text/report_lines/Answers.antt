-- `lines::Text::report_lines` meets its contract: one line where the input is refused, else line after line (proofs/Cases.antt). Assumes nothing.
use Rattle.lines.proofs.Cases.{unrefused}
use Rattle.lines.specs.Lines.{report_lines}
use Rattle.lines.proofs.Buffer.{then}
use Rattle.lines.proofs.Text.report_lines.Goals as goal

pub returns-in-Refused-clause-wrote : goal.returns-in-Refused-clause-wrote
unfolding report_lines
returns-in-Refused-clause-wrote c = rw c.in-Refused.is c.refusal_line.ensures.wrote

pub returns-clause-wrote : goal.returns-clause-wrote
returns-clause-wrote c =
    rw (← unrefused c.args.sequential c.args.parallel c.args.heartbeat c.in_default.not-Refused) (then c.line.ensures.wrote (then c.line-2.ensures.wrote (then c.line-3.ensures.wrote c.breadth_line.ensures.wrote)))
