-- `lines::Text::breadth_line` meets its contract: the quotient of two values, or `none` where one has no value (proofs/Cases.antt). Assumes nothing.
use Rattle.lines.specs.Lines.{breadth_line}
use Rattle.lines.proofs.Cases.{no_sequential_value, no_parallel_value}
use Rattle.lines.proofs.Text.breadth_line.Goals as goal

pub returns-in_default-clause-wrote : goal.returns-in_default-clause-wrote
returns-in_default-clause-wrote c = rw (← no_sequential_value c.args.sequential c.args.parallel c.in_default.not-Value) c.put.ensures.wrote

pub returns-in-Value-parallel-clause-wrote : goal.returns-in-Value-parallel-clause-wrote
unfolding breadth_line
returns-in-Value-parallel-clause-wrote c = rw (c.in-Value.is, c.in-Value-parallel.is, ← c.breadth.ensures) c.quotient_line.ensures.wrote

pub returns-clause-wrote : goal.returns-clause-wrote
returns-clause-wrote c = rw (← no_parallel_value c.args.sequential c.args.parallel c.in_default-parallel.not-Value) c.put-2.ensures.wrote
