-- `machine::tell` meets its contract.
use Rattle.compact.specs.Compact.{step_of}
use Rattle.machine.specs.Runs.{told_at}
use Rattle.machine.proofs.tell.Goals as goal

pub returns-in-Value : goal.returns-in-Value
unfolding told_at step_of
returns-in-Value c = rw (c.in-Value.is, c.count.ensures)

pub returns-in-Halt : goal.returns-in-Halt
unfolding told_at step_of
returns-in-Halt c = rw (c.in-Halt.is, c.stop.ensures)
