-- `machine::joined` meets its contract.
use Rattle.machine.specs.Loop.{frees}
use Rattle.machine.proofs.joined.Goals as goal

pub returns : goal.returns
returns c = frees _ c.join-more.ensures c.join-step.ensures
