-- `machine::turned` meets its contract.
use Rattle.machine.proofs.Places.{marked_awaits}
use Rattle.machine.specs.Loop.{frees}
use Rattle.compact.specs.declared.Pause.TheVariants as pause
use Rattle.machine.proofs.turned.Goals as goal

pub turn-step-requires : goal.turn-step-requires
turn-step-requires c =
    marked_awaits c.turn-more.ensures c.requires.0 (pause.Turn _ _) c.requires.1

pub returns : goal.returns
returns c = frees _ c.turn-more.ensures c.turn-step.ensures
