-- `machine::promoted` meets its contract.
use Rattle.machine.proofs.Places.{marked_starts, marked_awaits}
use Rattle.machine.specs.Loop.{frees}
use Rattle.compact.specs.declared.Pause.TheVariants as pause
use Rattle.machine.proofs.promoted.Goals as goal

pub promote-step-requires : goal.promote-step-requires
promote-step-requires c =
    let x = c.begin-more.ensures in (marked_starts x c.requires.0, marked_awaits x c.requires.0 pause.Promotion c.requires.1)

pub returns : goal.returns
returns c = frees _ c.begin-more.ensures c.promote-step.ensures
