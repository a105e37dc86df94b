-- `moves::resumed` meets its contract.
use mathlib.Core.Path.{refl, ap}
use Rattle.moves.specs.declared.Step.TheVariants.{Go}
use Rattle.moves.specs.Ready.{resumes, stays}
use Rattle.moves.proofs.resumed.Goals as goal

pub returns-in-Ok : goal.returns-in-Ok
returns-in-Ok c = resumes _ c.in-Ok.is (ap Go c.tick.ensures)

pub returns-in-Err : goal.returns-in-Err
returns-in-Err c = stays _ c.in-Err.is refl
