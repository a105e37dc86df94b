-- `machine::forked` meets its contract.
use Rattle.machine.proofs.Places.{marked_alike, marked_awaits}
use Rattle.machine.specs.Loop.{frees, stops}
use Rattle.compact.specs.declared.Pause.TheVariants as pause
use mathlib.Core.Path.{refl}
use Rattle.std.proofs.Common.{rules}
use Rattle.machine.proofs.forked.Goals as goal

pub fork-step-requires : goal.fork-step-requires
fork-step-requires c =
    let x = c.begin-more.ensures in (marked_awaits x c.requires.0 (pause.Fork _) c.requires.1, rw (marked_alike x).0 (search rules))

pub returns-then-g-ws : goal.returns-then-g-ws
returns-then-g-ws c = frees _ c.begin-more.ensures c.fork-step.ensures

pub returns-else-g-ws : goal.returns-else-g-ws
returns-else-g-ws c = stops refl refl c.crowded.ensures.0 c.crowded.ensures.1
