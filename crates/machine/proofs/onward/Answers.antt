-- `machine::onward` meets its contract.
use Rattle.machine.proofs.Looping.{goes_is}
use Rattle.machine.proofs.Running.{starts_less, starts_next}
use Rattle.machine.specs.Loop.{here, more}
use mathlib.Core.Path.{refl, ◌∙◌}
use Rattle.machine.proofs.onward.Goals as goal

pub loop-next-init : goal.loop-next-init
loop-next-init c = (here, c.requires, refl)

pub loop-next-smaller : goal.loop-next-smaller
loop-next-smaller c =
    starts_less c.loop-next.invariant.2 c.loop-next.invariant.1 (goes_is c.stride-step.ensures _ c.in-Go.is)

pub loop-next-preserved : goal.loop-next-preserved
loop-next-preserved c =
    let i = c.loop-next.invariant in
    let long = c.stride-step.auto.ws in
    let st = goes_is c.stride-step.ensures _ c.in-Go.is in
    (more i.0 st long, starts_next i.2 i.1 st long, long ∙ i.2)
