-- `strides::evaluate_both` meets its contract.
use mathlib.Core.Path.{refl}
use Rattle.strides.specs.Strides.{Awaits, made, pauses}
use Rattle.strides.proofs.Settling.{move_settles, move_strides, site_framed, site_tag, both_stepped, both_rises, both_continues}
use Rattle.strides.proofs.evaluate_both.Goals as goal

pub evaluate_both-step-requires : goal.evaluate_both-step-requires
evaluate_both-step-requires c = rw c.expand.ensures (site_framed c.requires, c.requires.paid, c.if-plan.false)

pub go_on-requires : goal.go_on-requires
go_on-requires c =
    let u = rw c.expand.ensures at c.evaluate_both-step.ensures in
    (c.requires.calm.starts.paced, move_settles c.requires.calm _ _ _ (both_stepped c.requires refl _ c.evaluate_both-step.auto.ws u), both_continues c.requires c.if-plan.false u)

pub returns-then-plan : goal.returns-then-plan
unfolding Awaits
returns-then-plan c =
    pauses _ refl refl refl (c.requires.calm, c.requires.is, site_tag c.requires, c.if-plan.true)

pub returns : goal.returns
returns c =
    let u = rw c.expand.ensures at c.evaluate_both-step.ensures in
    made (move_strides c.requires.calm _ _ _ (both_stepped c.requires refl _ c.evaluate_both-step.auto.ws u)
    (both_rises c.requires c.if-plan.false u) _ c.go_on.ensures)
