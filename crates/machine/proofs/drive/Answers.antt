-- `machine::drive` meets its contract.
use Rattle.machine.proofs.Looping.{final, limit_awaits, pause_next, end_next, free_done, free_ends}
use Rattle.machine.proofs.Tracking.{tracking_first, small_end, free_markable, wrote}
use Rattle.machine.proofs.Running.{running_first, running_expands, running_counts, running_ends, no_further}
use mathlib.Core.Path.{refl, ◌∙◌}
use native.Mathlib.Omega.{arith}
use Rattle.machine.proofs.drive.Goals as goal

pub loop-pause-init : goal.loop-pause-init
loop-pause-init c =
    (running_first c.requires c.begin-from.ensures, tracking_first _ c.requires c.begin-from.ensures, refl)

pub resolved-step-requires : goal.resolved-step-requires
resolved-step-requires c = limit_awaits c.onward-reached.ensures

pub finish-requires : goal.finish-requires
finish-requires c =
    let i = c.loop-pause.invariant in
    let not = c.in_default.not-Paused in
    let x = end_next c.onward-reached.ensures c.resolved-step.ensures i.0 i.1 not in
    ((running_expands x.0).0, (running_expands x.0).1, running_counts x.0, small_end x.0 x.1, final _ x.2 x.3)

pub returns-in_default : goal.returns-in_default
returns-in_default c =
    let i = c.loop-pause.invariant in
    let not = c.in_default.not-Paused in
    let x = end_next c.onward-reached.ensures c.resolved-step.ensures i.0 i.1 not in
    (running_ends x.0 x.2.strode (no_further x.2 x.3) _ c.finish.ensures.0, wrote x.0 x.1 x.2 x.3 _ _ _ i.2 (c.finish.auto.graph ∙ i.2) c.finish.ensures.1)

pub free-moved-requires : goal.free-moved-requires
free-moved-requires c =
    let i = c.loop-pause.invariant in
    let x = pause_next c.onward-reached.ensures c.resolved-step.ensures i.0 i.1 _ c.in-Paused.is in
    (x.0.starts, x.3, x.4, free_markable x.0 x.1 _ x.3 x.4)

pub finish-requires-in_default-end : goal.finish-requires-in_default-end
finish-requires-in_default-end c =
    let i = c.loop-pause.invariant in
    let x = pause_next c.onward-reached.ensures c.resolved-step.ensures i.0 i.1 _ c.in-Paused.is in
    let y = free_ends x.1 c.free-moved.ensures c.in_default-end.not-Free in
    ((running_expands x.0).0, (running_expands x.0).1, running_counts x.0, small_end x.0 y.0, final _ y.1 y.2)

pub returns-in_default-end : goal.returns-in_default-end
returns-in_default-end c =
    let i = c.loop-pause.invariant in
    let x = pause_next c.onward-reached.ensures c.resolved-step.ensures i.0 i.1 _ c.in-Paused.is in
    let y = free_ends x.1 c.free-moved.ensures c.in_default-end.not-Free in
    let long = c.free-moved.auto.graph ∙ i.2 in
    (running_ends x.0 y.1.strode (no_further y.1 y.2) _ c.finish-in_default-end.ensures.0, wrote x.0 y.0 y.1 y.2 _ _ _ long (c.finish-in_default-end.auto.graph ∙ long) c.finish-in_default-end.ensures.1)

pub loop-pause-smaller : goal.loop-pause-smaller
loop-pause-smaller c =
    let i = c.loop-pause.invariant in
    let x = pause_next c.onward-reached.ensures c.resolved-step.ensures i.0 i.1 _ c.in-Paused.is in
    let y = free_done x.0 x.1 c.free-moved.ensures c.free-moved.auto.ws _ _ c.in-Free.is in
    omega (arith, x.2, y.1)

pub loop-pause-preserved : goal.loop-pause-preserved
loop-pause-preserved c =
    let i = c.loop-pause.invariant in
    let x = pause_next c.onward-reached.ensures c.resolved-step.ensures i.0 i.1 _ c.in-Paused.is in
    let y = free_done x.0 x.1 c.free-moved.ensures c.free-moved.auto.ws _ _ c.in-Free.is in
    (y.0, y.2, c.free-moved.auto.graph ∙ i.2)
