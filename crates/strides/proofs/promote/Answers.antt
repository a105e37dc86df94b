-- `strides::promote` meets its contract.
use mathlib.Core.Path.{refl, sym, ap, ◌∙◌}
use Rattle.strides.proofs.Settling.{step_settles, step_frees, promote_occurs}
use Rattle.compact.specs.Compact.{full, freed_by}
use Rattle.strides.specs.Strides.{Awaits}
use Rattle.moves.proofs.Advancing.{promote_ready, advanced_promote}
use Rattle.strides.proofs.promote.Goals as goal

pub promote-s-requires : goal.promote-s-requires
unfolding Awaits
promote-s-requires c =
    rw c.expand.ensures (promote_ready c.args.words.now c.args.ws.now c.args.locals.now c.args.plan (full c.args.g) c.requires.0.ready _ (sym c.requires.1) refl)

pub settle-next-requires : goal.settle-next-requires
unfolding Awaits
settle-next-requires c =
    let u = rw c.expand.ensures at c.promote-s.ensures in
    step_settles c.requires.0 _ _ _
    (advanced_promote c.args.words.now c.args.ws.now c.args.locals.now c.args.plan (full c.args.g) c.requires.0.ready _ (sym c.requires.1) refl _ c.promote-s.auto.ws _ u)

pub returns : goal.returns
unfolding Awaits
returns c =
    let u = rw c.expand.ensures at c.promote-s.ensures in
    step_frees c.requires.0 _ _ _ _
    (advanced_promote c.args.words.now c.args.ws.now c.args.locals.now c.args.plan (full c.args.g) c.requires.0.ready _ (sym c.requires.1) refl _ c.promote-s.auto.ws _ u)
    _ refl (promote_occurs c.args.words.now c.args.ws.now c.args.locals.now c.args.plan c.args.g c.requires.1 _) _ (c.free.ensures ∙ ap (freed_by _) c.settle-next.ensures)
