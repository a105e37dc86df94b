-- `strides::half` meets its contract, by the laws of Forms.
use mathlib.Core.Path.{refl}
use native.Mathlib.Omega.{arith}
use Rattle.strides.specs.Strides.{neither}
use Rattle.strides.proofs.Forms.{within, one_frame, half_paired}
use Rattle.strides.proofs.half.Goals as goal

pub overflow_add-h : goal.overflow_add-h
overflow_add-h c = omega (arith, one_frame _ c.args.k c.frames_of-h.ensures)

pub fits-requires : goal.fits-requires
fits-requires c =
    (c.requires.0.site.small, omega (arith, c.requires.1.few), omega arith, omega (arith, one_frame _ c.args.k c.frames_of-h.ensures))

pub overflow_mul-b : goal.overflow_mul-b
overflow_mul-b c = omega (arith, (c.fits.ensures c.if-not-fits.false).1.within)

pub push-requires : goal.push-requires
push-requires c =
    let p = c.requires.0.site in
    (omega (arith, (c.fits.ensures c.if-not-fits.false).1.within), p.stands.few, p.sixteen)

pub turn-requires : goal.turn-requires
turn-requires c = omega (arith, (c.fits.ensures c.if-not-fits.false).1.within)

pub overflow_add-node : goal.overflow_add-node
overflow_add-node c = omega (arith, within c.requires.0.site)

pub offset_bounds-site-site : goal.offset_bounds-site-site
offset_bounds-site-site c = omega (arith, within c.requires.0.site)

pub bounds-site-site : goal.bounds-site-site
bounds-site-site c = omega (arith, within c.requires.0.site)

pub later-requires : goal.later-requires
later-requires c = (c.requires.0.site.small, omega (arith, c.requires.1.few))

pub returns : goal.returns
returns c =
    let p = c.requires in
    half_paired p.0 _ _ _ _ _ _ _ _ p.1 c.frames_of-h.ensures (c.fits.ensures c.if-not-fits.false).1 refl
    (rw (c.from-kind.ensures, c.none.ensures) at c.push.ensures) (rw (c.from-kind.ensures, c.none-2.ensures) at c.turn.ensures) c.later.ensures

pub returns-then-not-fits : goal.returns-then-not-fits
returns-then-not-fits c = neither refl refl
