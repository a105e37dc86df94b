-- `strides::bind` meets its contract, by the laws of Forms.
use mathlib.Core.Path.{refl}
use Rattle.strides.proofs.Forms.{ok_is, first_cost, first_simple, first_led, let_first, let_few, jump_let}
use Rattle.strides.proofs.bind.Goals as goal

pub cost-k-requires : goal.cost-k-requires
cost-k-requires c = first_cost c.requires.site (let_first c.requires)

pub simple-requires : goal.simple-requires
simple-requires c = first_simple c.requires.site (let_first c.requires) _ c.cost-k.ensures (c.fits.ensures c.if-not-fits.false).0

pub append-requires : goal.append-requires
append-requires c = (let_few c.requires, c.requires.site.sixteen)

pub returns : goal.returns
returns c =
    let p = c.requires in
    let fit = c.fits.ensures c.if-not-fits.false in
    let led = first_led p.site (let_first p) _ c.cost-k.ensures fit.0 _ (ok_is c.simple.ensures c.ok.ensures.value c.in_ok-x.was) in
    jump_let p _ _ _ _ _ _ led c.frames_of.ensures fit.1 refl c.append.ensures c.later.ensures
