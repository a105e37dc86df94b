-- `strides::choose` meets its contract, by the laws of Forms.
use Rattle.strides.proofs.Forms.{ok_is, first_cost, first_simple, first_led, choose_first, jump_choose}
use Rattle.strides.proofs.choose.Goals as goal

pub cost-k-requires : goal.cost-k-requires
cost-k-requires c = first_cost c.requires.site (choose_first c.requires)

pub simple-requires : goal.simple-requires
simple-requires c = first_simple c.requires.site (choose_first c.requires) _ c.cost-k.ensures (c.fits.ensures c.if-not-fits.false).0

pub returns : goal.returns
returns c =
    let p = c.requires in
    let fit = c.fits.ensures c.if-not-fits.false in
    let led = first_led p.site (choose_first p) _ c.cost-k.ensures fit.0 _ (ok_is c.simple.ensures c.ok.ensures.value c.in_ok-x.was) in
    jump_choose p _ _ _ _ _ led c.frames_of.ensures fit.1 c.branch-node.ensures c.later.ensures
