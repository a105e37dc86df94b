-- `strides::whole` meets its contract, by the laws of Forms.
use Rattle.strides.proofs.Forms.{ok_is, pair_right, child_simple, jump_pair}
use Rattle.strides.proofs.whole.Goals as goal

pub simple-requires : goal.simple-requires
simple-requires c =
    let p = c.requires in
    child_simple _ _ _ _ _ _ p.0.site _ _ _ (pair_right p.0) p.2 p.3 p.4

pub returns : goal.returns
returns c =
    let p = c.requires in
    jump_pair p.0 _ _ _ _ _ _ _ _ _ _ p.1 p.2 p.3 p.4 (ok_is c.simple.ensures c.ok.ensures.value c.in_ok-y.was) (ok_is c.operate.ensures c.ok-2.ensures.value c.in_ok-v.was)
    c.frames_of.ensures c.frames_of-2.ensures c.max-h.ensures (c.fits.ensures c.if-not-fits.false).1 c.later.ensures
