-- `strides::call_two` meets its contract, by the laws of Calls.
use native.Mathlib.Omega.{arith}
use Rattle.strides.proofs.Forms.{ok_is}
use Rattle.strides.proofs.Calls.{both_some, first_cost, second_cost, first_simple, second_simple, jump_two}
use Rattle.strides.proofs.call_two.Goals as goal

pub cost-k-requires : goal.cost-k-requires
cost-k-requires c = first_cost c.requires.0 c.requires.1 (omega arith)

pub cost-l-requires : goal.cost-l-requires
cost-l-requires c = second_cost c.requires.0 c.requires.1 (omega arith)

pub simple-requires : goal.simple-requires
simple-requires c =
    let some = both_some _ c.cost-k.result c.cost-l.result c.both.ensures (c.fits.ensures c.if-not-fits.false).0 in
    first_simple c.requires.0 c.requires.1 (omega arith) c.cost-k.ensures some.0

pub simple-requires-2 : goal.simple-requires-2
simple-requires-2 c =
    let some = both_some _ c.cost-k.result c.cost-l.result c.both.ensures (c.fits.ensures c.if-not-fits.false).0 in
    second_simple c.requires.0 c.requires.1 (omega arith) c.cost-l.ensures some.1

pub returns : goal.returns
returns c =
    jump_two c.requires.0 c.requires.1 c.cost-k.ensures (ok_is c.simple.ensures c.ok.ensures.value c.in_ok-x.was)
    c.cost-l.ensures (ok_is c.simple-2.ensures c.ok-2.ensures.value c.in_ok-y.was) c.requires.2
    c.frames_of.ensures c.frames_of-2.ensures c.max-h.ensures c.both.ensures (c.fits.ensures c.if-not-fits.false) c.append.ensures c.append-2.ensures c.entered.ensures (omega arith)
