-- `strides::call_three` meets its contract, by the laws of Calls.
use native.Mathlib.Omega.{arith}
use Rattle.strides.proofs.Forms.{ok_is}
use Rattle.strides.proofs.Calls.{both_some, first_cost, second_cost, third_cost, first_simple, second_simple, third_simple, jump_three}
use Rattle.strides.proofs.call_three.Goals as goal

pub cost-k-requires : goal.cost-k-requires
cost-k-requires c = first_cost c.requires.0 c.requires.1 (omega arith)

pub cost-l-requires : goal.cost-l-requires
cost-l-requires c = second_cost c.requires.0 c.requires.1 (omega arith)

pub cost-m-requires : goal.cost-m-requires
cost-m-requires c = third_cost c.requires.0 c.requires.1 (omega arith)

pub simple-requires : goal.simple-requires
simple-requires c =
    let last = both_some _ c.both.result c.cost-m.result c.both-2.ensures (c.fits.ensures c.if-not-fits.false).0 in
    first_simple c.requires.0 c.requires.1 (omega arith) c.cost-k.ensures (both_some _ c.cost-k.result c.cost-l.result c.both.ensures last.0).0

pub simple-requires-2 : goal.simple-requires-2
simple-requires-2 c =
    let last = both_some _ c.both.result c.cost-m.result c.both-2.ensures (c.fits.ensures c.if-not-fits.false).0 in
    second_simple c.requires.0 c.requires.1 (omega arith) c.cost-l.ensures (both_some _ c.cost-k.result c.cost-l.result c.both.ensures last.0).1

pub simple-requires-3 : goal.simple-requires-3
simple-requires-3 c =
    let last = both_some _ c.both.result c.cost-m.result c.both-2.ensures (c.fits.ensures c.if-not-fits.false).0 in
    third_simple c.requires.0 c.requires.1 (omega arith) c.cost-m.ensures last.1

pub returns : goal.returns
returns c =
    jump_three c.requires.0 c.requires.1 c.cost-k.ensures (ok_is c.simple.ensures c.ok.ensures.value c.in_ok-x.was)
    c.cost-l.ensures (ok_is c.simple-2.ensures c.ok-2.ensures.value c.in_ok-y.was)
    c.cost-m.ensures (ok_is c.simple-3.ensures c.ok-3.ensures.value c.in_ok-z.was) c.requires.2
    c.frames_of-3.ensures c.frames_of.ensures c.frames_of-2.ensures c.max-low.ensures c.max-h.ensures
    c.both.ensures c.both-2.ensures (c.fits.ensures c.if-not-fits.false) c.append.ensures c.append-2.ensures c.append-3.ensures c.entered.ensures
