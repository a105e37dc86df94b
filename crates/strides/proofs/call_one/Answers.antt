-- `strides::call_one` meets its contract, by the laws of Calls.
use native.Mathlib.Omega.{arith}
use Rattle.strides.proofs.Forms.{ok_is}
use Rattle.strides.proofs.Calls.{first_cost, first_simple, jump_one}
use Rattle.strides.proofs.call_one.Goals as goal

pub cost-k-requires : goal.cost-k-requires
cost-k-requires c = first_cost c.requires.0 c.requires.1 (omega arith)

pub simple-requires : goal.simple-requires
simple-requires c =
    first_simple c.requires.0 c.requires.1 (omega arith) c.cost-k.ensures (c.fits.ensures c.if-not-fits.false).0

pub returns : goal.returns
returns c =
    jump_one c.requires.0 c.requires.1 c.cost-k.ensures (ok_is c.simple.ensures c.ok.ensures.value c.in_ok-x.was) c.requires.2
    c.frames_of.ensures (c.fits.ensures c.if-not-fits.false) c.append.ensures c.entered.ensures
