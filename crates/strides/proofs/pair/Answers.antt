-- `strides::pair` meets its contract, by the laws of Forms.
use native.Mathlib.Omega.{arith}
use Rattle.strides.proofs.Forms.{ok_is, first_cost, first_simple, first_led, pair_first}
use Rattle.strides.proofs.pair.Goals as goal

pub cost-k-requires : goal.cost-k-requires
cost-k-requires c = let p = c.requires.0 in first_cost p.site (pair_first p)

pub simple-requires : goal.simple-requires
simple-requires c = let p = c.requires.0 in first_simple p.site (pair_first p) _ c.cost-k.ensures (omega arith)

pub paired-requires : goal.paired-requires
paired-requires c =
    let p = c.requires in
    (p.0, first_led p.0.site (pair_first p.0) _ c.cost-k.ensures (omega arith) _ (ok_is c.simple.ensures c.ok.ensures.value c.in_ok-x.was), p.1, p.2)
