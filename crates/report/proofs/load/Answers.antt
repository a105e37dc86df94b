-- `report::load` meets its contract. The loop's invariant: the first i arguments are loaded. Assumes nothing.
use mathlib.Core.Path.{◌∙◌}
use native.Mathlib.Omega.{arith}
use lib.ListN.{length, drop}
use lib.Seq.{paste-zero}
use Rattle.report.specs.Input.{pairs_of}
use Rattle.report.proofs.Words.{length_pairs, argument_is, one_more, all_copied}
use Rattle.report.proofs.load.Goals as goal

pub loop-i-init : goal.loop-i-init
loop-i-init c = paste-zero _ 0 (pairs_of (length c.args.arguments.now) (drop 4 c.args.words.now))

pub loop-i-preserved : goal.loop-i-preserved
loop-i-preserved c =
    let n = length c.args.arguments.now in
    let s = pairs_of n (drop 4 c.args.words.now) in
    let all = length_pairs n (drop 4 c.args.words.now) in
    rw c.loop-i.invariant (one_more c.args.arguments.now s c.loop-i.i _ (omega arith) (omega (arith, all)) (c.pair.ensures ∙ argument_is n c.args.words.now c.loop-i.i (omega arith)))

pub returns : goal.returns
returns c =
    let n = length c.args.arguments.now in
    rw c.loop-i.invariant (all_copied c.args.arguments.now (pairs_of n (drop 4 c.args.words.now)) c.loop-i.i (omega arith) (length_pairs n (drop 4 c.args.words.now) ∙ (omega arith)))
