-- `report::unpack` meets its contract. The loop's invariant: the first i words are those of the bytes. Assumes nothing.
use mathlib.Core.Path.{◌∙◌}
use native.Mathlib.Omega.{arith}
use lib.Seq.{paste-zero}
use Rattle.report.specs.Input.{words_of}
use Rattle.report.proofs.Words.{length_words, word_is, one_more}
use Rattle.report.proofs.unpack.Goals as goal

pub loop-i-init : goal.loop-i-init
loop-i-init c = paste-zero _ 0 (words_of c.args.input.now)

pub loop-i-preserved : goal.loop-i-preserved
loop-i-preserved c =
    let s = words_of c.args.input.now in
    let all = length_words c.args.input.now in
    rw c.loop-i.invariant (one_more c.args.words.now s c.loop-i.i _ (omega arith) (omega (arith, all)) (c.word.ensures ∙ rw (word_is c.args.input.now c.loop-i.i (omega arith))))
