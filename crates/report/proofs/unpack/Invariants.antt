-- `report::unpack` meets its contract. The loop's invariant: the first i words are those of the bytes. Assumes nothing.
use mathlib.Core.Path.{◌≡◌}
use lib.Seq.{paste}
use Rattle.report.specs.Input.{words_of}
use Rattle.report.proofs.unpack.Given as goal

abbrev pub invariant-loop-i : goal.invariant-loop-i
invariant-loop-i l = l.words ≡ paste l.initial.words 0 (words_of l.input) l.i
