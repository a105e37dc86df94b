-- `report::load` meets its contract. The loop's invariant: the first i arguments are loaded. Assumes nothing.
use mathlib.Core.Path.{◌≡◌}
use lib.ListN.{length, drop}
use lib.Seq.{paste}
use Rattle.report.specs.Input.{pairs_of}
use Rattle.report.proofs.load.Given as goal

abbrev pub invariant-loop-i : goal.invariant-loop-i
invariant-loop-i l = l.arguments ≡ paste l.initial.arguments 0 (pairs_of (length l.initial.arguments) (drop 4 l.words)) l.i
