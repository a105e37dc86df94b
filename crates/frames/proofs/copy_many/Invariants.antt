-- `frames::copy_many` meets its contract. The loop's invariant: the first i words are copied, and `dst` has kept its length.
use lib.Seq.{paste}
use lib.ListN.{length, drop}
use mathlib.Core.Path.{◌≡◌}
use Rattle.frames.proofs.copy_many.Given as goal

abbrev pub invariant-loop-i : goal.invariant-loop-i
invariant-loop-i l = (l.dst ≡ paste l.initial.dst l.at (drop l.from l.src) l.i) × (length l.dst ≡ length l.initial.dst)
