-- The starts of the functions before f are found, and f's body begins at `start`.
use mathlib.Core.Path.{◌≡◌}
use Rattle.table.specs.Words.{start_of}
use Rattle.table.proofs.Filling.{Filled}
use Rattle.table.proofs.starts.Given as goal

abbrev pub invariant-loop-f : goal.invariant-loop-f
invariant-loop-f l = record { start : l.start ≡ start_of l.words l.f; filled : Filled l.words l.found l.f }
