-- The bodies before f are good, and f's begins at `start`.
use mathlib.Core.Path.{◌≡◌}
use Rattle.table.specs.Words.{functions as functionsOf, start_of}
use Rattle.table.specs.Read.{body_read}
use Rattle.table.proofs.InOrder.{Reached}
use Rattle.table.proofs.bodies_read.Given as goal

abbrev pub invariant-loop-f : goal.invariant-loop-f
invariant-loop-f l = record {
  start : l.start ≡ start_of l.words l.f;
  reached : Reached (body_read l.words) (functionsOf l.words) l.f;
}
