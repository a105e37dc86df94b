-- The entries before f are good, and `sum` counts their nodes.
use Prim.Native.Nat.{◌≤◌}
use mathlib.Core.Path.{◌≡◌}
use Rattle.table.specs.Words.{functions as functionsOf, nodes_before}
use Rattle.table.specs.Read.{entry}
use Rattle.table.proofs.InOrder.{Reached}
use Rattle.table.proofs.contents_read.Given as goal

abbrev pub invariant-loop-f : goal.invariant-loop-f
invariant-loop-f l = record {
  sum : l.sum ≡ nodes_before l.words l.f;
  few : l.sum ≤ 4000;
  reached : Reached (entry l.words) (functionsOf l.words) l.f;
}
