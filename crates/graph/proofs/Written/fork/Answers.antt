-- `graph::Written::fork` meets its contract.
use native.Mathlib.Omega.{arith}
use Rattle.graph.proofs.Holding.{counted_few, within_fits, within_over}
use Rattle.std.proofs.Common.{rules}
use Rattle.graph.proofs.Written.fork.Goals as goal

pub overflow_add-place : goal.overflow_add-place
overflow_add-place c = let u = counted_few c.args.self.words c.args.self.pending in search rules

pub returns-then-place-graph : goal.returns-then-place-graph
returns-then-place-graph c =
    (c.ended-place.ensures, rw (c.stretch.ensures, c.ended-place.ensures) (within_fits _ _ _ (omega (arith, c.ended-place.ensures, c.if-place-graph.true))))

pub returns-else-place-graph : goal.returns-else-place-graph
returns-else-place-graph c =
    (c.ended-place.ensures, within_over _ _ _ (omega (arith, c.ended-place.ensures, c.if-place-graph.false)))
