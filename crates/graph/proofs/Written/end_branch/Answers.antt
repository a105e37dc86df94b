-- `graph::Written::end_branch` meets its contract.
use native.Mathlib.Omega.{arith}
use Rattle.graph.proofs.Holding.{within_fits, within_over}
use Rattle.graph.proofs.Written.end_branch.Goals as goal

pub returns-then-end-graph : goal.returns-then-end-graph
returns-then-end-graph c =
    (c.ended-end.ensures, rw (c.stretch.ensures, c.ended-end.ensures) (within_fits _ _ _ (omega (arith, c.ended-end.ensures, c.if-end-graph.true))))

pub returns-else-end-graph : goal.returns-else-end-graph
returns-else-end-graph c =
    (c.ended-end.ensures, within_over _ _ _ (omega (arith, c.ended-end.ensures, c.if-end-graph.false)))
