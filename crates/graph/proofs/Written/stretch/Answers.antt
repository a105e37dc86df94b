-- `graph::Written::stretch` meets its contract.
use Rattle.graph.proofs.Holding.{pending_ends, stretched_none, stretched_some}
use lib.ListN.{length-set}
use native.Mathlib.Omega.{arith}
use Rattle.std.proofs.Common.{rules}
use Rattle.graph.proofs.Written.stretch.Goals as goal

pub bounds-graph-n : goal.bounds-graph-n
bounds-graph-n c = let u = pending_ends c.args.self.words c.args.self.pending (omega (arith, c.if-self-gt0.true)) in search rules

pub bounds-graph-n-then-self-gt0 : goal.bounds-graph-n-then-self-gt0
bounds-graph-n-then-self-gt0 c =
    let u = pending_ends c.args.self.words c.args.self.pending (omega (arith, c.if-self-gt0.true)) in simp length-set (omega (arith, u))

pub returns-then-self-gt0 : goal.returns-then-self-gt0
returns-then-self-gt0 c = stretched_some c.args.graph.now c.args.self.words c.args.self.pending (omega (arith, c.if-self-gt0.true))

pub returns-else-self-gt0 : goal.returns-else-self-gt0
returns-else-self-gt0 c = stretched_none c.args.graph.now c.args.self.words c.args.self.pending (omega (arith, c.if-self-gt0.false))
