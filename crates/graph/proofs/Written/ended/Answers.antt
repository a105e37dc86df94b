-- `graph::Written::ended` meets its contract.
use Rattle.graph.proofs.Holding.{ended_none, ended_some}
use native.Mathlib.Omega.{arith}
use Rattle.graph.proofs.Written.ended.Goals as goal

pub returns-then-self-eq0 : goal.returns-then-self-eq0
returns-then-self-eq0 c = ended_none c.args.self.words c.args.self.pending (omega (arith, c.if-self-eq0.true))

pub returns-else-self-eq0 : goal.returns-else-self-eq0
returns-else-self-eq0 c = ended_some c.args.self.words c.args.self.pending c.if-self-eq0.false
