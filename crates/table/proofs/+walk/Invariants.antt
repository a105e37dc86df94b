-- The walk goes on to later nodes of the body.
use Rattle.std.proofs.Common.{◌-◌}
use Rattle.table.proofs.+walk.Given as goal

abbrev pub decreases-walk : goal.decreases-walk
decreases-walk l = l.body.nodes - l.p
