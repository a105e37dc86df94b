-- `compact::limit_after` meets its contract, by the laws of Keeping.
use Rattle.compact.proofs.Keeping.{limit_again, limit_none}
use Rattle.compact.proofs.limit_after.Goals as goal

pub returns-then-oldest-lt-NO_FORK : goal.returns-then-oldest-lt-NO_FORK
returns-then-oldest-lt-NO_FORK c = rw c.saturating_sub.ensures (limit_again c.args.plan c.args.g c.requires.0 c.args.oldest c.if-oldest-lt-NO_FORK.true)

pub returns-else-oldest-lt-NO_FORK : goal.returns-else-oldest-lt-NO_FORK
returns-else-oldest-lt-NO_FORK c = limit_none c.args.plan c.args.g.since c.args.oldest c.if-oldest-lt-NO_FORK.false
