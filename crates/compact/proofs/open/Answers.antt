-- `compact::open` meets its contract, by the laws of Keeping.
use Rattle.compact.proofs.Keeping.{kept_opened}
use Rattle.compact.proofs.open.Goals as goal

pub returns : goal.returns
returns c =
    kept_opened c.requires.1 c.expand.ensures c.keep.ensures c.open-step.ensures
