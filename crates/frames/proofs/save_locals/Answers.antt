-- `frames::save_locals` meets its contract, which is its copy. Assumes nothing.
use Rattle.frames.proofs.save_locals.Goals as goal

pub returns : goal.returns
returns c = c.copy.ensures
