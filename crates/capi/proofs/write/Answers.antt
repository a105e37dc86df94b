-- `capi::write` meets its contract: a copy of as many words as fit (proofs/Writing.antt). Assumes nothing.
use Rattle.capi.proofs.Writing.{copied}
use Rattle.capi.proofs.write.Goals as goal

pub returns : goal.returns
returns c = rw c.copy_from_slice.ensures.after (copied c.args.out.now c.args.words.now _ c.min-n.ensures)
