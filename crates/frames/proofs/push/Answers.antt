-- `frames::push` meets its contract, which is its six stores and the saver's. Assumes nothing.
use mathlib.Core.Path.{◌∙◌}
use native.Mathlib.Omega.{arith}
use lib.ListN.{length-set}
use Rattle.frames.specs.Frames.{pushed}
use Rattle.frames.proofs.push.Goals as goal

pub bounds-ws-b-2 : goal.bounds-ws-b-2
bounds-ws-b-2 c = simp length-set (omega arith)

pub bounds-ws-b-3 : goal.bounds-ws-b-3
bounds-ws-b-3 c = simp length-set (omega arith)

pub bounds-ws-b-4 : goal.bounds-ws-b-4
bounds-ws-b-4 c = simp length-set (omega arith)

pub bounds-ws-b-5 : goal.bounds-ws-b-5
bounds-ws-b-5 c = simp length-set (omega arith)

pub bounds-ws-b-6 : goal.bounds-ws-b-6
bounds-ws-b-6 c = simp length-set (omega arith)

pub save_locals-requires : goal.save_locals-requires
save_locals-requires c = (simp length-set (omega arith), omega arith, omega arith)

pub shape_of-ws : goal.shape_of-ws
shape_of-ws c = c.save_locals.auto.ws ∙ simp length-set

pub returns : goal.returns
unfolding pushed
returns c = c.save_locals.ensures
