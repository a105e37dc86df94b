-- `frames::turn` meets its contract, which is its three stores. Assumes nothing.
use native.Mathlib.Omega.{arith}
use native.Mathlib.Nat.{add_comm}
use lib.ListN.{length-set}
use Rattle.frames.specs.Frames.{turned}
use Rattle.frames.proofs.turn.Goals as goal

pub bounds-ws-b-2 : goal.bounds-ws-b-2
bounds-ws-b-2 c = simp length-set (omega arith)

pub bounds-ws-b-3 : goal.bounds-ws-b-3
bounds-ws-b-3 c = simp length-set (omega arith)

pub returns : goal.returns
unfolding turned
returns c = simp add_comm
