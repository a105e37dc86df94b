-- `frames::collect` meets its contract, which is its two stores. Assumes nothing.
use native.Mathlib.Omega.{arith}
use native.Mathlib.Nat.{add_comm}
use lib.ListN.{length-set}
use Rattle.frames.specs.Frames.{collected}
use Rattle.frames.proofs.collect.Goals as goal

pub bounds-ws-b-2 : goal.bounds-ws-b-2
bounds-ws-b-2 c = simp length-set (omega arith)

pub returns : goal.returns
unfolding collected
returns c = simp add_comm
