-- `frames::mark` meets its contract, which is its two stores. Assumes nothing.
use native.Mathlib.Omega.{arith}
use lib.ListN.{length-set}
use Rattle.frames.proofs.mark.Goals as goal

pub bounds-ws-b-2 : goal.bounds-ws-b-2
bounds-ws-b-2 c = simp length-set (omega arith)
