-- `frames::copy_many` meets its contract.
use lib.Seq.{paste-zero}
use lib.ListN.{drop, length-set}
use mathlib.Core.Path.{refl}
use native.Mathlib.Omega.{arith}
use Rattle.frames.proofs.Words.{copied}
use Rattle.frames.proofs.copy_many.Goals as goal

pub loop-i-init : goal.loop-i-init
loop-i-init c = (paste-zero _ c.args.at (drop c.args.from c.args.src.now), refl)

pub loop-i-preserved : goal.loop-i-preserved
loop-i-preserved c =
    let a = c.args in
    (rw c.loop-i.invariant.0 (copied a.dst.now a.at a.src.now a.from c.loop-i.i (omega arith) (omega arith)), simp length-set c.loop-i.invariant.1)
