-- `table::starts` meets its contract, by the laws of Filling, Bodies.
use mathlib.Core.Path.{◌≡◌}
use native.Mathlib.Omega.{arith}
use Rattle.table.specs.Words.{functions as functionsOf, nodes_before}
use Rattle.table.proofs.Filling.{filled_none, filled_next, filled_all}
use Rattle.table.proofs.Bodies.{nodes_next, body_inside}
use Rattle.table.proofs.starts.Goals as goal

pub loop-f-init : goal.loop-f-init
unfolding nodes_before
loop-f-init c = record { start = omega arith; filled = filled_none _ }

pub overflow_add-start-in-loop-f : goal.overflow_add-start-in-loop-f
overflow_add-start-in-loop-f c = omega (arith, body_inside c.args.words.now c.requires.contents c.loop-f.f (omega arith))

pub loop-f-preserved : goal.loop-f-preserved
loop-f-preserved c =
    let w = c.args.words.now in
    let f = c.loop-f.f in
    record {
      start = omega (arith, nodes_next w f);
      filled = filled_next w _ f _ c.loop-f.invariant.start (omega arith) c.loop-f.invariant.filled;
    }

pub returns : goal.returns
returns c =
    let x : c.loop-f.f ≡ functionsOf c.args.words.now = omega arith in filled_all c.args.words.now _ (rw x at c.loop-f.invariant.filled)
