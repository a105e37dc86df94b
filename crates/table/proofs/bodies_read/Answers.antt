-- `table::bodies_read` meets its contract, by the laws of Bodies, InOrder.
use mathlib.Core.Path.{sym, ◌∙◌}
use native.Mathlib.Omega.{arith}
use Rattle.table.specs.Words.{nodes_before}
use Rattle.table.specs.Read.{body_read, bodies}
use Rattle.table.proofs.Bodies.{nodes_next, body_inside}
use Rattle.table.proofs.InOrder.{reached_start, reached_next, reached_stop, reached_end, told_err}
use Rattle.table.proofs.bodies_read.Goals as goal

pub loop-f-init : goal.loop-f-init
unfolding nodes_before
loop-f-init c = record { start = omega arith; reached = reached_start _ _ }

pub body_read-requires : goal.body_read-requires
body_read-requires c = record { contents = c.requires; function = omega arith; place = c.loop-f.invariant.start }

pub returns-in_err-body_read : goal.returns-in_err-body_read
unfolding bodies
returns-in_err-body_read c =
    told_err c.from_residual.result c.from_residual.ensures.1 ∙ sym (reached_stop (body_read c.args.words.now) _ c.loop-f.f (omega arith) c.loop-f.invariant.reached c.in_err-body_read.ensures)

pub overflow_add-start-in-loop-f : goal.overflow_add-start-in-loop-f
overflow_add-start-in-loop-f c = omega (arith, body_inside c.args.words.now c.requires c.loop-f.f (omega arith))

pub loop-f-preserved : goal.loop-f-preserved
loop-f-preserved c =
    let w = c.args.words.now in
    let f = c.loop-f.f in
    record {
      start = omega (arith, nodes_next w f);
      reached = reached_next (body_read w) _ f (omega arith) c.loop-f.invariant.reached c.in_ok-body_read.ensures;
    }

pub returns : goal.returns
unfolding bodies
returns c = sym (reached_end (body_read c.args.words.now) _ _ (omega arith) c.loop-f.invariant.reached)
