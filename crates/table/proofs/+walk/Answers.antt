-- `table::walk` meets its contract, by the laws of Walking.
use Rattle.table.proofs.Walking.{walks_end, walks_own, deeper, walks_leaf, walks_one, walks_first, walks_b, within_b, walks_two, walks_second, walks_c, within_c, walks_three}
use Rattle.table.proofs.InOrder.{told_err}
use native.Mathlib.Omega.{arith}
use Rattle.table.proofs.+walk.Goals as goal

pub returns-then-body-p : goal.returns-then-body-p
returns-then-body-p t c = walks_end _ _ _ _ _ c.fault_at.ensures c.if-body-p.true

pub returns-in-Some : goal.returns-in-Some
returns-in-Some t c = walks_own _ _ _ _ _ _ c.if-body-p.false c.shape_at-shape.ensures c.fault_at-in-Some.ensures c.in-Some.ensures

pub returns-then-children-eq0 : goal.returns-then-children-eq0
returns-then-children-eq0 t c = walks_leaf _ _ _ _ _ _ c.if-body-p.false c.shape_at-shape.ensures c.in_default.ensures c.if-children-eq0.true

pub returns-in_err-m : goal.returns-in_err-m
returns-in_err-m t c =
    walks_first _ _ _ _ _ _ c.if-body-p.false c.shape_at-shape.ensures c.in_default.ensures (told_err c.from_residual.result c.from_residual.ensures.1) c.if-children-eq0.false c.in_err-m.ensures

pub returns-then-children-eq1 : goal.returns-then-children-eq1
returns-then-children-eq1 t c = walks_one _ _ _ _ _ _ c.if-body-p.false c.shape_at-shape.ensures c.in_default.ensures c.in_ok-m.ensures c.if-children-eq1.true

pub returns-then-b-m : goal.returns-then-b-m
returns-then-b-m t c = walks_b _ _ _ _ _ _ c.if-body-p.false c.shape_at-shape.ensures c.in_default.ensures c.in_ok-m.ensures c.if-children-eq0.false c.if-children-eq1.false c.second-b.ensures c.fault_at-then-b-m.ensures (λ e. omega (arith, e))

pub walk-requires-then-children-eq2 : goal.walk-requires-then-children-eq2
walk-requires-then-children-eq2 t c = omega (arith, c.requires, deeper c.args.words.now c.args.body c.args.level c.args.p c.args.k _ c.if-body-p.false c.shape_at-shape.ensures c.in_default.ensures c.requires.1, within_b c.args.words.now c.args.body c.args.level c.args.p c.args.k _ c.if-body-p.false c.shape_at-shape.ensures c.in_default.ensures c.in_ok-m.ensures c.if-children-eq0.false c.if-children-eq1.false c.second-b.ensures (omega arith))

pub returns-then-children-eq2 : goal.returns-then-children-eq2
returns-then-children-eq2 t c = walks_two _ _ _ _ _ _ c.if-body-p.false c.shape_at-shape.ensures c.in_default.ensures c.in_ok-m.ensures c.if-children-eq0.false c.if-children-eq1.false c.second-b.ensures (omega arith) c.if-children-eq2.true c.walk-then-children-eq2.ensures

pub returns-in_err-n : goal.returns-in_err-n
returns-in_err-n t c =
    walks_second _ _ _ _ _ _ c.if-body-p.false c.shape_at-shape.ensures c.in_default.ensures c.in_ok-m.ensures c.if-children-eq0.false c.if-children-eq1.false c.second-b.ensures (omega arith) c.if-children-eq2.false (told_err c.from_residual-in_err-n.result c.from_residual-in_err-n.ensures.1) c.in_err-n.ensures

pub returns-then-c-n : goal.returns-then-c-n
returns-then-c-n t c = walks_c _ _ _ _ _ _ c.if-body-p.false c.shape_at-shape.ensures c.in_default.ensures c.in_ok-m.ensures c.if-children-eq0.false c.if-children-eq1.false c.second-b.ensures (omega arith) c.if-children-eq2.false c.in_ok-n.ensures c.third-c.ensures c.fault_at-then-c-n.ensures (λ e. omega (arith, e))

pub walk-requires-3 : goal.walk-requires-3
walk-requires-3 t c = omega (arith, c.requires, deeper c.args.words.now c.args.body c.args.level c.args.p c.args.k _ c.if-body-p.false c.shape_at-shape.ensures c.in_default.ensures c.requires.1, within_c c.args.words.now c.args.body c.args.level c.args.p c.args.k _ c.if-body-p.false c.shape_at-shape.ensures c.in_default.ensures c.in_ok-m.ensures c.if-children-eq0.false c.if-children-eq1.false c.second-b.ensures (omega arith) c.if-children-eq2.false c.in_ok-n.ensures c.third-c.ensures (omega arith))

pub returns : goal.returns
returns t c = walks_three _ _ _ _ _ _ c.if-body-p.false c.shape_at-shape.ensures c.in_default.ensures c.in_ok-m.ensures c.if-children-eq0.false c.if-children-eq1.false c.second-b.ensures (omega arith) c.if-children-eq2.false c.in_ok-n.ensures c.third-c.ensures (omega arith) c.walk-3.ensures
