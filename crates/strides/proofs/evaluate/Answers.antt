-- `strides::evaluate` meets its contract, by the laws of Striding and of Striking.
use mathlib.Core.Path.{refl, ap}
use Rattle.std.specs.Prelude.{Ok}
use native.Mathlib.Omega.{arith}
use Rattle.moves.specs.declared.kind.Kind.TheVariants.{LeftOperand, Condition, Binding, Argument}
use Rattle.strides.specs.Strides.{made, condition, binding}
use Rattle.strides.proofs.Forms.{leaf_here}
use Rattle.strides.proofs.Striding.{start_asked, word_inside, evaluating, tagged, tag_few}
use Rattle.strides.proofs.Striking.{pair_strikes, jump_strikes, call_strikes, struck_asks, struck_goes, struck_made, reads}
use Rattle.strides.proofs.evaluate.Goals as goal

pub start-start-requires : goal.start-start-requires
start-start-requires c = start_asked c.requires.0 c.requires.1

pub overflow_mul-site : goal.overflow_mul-site
overflow_mul-site c = omega (arith, word_inside c.requires.0 c.requires.1 c.start-start.ensures)

pub overflow_add-site : goal.overflow_add-site
overflow_add-site c = omega (arith, word_inside c.requires.0 c.requires.1 c.start-start.ensures)

pub offset_bounds-site-site : goal.offset_bounds-site-site
offset_bounds-site-site c = omega (arith, word_inside c.requires.0 c.requires.1 c.start-start.ensures)

pub bounds-site-site : goal.bounds-site-site
bounds-site-site c = omega (arith, word_inside c.requires.0 c.requires.1 c.start-start.ensures)

pub pair-stride-requires : goal.pair-stride-requires
pair-stride-requires c =
    let v = evaluating c.requires.0 c.requires.1 c.start-start.ensures c.requires.2 c.in-2.is in
    (tagged v, v.calm.starts.ready.limits.frames, v.calm.starts.ready.bounded.depth)

pub or_open-requires : goal.or_open-requires
or_open-requires c =
    let v = evaluating c.requires.0 c.requires.1 c.start-start.ensures c.requires.2 c.in-2.is in
    struck_asks v LeftOperand (pair_strikes c.in-2.is c.pair-stride.ensures refl)

pub returns-in-2 : goal.returns-in-2
returns-in-2 c =
    let v = evaluating c.requires.0 c.requires.1 c.start-start.ensures c.requires.2 c.in-2.is in
    made (struck_made v LeftOperand _ (pair_strikes c.in-2.is c.pair-stride.ensures refl) c.or_open.auto.ws c.or_open.ensures)

pub choose-stride-requires : goal.choose-stride-requires
choose-stride-requires c = tagged (evaluating c.requires.0 c.requires.1 c.start-start.ensures c.requires.2 c.in-3.is)

pub or_open-requires-in-3 : goal.or_open-requires-in-3
or_open-requires-in-3 c =
    let v = evaluating c.requires.0 c.requires.1 c.start-start.ensures c.requires.2 c.in-3.is in
    struck_asks v Condition (jump_strikes (condition c.in-3.is refl) _ c.choose-stride.ensures refl)

pub returns-in-3 : goal.returns-in-3
returns-in-3 c =
    let v = evaluating c.requires.0 c.requires.1 c.start-start.ensures c.requires.2 c.in-3.is in
    made (struck_made v Condition _ (jump_strikes (condition c.in-3.is refl) _ c.choose-stride.ensures refl) c.or_open-in-3.auto.ws c.or_open-in-3.ensures)

pub bind-stride-requires : goal.bind-stride-requires
bind-stride-requires c = tagged (evaluating c.requires.0 c.requires.1 c.start-start.ensures c.requires.2 c.in-4.is)

pub or_open-requires-in-4 : goal.or_open-requires-in-4
or_open-requires-in-4 c =
    let v = evaluating c.requires.0 c.requires.1 c.start-start.ensures c.requires.2 c.in-4.is in
    struck_asks v Binding (jump_strikes (binding c.in-4.is refl) _ c.bind-stride.ensures refl)

pub returns-in-4 : goal.returns-in-4
returns-in-4 c =
    let v = evaluating c.requires.0 c.requires.1 c.start-start.ensures c.requires.2 c.in-4.is in
    made (struck_made v Binding _ (jump_strikes (binding c.in-4.is refl) _ c.bind-stride.ensures refl) c.or_open-in-4.auto.ws c.or_open-in-4.ensures)

pub call-stride-requires : goal.call-stride-requires
call-stride-requires c = tagged (evaluating c.requires.0 c.requires.1 c.start-start.ensures c.requires.2 c.in-5.is)

pub or_open-requires-in-5 : goal.or_open-requires-in-5
or_open-requires-in-5 c =
    let v = evaluating c.requires.0 c.requires.1 c.start-start.ensures c.requires.2 c.in-5.is in
    struck_asks v Argument (call_strikes c.in-5.is c.call-stride.ensures refl)

pub returns-in-5 : goal.returns-in-5
returns-in-5 c =
    let v = evaluating c.requires.0 c.requires.1 c.start-start.ensures c.requires.2 c.in-5.is in
    made (struck_made v Argument _ (call_strikes c.in-5.is c.call-stride.ensures refl) c.or_open-in-5.auto.ws c.or_open-in-5.ensures)

pub read-requires : goal.read-requires
read-requires c =
    let v = evaluating c.requires.0 c.requires.1 c.start-start.ensures c.requires.2 refl in
    (leaf_here (tagged v).site (omega (arith, tag_few c.requires.0 c.requires.1 c.start-start.ensures)), (tagged v).site.small)

pub returns-in_default : goal.returns-in_default
returns-in_default c =
    let v = evaluating c.requires.0 c.requires.1 c.start-start.ensures c.requires.2 refl in
    made (struck_goes v (reads (omega (arith, tag_few c.requires.0 c.requires.1 c.start-start.ensures)) refl refl (ap Ok c.read.ensures)) refl)
