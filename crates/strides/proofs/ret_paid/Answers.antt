-- `strides::ret_paid` meets its contract, by the laws of Settling, Striding, FrameKinds.
use mathlib.Core.Path.{refl}
use native.Mathlib.Omega.{arith}
use Rattle.moves.proofs.FrameKinds.{last_paid}
use Rattle.strides.proofs.Settling.{returning_kind}
use Rattle.strides.proofs.Pausing.{expands}
use Rattle.strides.proofs.Striding.{paid_goes_on, paid_strides, ticks_strides, asked}
use Rattle.strides.proofs.ret_paid.Goals as goal

pub expand-s-requires : goal.expand-s-requires
expand-s-requires c = expands c.requires.0.calm.starts

pub ret_left-requires : goal.ret_left-requires
ret_left-requires c = ((returning_kind c.requires.0 c.in-LeftOperand.is), c.requires.2)

pub ret_right_operand-requires : goal.ret_right_operand-requires
ret_right_operand-requires c =
    asked (returning_kind c.requires.0 c.in-RightOperand.is) _ c.expand-s.ensures _ refl c.requires.2

pub returns-in-RightOperand : goal.returns-in-RightOperand
returns-in-RightOperand c =
    ticks_strides (returning_kind c.requires.0 c.in-RightOperand.is) _ c.expand-s.ensures _ _ _ c.ret_right_operand.ensures _ c.keep.ensures

pub ret_condition-requires : goal.ret_condition-requires
ret_condition-requires c =
    asked (returning_kind c.requires.0 c.in-Condition.is) _ c.expand-s.ensures _ refl c.requires.2

pub returns-in-Condition : goal.returns-in-Condition
returns-in-Condition c =
    ticks_strides (returning_kind c.requires.0 c.in-Condition.is) _ c.expand-s.ensures _ _ _ c.ret_condition.ensures _ c.keep-in-Condition.ensures

pub ret_binding-requires : goal.ret_binding-requires
ret_binding-requires c =
    asked (returning_kind c.requires.0 c.in-Binding.is) _ c.expand-s.ensures _ refl c.requires.2

pub returns-in-Binding : goal.returns-in-Binding
returns-in-Binding c =
    ticks_strides (returning_kind c.requires.0 c.in-Binding.is) _ c.expand-s.ensures _ _ _ c.ret_binding.ensures _ c.keep-in-Binding.ensures

pub ret_argument-requires : goal.ret_argument-requires
ret_argument-requires c =
    asked (returning_kind c.requires.0 c.in-Argument.is) _ c.expand-s.ensures _ refl c.requires.2

pub returns-in-Argument : goal.returns-in-Argument
returns-in-Argument c =
    ticks_strides (returning_kind c.requires.0 c.in-Argument.is) _ c.expand-s.ensures _ _ _ c.ret_argument.ensures _ c.keep-in-Argument.ensures

pub ret_plain_left-requires : goal.ret_plain_left-requires
ret_plain_left-requires c =
    asked (returning_kind c.requires.0 c.in-PlainLeft.is) _ c.expand-s.ensures _ refl c.requires.2

pub go_on-requires : goal.go_on-requires
go_on-requires c = paid_goes_on (returning_kind c.requires.0 c.in-PlainLeft.is) (omega arith) _ c.expand-s.ensures _ _ _ c.ret_plain_left.ensures

pub returns-in-PlainLeft : goal.returns-in-PlainLeft
returns-in-PlainLeft c =
    paid_strides (returning_kind c.requires.0 c.in-PlainLeft.is) (omega arith) _ c.expand-s.ensures _ _ _ c.ret_plain_left.ensures _ c.go_on.ensures

pub ret_plain_right-requires : goal.ret_plain_right-requires
ret_plain_right-requires c =
    asked (returning_kind c.requires.0 (last_paid c.args.kind c.in_default.not-LeftOperand c.in_default.not-RightOperand c.in_default.not-Condition c.in_default.not-Binding c.in_default.not-Argument c.in_default.not-PlainLeft c.requires.1)) _ c.expand-s.ensures _ refl c.requires.2

pub returns-in_default : goal.returns-in_default
returns-in_default c =
    ticks_strides (returning_kind c.requires.0 (last_paid c.args.kind c.in_default.not-LeftOperand c.in_default.not-RightOperand c.in_default.not-Condition c.in_default.not-Binding c.in_default.not-Argument c.in_default.not-PlainLeft c.requires.1)) _ c.expand-s.ensures _ _ _ c.ret_plain_right.ensures _ c.keep-in_default.ensures
