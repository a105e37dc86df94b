-- `strides::ret_left` meets its contract, by the laws of Striding, Settling.
use mathlib.Core.Path.{refl}
use Rattle.strides.proofs.Striding.{ticks_strides, asked, operand, rebounds_strides}
use Rattle.strides.proofs.Settling.{small}
use Rattle.strides.proofs.ret_left.Goals as goal

pub rebound-requires : goal.rebound-requires
rebound-requires c =
    (operand c.requires.0, small c.requires.0.calm.starts, c.requires.0.depth)

pub ret_left_operand-step-requires : goal.ret_left_operand-step-requires
ret_left_operand-step-requires c =
    asked c.requires.0 _ c.expand.ensures 0 refl c.requires.1

pub returns : goal.returns
returns c =
    ticks_strides c.requires.0 _ c.expand.ensures _ _ _ c.ret_left_operand-step.ensures _ c.keep.ensures

pub returns-in-Some : goal.returns-in-Some
returns-in-Some c =
    rebounds_strides c.requires.0 _ _ c.in-Some.is c.rebound.ensures
