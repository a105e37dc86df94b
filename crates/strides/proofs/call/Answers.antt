-- `strides::call` meets its contract, by the laws of Calls.
use mathlib.Core.Path.{refl}
use native.Mathlib.Omega.{arith}
use Rattle.strides.specs.Strides.{given}
use Rattle.strides.proofs.Calls.{callee_inside}
use Rattle.strides.proofs.call.Goals as goal

pub arity-requires : goal.arity-requires
arity-requires c = callee_inside c.requires refl

pub returns-in-1 : goal.returns-in-1
returns-in-1 c = given (omega arith) c.call_one.ensures

pub returns-in-2 : goal.returns-in-2
returns-in-2 c = given (omega arith) c.call_two.ensures

pub returns-in-3 : goal.returns-in-3
returns-in-3 c = given (omega arith) c.call_three.ensures

pub returns-in_default : goal.returns-in_default
returns-in_default c = given (omega arith) refl
