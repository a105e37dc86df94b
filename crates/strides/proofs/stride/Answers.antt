-- `strides::stride` meets its contract, by the laws of Pausing.
use mathlib.Core.Path.{refl}
use Rattle.strides.specs.Strides.{Awaits, pauses}
use Rattle.strides.proofs.Pausing.{below}
use Rattle.strides.proofs.stride.Goals as goal

pub evaluate-requires : goal.evaluate-requires
evaluate-requires c =
    let x = below c.requires c.if-g.false in (x.0, c.in-Eval.is, x.1)

pub ret-requires : goal.ret-requires
ret-requires c =
    let x = below c.requires c.if-g.false in (x.0, c.in-Ret.is, x.1)

pub returns-then-g : goal.returns-then-g
unfolding Awaits
returns-then-g c = pauses _ refl refl refl c.if-g.true
