-- `strides::spent_value` meets its contract, by the laws of Pausing, Settling, FrameKinds.
use mathlib.Core.Path.{refl}
use native.Mathlib.Omega.{arith}
use Rattle.strides.specs.Strides.{Awaits}
use Rattle.moves.proofs.FrameKinds.{late_told, paid_told}
use Rattle.strides.proofs.Pausing.{pause_ends, value_ends, value_spent}
use Rattle.strides.proofs.Settling.{returning_here, returning_told}
use Rattle.strides.proofs.spent_value.Goals as goal

pub returns-then-g-eq0 : goal.returns-then-g-eq0
returns-then-g-eq0 c =
    value_ends c.requires.0 c.requires.1 c.if-g-eq0.true

pub returns-in-PromotedLeft : goal.returns-in-PromotedLeft
unfolding Awaits
returns-in-PromotedLeft c =
    pause_ends _ (λ e. cc) (returning_told c.requires.0 c.requires.1 (omega arith) c.kind_of.ensures c.in-PromotedLeft.is (λ i. cc))

pub returns-in-PromotedRight : goal.returns-in-PromotedRight
unfolding Awaits
returns-in-PromotedRight c =
    pause_ends _ (λ e. cc) (returning_here c.requires.0 c.requires.1 (omega arith) refl, late_told c.kind_of.ensures c.in-PromotedRight.is)

pub returns-in_default : goal.returns-in_default
returns-in_default c =
    value_spent c.requires.0 c.requires.2 (returning_here c.requires.0 c.requires.1 (omega arith) refl) (paid_told c.kind_of.ensures c.in_default.not-PromotedLeft c.in_default.not-PromotedRight) c.seat_of.ensures _ c.spent.ensures
