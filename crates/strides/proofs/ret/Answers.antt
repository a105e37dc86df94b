-- `strides::ret` meets its contract, by the laws of Pausing, Settling, FrameKinds.
use mathlib.Core.Path.{refl, sym, ap}
use native.Mathlib.Omega.{arith}
use borrow.Author.Tests.{leb-false, leb-true}
use Rattle.strides.specs.Strides.{Awaits, made, pauses}
use Rattle.moves.proofs.FrameKinds.{late_told, last_promoted}
use Rattle.moves.specs.Layout.{word_of}
use Rattle.strides.proofs.Settling.{returning_here, returning_told}
use Rattle.strides.proofs.Striding.{done_strides}
use Rattle.strides.proofs.ret.Goals as goal

pub returns-then-g-eq0 : goal.returns-then-g-eq0
returns-then-g-eq0 c =
    made (done_strides c.requires.0 _ c.requires.1 c.if-g-eq0.true)

pub ret_paid-requires : goal.ret_paid-requires
ret_paid-requires c =
    let low = leb-false 7 (word_of c.kind_of-kind.result) (sym c.if-not-promoted.ensures) in
    (returning_told c.requires.0 c.requires.1 (omega arith) c.kind_of-kind.ensures refl (λ e. omega (arith, ap word_of e, low)), omega (arith, low), c.requires.2)

pub returns-then-not-promoted : goal.returns-then-not-promoted
returns-then-not-promoted c = made c.ret_paid.ensures

pub returns-in-PromotedLeft : goal.returns-in-PromotedLeft
unfolding Awaits
returns-in-PromotedLeft c =
    pauses _ refl refl refl (returning_told c.requires.0 c.requires.1 (omega arith) c.kind_of-kind.ensures c.in-PromotedLeft.is (λ i. cc))

pub returns-in_default : goal.returns-in_default
unfolding Awaits
returns-in_default c =
    let high = leb-true 7 (word_of c.kind_of-kind.result) (sym c.if-not-promoted.ensures) in
    pauses _ refl refl refl (returning_here c.requires.0 c.requires.1 (omega arith) refl, late_told c.kind_of-kind.ensures (last_promoted _ high c.in_default.not-PromotedLeft))
