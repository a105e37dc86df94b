-- `moves::search` meets its contract, by the laws of FrameKinds.
use Rattle.std.proofs.Common.{rules}
use native.Mathlib.Omega.{arith}
use mathlib.Core.Path.{sym, ◌∙◌}
use denote.Enum.Bare.{same_true, same_false}
use Rattle.moves.specs.contracts.kind.Kind.{the_type}
use Rattle.moves.proofs.FrameKinds.{plain_told, plain_tells, none_more}
use Rattle.moves.proofs.search.Goals as goal

pub returns-then-eq : goal.returns-then-eq
returns-then-eq c = record {
  after = c.loop-i.auto.i;
  below = λ j a h k. c.loop-i.invariant j a k;
  is = λ h. plain_told (sym c.kind_of.ensures ∙ same_true the_type (search rules) _ _ (sym c.if-eq.ensures));
  none = λ h. absurd (omega (arith, c.loop-i-test.true));
}

pub loop-i-preserved : goal.loop-i-preserved
loop-i-preserved c =
    none_more c.loop-i.invariant (plain_tells (λ e. same_false the_type _ _ (sym c.if-eq.ensures) (c.kind_of.ensures ∙ e)))
