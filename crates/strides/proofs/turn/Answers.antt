-- `strides::turn` meets its contract, by the laws of Pausing.
use mathlib.Core.Path.{refl, ap, ◌∙◌}
use native.Mathlib.Omega.{arith}
use Rattle.compact.specs.Compact.{freed_by}
use Rattle.strides.specs.Strides.{Awaits}
use Rattle.strides.proofs.Settling.{returning_returns, turn_occurs}
use Rattle.strides.proofs.Pausing.{expands, arrival_restarts, arrival_frees}
use Rattle.strides.proofs.turn.Goals as goal

pub expand-requires : goal.expand-requires
unfolding Awaits
expand-requires c =
    expands c.requires.calm.starts

pub turned-step-requires : goal.turned-step-requires
unfolding Awaits
turned-step-requires c = returning_returns c.requires c.expand.ensures

pub restart-next-requires : goal.restart-next-requires
unfolding Awaits
restart-next-requires c =
    arrival_restarts c.requires (omega arith) _ c.expand.ensures _ _ _ c.turned-step.ensures

pub returns : goal.returns
unfolding Awaits
returns c =
    arrival_frees c.requires (omega arith) _ c.expand.ensures _ _ _ c.turned-step.ensures _ (turn_occurs c.requires refl) _ (c.free.ensures ∙ ap (freed_by _) c.restart-next.ensures)
