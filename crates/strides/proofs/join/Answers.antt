-- `strides::join` meets its contract, by the laws of Pausing.
use mathlib.Core.Path.{ap, ◌∙◌}
use native.Mathlib.Omega.{arith}
use Rattle.compact.specs.Compact.{freed_by}
use Rattle.strides.specs.Strides.{Awaits}
use Rattle.strides.proofs.Settling.{returning_returns, join_occurs}
use Rattle.strides.proofs.Pausing.{expands, arrival_restarts, arrival_frees}
use Rattle.strides.proofs.join.Goals as goal

pub expand-requires : goal.expand-requires
unfolding Awaits
expand-requires c =
    expands c.requires.0.calm.starts

pub joined-step-requires : goal.joined-step-requires
unfolding Awaits
joined-step-requires c = (returning_returns c.requires.0 c.expand.ensures, c.requires.1)

pub restart-next-requires : goal.restart-next-requires
unfolding Awaits
restart-next-requires c =
    arrival_restarts c.requires.0 (omega (arith, c.requires.1)) _ c.expand.ensures _ _ _ c.joined-step.ensures

pub returns : goal.returns
unfolding Awaits
returns c =
    arrival_frees c.requires.0 (omega (arith, c.requires.1)) _ c.expand.ensures _ _ _ c.joined-step.ensures _ (join_occurs c.requires.0 (omega (arith, c.requires.1)) (λ e. omega (arith, c.requires.1))) _ (c.free.ensures ∙ ap (freed_by _) c.restart-next.ensures)
