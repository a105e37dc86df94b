-- `strides::at_limit` meets its contract, by the laws of Pausing.
use mathlib.Core.Path.{sym, ◌∙◌}
use Rattle.strides.specs.Strides.{Awaits}
use Rattle.strides.proofs.Pausing.{pause_ends, spent_at}
use Rattle.strides.proofs.at_limit.Goals as goal

pub returns-then-due : goal.returns-then-due
unfolding Awaits
returns-then-due c =
    pause_ends _ (λ e. cc) (sym c.due.ensures ∙ c.if-due.true)

pub spent_node-requires : goal.spent_node-requires
spent_node-requires c =
    let x = spent_at c.requires.0 c.requires.1 (sym c.due.ensures ∙ c.if-due.false) in (x.0, c.in-Eval.is, x.1)

pub spent_value-requires : goal.spent_value-requires
spent_value-requires c =
    let x = spent_at c.requires.0 c.requires.1 (sym c.due.ensures ∙ c.if-due.false) in (x.0, c.in-Ret.is, x.1)
