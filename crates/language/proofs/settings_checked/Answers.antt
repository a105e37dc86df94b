-- `language::settings_checked` meets its contract: each way out is one of `settings_of`, the refusals in their order. Assumes nothing.
use mathlib.Core.Path.{◌∙◌}
use Rattle.table.proofs.InOrder.{told_err}
use Rattle.language.proofs.Admission.{then_refuses, then_goes}
use Rattle.language.specs.Checks.{settings_of}
use Rattle.language.proofs.settings_checked.Goals as goal

pub returns-in_err-in_range : goal.returns-in_err-in_range
unfolding settings_of
returns-in_err-in_range c = told_err c.from_residual.result c.from_residual.ensures.1 ∙ then_refuses _ c.in_err-in_range.ensures

pub returns-in_err-in_range-2 : goal.returns-in_err-in_range-2
unfolding settings_of
returns-in_err-in_range-2 c =
    told_err c.from_residual-in_err-in_range-2.result c.from_residual-in_err-in_range-2.ensures.1 ∙ then_goes c.in_ok-in_range.ensures (then_refuses _ c.in_err-in_range-2.ensures)

pub returns-in_err-in_range-3 : goal.returns-in_err-in_range-3
unfolding settings_of
returns-in_err-in_range-3 c =
    told_err c.from_residual-in_err-in_range-3.result c.from_residual-in_err-in_range-3.ensures.1 ∙ then_goes c.in_ok-in_range.ensures (then_goes c.in_ok-in_range-2.ensures (then_refuses _ c.in_err-in_range-3.ensures))

pub returns : goal.returns
unfolding settings_of
returns c = then_goes c.in_ok-in_range.ensures (then_goes c.in_ok-in_range-2.ensures (then_goes c.in_ok-in_range-3.ensures c.workspace_checked.ensures))
