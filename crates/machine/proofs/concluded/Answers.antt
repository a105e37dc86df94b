-- `machine::concluded` meets its contract.
use mathlib.Core.Path.{◌≡◌}
use lib.ListN.{length}
use Rattle.machine.proofs.Concluding.{value_fits}
use Rattle.machine.specs.Written.{cleared_to}
use lib.ListN.{replicate}
use native.Mathlib.Omega.{arith}
use Prim.Native.Nat.{ℕ, ◌-◌}
use mathlib.Core.Path.{◌∙◌, ap}
use Rattle.machine.proofs.concluded.Goals as goal

pub clear-requires : goal.clear-requires
clear-requires c = omega (arith, value_fits c.args.ran.answer _ _ _ c.fitted-told.ensures _ _ c.in-Value.is)

pub returns-in-Value : goal.returns-in-Value
unfolding cleared_to
returns-in-Value c = (c.fitted-told.ensures, rw c.in-Value.is c.clear.ensures)

pub returns-in-Stopped : goal.returns-in-Stopped
unfolding cleared_to
returns-in-Stopped c =
    let n : length c.args.graph.now - 0 ≡ length c.args.graph.now = omega arith in
    (c.fitted-told.ensures, rw c.in-Stopped.is (c.clear-in-Stopped.ensures ∙ ap (λ (k : ℕ). replicate k 0) n))

pub returns-in-Refused : goal.returns-in-Refused
unfolding cleared_to
returns-in-Refused c = (c.fitted-told.ensures, rw c.in-Refused.is)
