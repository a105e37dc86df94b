-- `machine::onward` meets its contract.
use Rattle.machine.proofs.Running.{to_go}
use Rattle.machine.specs.Loop.{Far}
use Rattle.strides.specs.Strides.{Starts}
use Rattle.compact.specs.Compact.{full}
use lib.ListN.{length}
use mathlib.Core.Path.{◌≡◌}
use Rattle.machine.proofs.onward.Given as goal

abbrev pub invariant-loop-next : goal.invariant-loop-next
invariant-loop-next l = Far l.job.words.now l.plan l.initial.ws l.initial.locals l.initial.g l.ws l.locals l.g × Starts l.job.words.now l.ws l.locals l.plan l.g × (length l.ws ≡ length l.initial.ws)

abbrev pub decreases-loop-next : goal.decreases-loop-next
decreases-loop-next l = to_go l.job.words.now (length l.initial.ws) l.plan l.ws l.locals (full l.g)
