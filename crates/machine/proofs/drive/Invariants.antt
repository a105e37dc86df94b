-- `machine::drive` meets its contract.
use Rattle.machine.proofs.Tracking.{Tracking}
use Rattle.machine.proofs.Running.{Running, to_go}
use Rattle.compact.specs.Compact.{full}
use lib.ListN.{length, take}
use mathlib.Core.Path.{◌≡◌}
use Rattle.machine.proofs.drive.Given as goal

abbrev pub invariant-loop-pause : goal.invariant-loop-pause
invariant-loop-pause l = Running l.job.words.now (take l.count l.initial.locals) (length l.initial.ws) l.plan l.ws l.locals l.from × Tracking l.job.words.now (take l.count l.initial.locals) (length l.initial.ws) l.plan l.ws l.locals l.from l.graph l.n × (length l.graph ≡ length l.initial.graph)

abbrev pub decreases-loop-pause : goal.decreases-loop-pause
decreases-loop-pause l = to_go l.job.words.now (length l.initial.ws) l.plan l.ws l.locals (full l.from)
