-- `machine::Schedule::plan` meets its contract: the flags are the schedule's.
use mathlib.Core.Path.{refl}
use native.Mathlib.Omega.{arith}
use Rattle.schedule.specs.Bounds.{Flags}
use Rattle.machine.proofs.Schedule.plan.Goals.{in-Sequential, in-Parallel, in-Heartbeat}
use Rattle.machine.proofs.Schedule.plan.Goals as goal

pub returns : goal.returns
unfolding Flags
returns c = (
  elim c.match-self.branch [
    | in-Sequential w ↦ rw (w.in-Sequential.is, w.birth-is) (λ h. (refl, omega arith))
    | in-Parallel w ↦ rw (w.in-Parallel.is, w.birth-is) (λ h. (refl, omega arith))
    | in-Heartbeat w ↦ rw (w.in-Heartbeat.is, w.birth-is) (λ h. (refl, refl))
  ],
  refl,
  refl,
)
