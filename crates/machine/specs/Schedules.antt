-- The three machines by the names that a caller gives them. `run` and `run_graph` of a name promise the answer and the buffer of its schedule.
use Rattle.std.specs.Prelude.{ℕ, ◌≡◌, ◌<◌, Result, MatchResult}
use Rattle.schedule.specs.Machine.{sequential, parallel, heartbeat}
use Rattle.schedule.specs.Machine as machine
use Rattle.machine.specs.declared.Schedule.{Schedule}
use Rattle.machine.specs.declared.Schedule.TheVariants.{Sequential, Parallel, Heartbeat}
use Rattle.machine.specs.declared.UnknownSchedule.{UnknownSchedule}

-- the schedule of a name, with the N of the call
abbrev pub schedule_of : Schedule → ℕ → machine.Schedule
schedule_of Sequential N = sequential
schedule_of Parallel N = parallel
schedule_of Heartbeat N = heartbeat N

-- its number in a call from C: 0 sequential, 1 parallel, 2 heartbeat
abbrev pub number_of : Schedule → ℕ
number_of Sequential = 0
number_of Parallel = 1
number_of Heartbeat = 2

-- a number is read as the name that has it, and any other is told as it is
abbrev pub Names : ℕ → Result Schedule UnknownSchedule → Type 0
Names number r = MatchResult r (λ schedule. number_of schedule ≡ number) (λ unknown. (unknown.0 ≡ number) × (2 < number))
