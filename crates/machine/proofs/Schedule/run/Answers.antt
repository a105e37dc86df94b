-- `machine::Schedule::run` meets its contract, by its plan: a stop is listed by `listed_of`.
use Rattle.language.proofs.Stops.{listed_of}
use Rattle.machine.proofs.Schedule.run.Goals as goal

pub returns : goal.returns
returns c =
    let told = c.machine-ran.ensures.0 _ c.plan-plan.ensures.0 in
    record { answer = told; leaves = c.machine-ran.ensures.1; listed = listed_of _ _ _ _ _ _ _ _ told }
