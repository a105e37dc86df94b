-- `machine::Schedule::run_graph` meets its contract.
use Rattle.machine.proofs.Concluding.{graph_told}
use Rattle.machine.proofs.Schedule.run_graph.Goals as goal

pub returns : goal.returns
returns c =
    let ran = c.machine-ran.ensures in
    let suits = c.plan-plan.ensures.0 in
    let told = graph_told _ c.args.words.now c.args.arguments.now _ _ _ _ _ _ _ _ (ran.0 _ suits) (ran.2 _ suits) _ c.concluded.ensures.0 _ _ ran.1 _ c.concluded.ensures.1 in
    record { answer = told.0; leaves = told.1; writes = told.2; listed = told.3 }
