-- `machine::all_three_graphs` meets its contract.
use Rattle.machine.proofs.Machines.{all_three_graphs}
use Rattle.machine.proofs.all_three_graphs.Goals as goal

pub returns : goal.returns
returns c =
    let a = c.run_graph-sequential.ensures in
    let b = c.run_graph-parallel.ensures in
    let h = c.run_graph-heartbeat.ensures in
    all_three_graphs c.args.words.now c.args.arguments.now _ _ _ _ _ _ _ _ _ _ _ _ _ _ _ _ a.answer a.leaves a.writes a.listed b.answer b.leaves b.writes b.listed h.answer h.leaves h.writes h.listed
