-- `capi::mondupil_run_graph` meets its contract: it is served or not (proofs/Graphs.antt). Assumes nothing.
use Rattle.capi.proofs.Graphs.{told_by_name}
use Rattle.capi.proofs.mondupil_run_graph.Goals as goal

pub returns : goal.returns
returns c =
    let a = c.args in
    let r = c.run_graph-told in
    told_by_name a.machine a.table.now a.args.now _ _ _ _ _ _ c.in-Some.schedule r.result _ _ _ c.in-Some.ensures r.ensures.answer r.ensures.leaves
    r.ensures.writes (rw (← c.graph_words_of.ensures) c.write.ensures)
