-- `capi::mondupil_run` meets its contract: it is served or not (proofs/Serving.antt). Assumes nothing.
use Rattle.capi.proofs.Serving.{told_by_name}
use Rattle.capi.proofs.mondupil_run.Goals as goal

pub returns : goal.returns
returns c =
    let a = c.args in
    let r = c.run-told in
    told_by_name a.machine a.table.now a.args.now _ _ _ _ _ c.in-Some.schedule r.result _ _ c.in-Some.ensures r.ensures.answer r.ensures.leaves
    (rw (← c.words_of.ensures) c.write.ensures)
