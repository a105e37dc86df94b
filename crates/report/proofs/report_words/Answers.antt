-- `report::report_words` meets its contract: the job is the one that the words say, and its three answers are told (proofs/Telling.antt). Assumes nothing.
use mathlib.Core.Path.{◌≡◌, sym, ap, ◌∙◌}
use Prim.Native.Nat.{ℕ, ◌≤◌}
use lib.ListN.{length, take, drop}
use mathlib.Core.List.{[], ◌∷◌}
use native.Mathlib.Omega.{arith}
use lib.Seq.{length-take-le}
use Rattle.report.specs.Input.{job_of, pairs_of}
use Rattle.report.proofs.Telling.{lacks, passes, has, from_on, turned_away, told, dividable}
use Rattle.report.proofs.report_words.Goals as goal

pub returns-then-not-has_job : goal.returns-then-not-has_job
returns-then-not-has_job c =
    turned_away c.args.words.now c.args.workspace.now c.args.out.now _ _ (lacks c.args.words.now _ c.has_job.ensures c.if-not-has_job.true) c.unreadable.ensures

pub tell-requires : goal.tell-requires
tell-requires c =
    let known = dividable _ _ _ _ _ _ _ c.all_three-answers.result c.all_three-answers.ensures in (omega (arith, c.requires), known.0, known.1)

-- the buffer has room for the arguments
room : (n : ℕ) → n ≤ 3 → length {A = ℕ} (take n (0 ∷ 0 ∷ 0 ∷ [])) ≡ n
room n few = length-take-le n (0 ∷ 0 ∷ 0 ∷ []) few

pub slice_bounds-arguments-end : goal.slice_bounds-arguments-end
slice_bounds-arguments-end c =
    let h = has c.args.words.now _ c.has_job.ensures c.if-not-has_job.false in sym (room _ h.few)

pub load-requires : goal.load-requires
load-requires c =
    let h = has c.args.words.now _ c.has_job.ensures c.if-not-has_job.false in omega (arith, room _ h.few, h.room)

pub returns : goal.returns
unfolding job_of
returns c =
    let w = c.args.words.now in
    let h = has w _ c.has_job.ensures c.if-not-has_job.false in
    told w c.args.workspace.now c.args.out.now _ _ _ c.all_three-answers.result _ _ _ _ _ (passes w _ c.has_job.ensures c.if-not-has_job.false) (from_on w _) (c.load.ensures ∙ ap (λ (n : ℕ). pairs_of n (drop 4 w)) (room _ h.few)) c.settings-given.ensures.0 c.settings-given.ensures.1 c.settings-given.ensures.2 c.all_three-answers.ensures c.tell.ensures
