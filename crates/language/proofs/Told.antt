-- What a run tells: its work by its counts, and the same answer from the run that keeps spans.
use Prim.Native.Nat.{ℕ, ◌+◌, ◌*◌}
use mathlib.Core.Path.{◌≡◌, refl, sym, ap, ◌∙◌}
use mathlib.Core.List.{List}
use native.Mathlib.Omega.{arith}
use lib.ListN.{length}
use Rattle.std.specs.Prelude.{Ok, Err}
use Rattle.table.specs.declared.Refusal.{Refusal}
use Rattle.table.specs.Read.{Reading}
use Rattle.schedule.specs.Graph.{Graph, work, span}
use Rattle.schedule.specs.Algebra.{graphs, spans}
use Rattle.schedule.specs.Machine as machine
use Rattle.schedule.specs.Machine.{Ending, value, stop, Result, ended, ongoing, Schedule}
use Rattle.schedule.specs.Runs.{outcome}
use Rattle.schedule.specs.Homomorphism.{map_state, map_outcome}
use Rattle.schedule.proofs.WorkCount.{work_counted}
use Rattle.schedule.proofs.Homomorphism.{spans_told}
use Rattle.schedule.proofs.Finish.{finishes}
use Rattle.language.specs.declared.Answer.{Answer}
use Rattle.language.specs.declared.Answer.TheVariants.{Value, Refused}
use Rattle.language.specs.Language.{Code, language}
use Rattle.language.specs.Checks.{frames_in, checked_of}
use Rattle.language.specs.Answers.{entry_code, counts_of, told_by, told_by_spans, after_check, run_of, answer_of, RefusedAlike}

module _ (w : List ℕ) (fuel frames τ : ℕ) (m : Schedule) (c : Code) where
  abbrev ran : Result graphs (language w)
  ran = outcome graphs (language w) fuel frames m c

  -- where a run over graphs has a value, its work is transitions + τ · forks
  pub counts_work : (v : ℕ) (g : Graph) (t : machine.RunCounts) → ran ≡ ended (value v) g t
      → work τ g ≡ t.transitions + τ * t.forks
  counts_work v g t e = work_counted (language w) fuel frames τ m c v g t e

  told_by_lem : (o : Result graphs (language w)) → ran ≡ o
      → told_by_spans τ (map_outcome (span τ) (map_state graphs (spans τ) (language w) (span τ)) o) ≡ told_by τ o
  unfolding map_outcome told_by told_by_spans
  told_by_lem (ended (value v) g t) e =
      ap (λ (n : ℕ). Value v (counts_of t.transitions t.forks n (span τ g) t.deepest)) (sym (counts_work v g t e))
  told_by_lem (ended (stop i p) g t) e = refl
  told_by_lem (ongoing s) e = refl

  -- THE THEOREM: code that keeps spans and counts work tells what the run over graphs tells
  pub told_by_spans_lem : told_by_spans τ (outcome (spans τ) (language w) fuel frames m c)
      ≡ told_by τ (outcome graphs (language w) fuel frames m c)
  told_by_spans_lem = ap (told_by_spans τ) (spans_told τ (language w) fuel frames m c) ∙ told_by_lem ran refl

-- The answer by what the check says, as code has it.
module _ (m : Schedule) (w arguments : List ℕ) (fuel N τ workspace : ℕ) where
  pub answer_refused : (r : Refusal) → checked_of w (length arguments) fuel N τ workspace ≡ Err r
      → Refused r ≡ answer_of m w arguments fuel N τ workspace
  unfolding answer_of after_check
  answer_refused r e = rw e

  pub answer_run : checked_of w (length arguments) fuel N τ workspace ≡ Ok tt
      → told_by_spans τ (outcome (spans τ) (language w) fuel (frames_in workspace) m (entry_code arguments))
      ≡ answer_of m w arguments fuel N τ workspace
  unfolding answer_of after_check run_of
  answer_run e = rw e (told_by_spans_lem w fuel (frames_in workspace) τ m (entry_code arguments))

  -- a run's answer is that of an end: `unfinished` is never told
  pub run_ends : (z : Ending) × (g : Graph) × (t : machine.RunCounts)
      × (run_of m w arguments fuel τ workspace ≡ told_by {X = machine.State graphs (language w)} τ (ended z g t))
  unfolding run_of
  run_ends =
      let e = finishes graphs (language w) fuel (frames_in workspace) m (entry_code arguments) in
      (e.0, e.1.cost, e.1.counts, ap (told_by τ) e.1.is)

-- a run answers no refusal
pub ran_unrefused : {X : Type 0} (τ : ℕ) (o : machine.Outcome Graph X) (r : Refusal) → told_by τ o ≡ Refused r → ⊥
unfolding told_by
ran_unrefused τ (ended (value v) g t) r e = let z : ◌≡◌ {A = ℕ} 0 1 = cc in absurd (omega arith)
ran_unrefused τ (ended (stop i p) g t) r e = let z : ◌≡◌ {A = ℕ} 0 1 = cc in absurd (omega arith)
ran_unrefused τ (ongoing s) r e = let z : ◌≡◌ {A = ℕ} 0 1 = cc in absurd (omega arith)

after_alike : (c : Reading) (a b : Answer) (r : Refusal) → (a ≡ Refused r → ⊥) → after_check c a ≡ Refused r → after_check c b ≡ Refused r
unfolding after_check
after_alike (Ok _) a b r never e = absurd (never e)
after_alike (Err q) a b r never e = e

pub refused_alike : RefusedAlike
unfolding answer_of run_of
refused_alike m n w arguments fuel N τ workspace r =
    after_alike (checked_of w (length arguments) fuel N τ workspace) (run_of m w arguments fuel τ workspace) (run_of n w arguments fuel τ workspace) r
    (ran_unrefused τ (outcome graphs (language w) fuel (frames_in workspace) m (entry_code arguments)) r)
