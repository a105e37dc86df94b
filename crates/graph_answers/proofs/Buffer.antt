-- The buffer at exit.
use Prim.Native.Nat.{ℕ, ◌-◌}
use mathlib.Core.Path.{◌≡◌, refl}
use mathlib.Core.Bool.{Bool, true, false}
use mathlib.Core.List.{List}
use native.Mathlib.Omega.{arith}
use lib.Dec.{leb}
use lib.ListN.{length, replicate, length-append, length-replicate}
use borrow.Author.Tests.{leb-true, le-leb, lt-leb}
use Rattle.std.specs.Prelude.{Ok, Err}
use Rattle.schedule.specs.Graph.{Graph}
use Rattle.schedule.specs.Algebra.{graphs}
use Rattle.schedule.specs.Machine.{Ending, value, stop, RunCounts, Result, ended, ongoing, Schedule}
use Rattle.schedule.specs.Runs.{outcome}
use Rattle.table.specs.declared.Refusal.{Refusal}
use Rattle.table.specs.Read.{Reading}
use Rattle.graph.specs.Words.{written}
use Rattle.graph.specs.Lent.{ending_with, left_in}
use Rattle.language.specs.declared.Stop.{Stop}
use Rattle.language.specs.declared.Answer.TheVariants.{Stopped, Refused}
use Rattle.language.specs.Language.{language}
use Rattle.language.specs.Checks.{frames_in, checked_of}
use Rattle.language.specs.Answers.{entry_code, told_by, after_check}
use Rattle.language.proofs.Told.{ran_unrefused}
use Rattle.graph_answers.specs.Answers.{lent_to, buffer_of, lent_run, unless_refused, graphed_of, graph_left}
use Rattle.graph_answers.specs.Buffer.{LeftLong, RanTo, BufferLeft, LeftByAnswerAlways}

-- By what the check says.
module _ (m : Schedule) (w arguments : List ℕ) (fuel N τ workspace : ℕ) (found : List ℕ) where
  pub left_refused : (r : Refusal) → checked_of w (length arguments) fuel N τ workspace ≡ Err r
      → graph_left m w arguments fuel N τ workspace found ≡ found
  unfolding graph_left unless_refused
  left_refused r e = rw e

  pub left_run : (z : Ending) (g : Graph) (t : RunCounts) → checked_of w (length arguments) fuel N τ workspace ≡ Ok tt
      → outcome graphs (language w) fuel (frames_in workspace) m (entry_code arguments) ≡ ended z g t
      → graph_left m w arguments fuel N τ workspace found ≡ left_in (length found) (ending_with (length found) z g) g
  unfolding graph_left unless_refused lent_to buffer_of
  left_run z g t accepted e = rw (accepted, e)

-- What is left is as long as what was lent.
in_long : (lent : ℕ) (z : Ending) (g : Graph) → length (left_in lent (ending_with lent z g) g) ≡ lent
unfolding ending_with left_in
in_long lent (stop i p) g = length-replicate {A = ℕ} lent 0
in_long lent (value v) g = by (leb (length (written g)) lent) refl
  where
    by : (q : Bool) → leb (length (written g)) lent ≡ q → length (left_in lent (ending_with lent (value v) g) g) ≡ lent
    by true q =
        let h = leb-true (length (written g)) lent q in
        rw q (omega (arith, length-append (written g) (replicate (lent - length (written g)) 0), length-replicate {A = ℕ} (lent - length (written g)) 0))
    by false q = rw q (length-replicate {A = ℕ} lent 0)

run_long : (w : List ℕ) (lent : ℕ) (o : Result graphs (language w)) → length (buffer_of lent (lent_to lent o)) ≡ lent
unfolding buffer_of lent_to
run_long w lent (ended z g t) = in_long lent z g
run_long w lent (ongoing s) = length-replicate {A = ℕ} lent 0

check_long : (r : Reading) (ran found : List ℕ) → length ran ≡ length found → length (unless_refused r ran found) ≡ length found
unfolding unless_refused
check_long (Ok _) ran found e = e
check_long (Err r) ran found e = refl

pub left_long : LeftLong
unfolding graph_left
left_long m w arguments fuel N τ workspace found = check_long (checked_of w (length arguments) fuel N τ workspace) _ found
    (run_long w (length found) (outcome graphs (language w) fuel (frames_in workspace) m (entry_code arguments)))

pub buffer_left : BufferLeft
unfolding ending_with left_in
buffer_left m w arguments fuel N τ workspace found = record {
  at_refusal = left_refused m w arguments fuel N τ workspace found;
  at_value = λ v g t r h. rw (ran (value v) g t r, le-leb (length (written g)) (length found) h);
  at_25 = λ v g t r h. rw (ran (value v) g t r, lt-leb (length (written g)) (length found) h);
  at_stop = λ i p g t r. rw (ran (stop i p) g t r);
}
  where
    ran : (z : Ending) (g : Graph) (t : RunCounts) → RanTo m w arguments fuel N τ workspace z g t
        → graph_left m w arguments fuel N τ workspace found ≡ left_in (length found) (ending_with (length found) z g) g
    ran z g t r = left_run m w arguments fuel N τ workspace found z g t r.accepted r.is

-- By the answer: after a stop all is zero, and a refusal is the check's.
module _ (w : List ℕ) (τ lent : ℕ) where
  run_stopped : (s : Stop) (o : Result graphs (language w)) → told_by τ o ≡ Stopped s → buffer_of lent o ≡ replicate lent 0
  unfolding told_by buffer_of left_in
  run_stopped s (ended (value v) g t) e = let no : ◌≡◌ {A = ℕ} 0 1 = cc in absurd (omega arith)
  run_stopped s (ended (stop i p) g t) e = refl
  run_stopped s (ongoing u) e = refl

  check_stopped : (s : Stop) (r : Reading) (o : Result graphs (language w)) (found : List ℕ) → after_check r (told_by τ o) ≡ Stopped s
      → unless_refused r (buffer_of lent o) found ≡ replicate lent 0
  unfolding after_check unless_refused
  check_stopped s (Ok _) o found e = run_stopped s o e
  check_stopped s (Err r) o found e = absurd cc

  check_refused : (f : Refusal) (r : Reading) (o : Result graphs (language w)) (found : List ℕ) → after_check r (told_by τ o) ≡ Refused f
      → unless_refused r (buffer_of lent o) found ≡ found
  unfolding after_check unless_refused
  check_refused f (Ok _) o found e = absurd (ran_unrefused τ o f e)
  check_refused f (Err r) o found e = refl

pub left_by_answer : LeftByAnswerAlways
unfolding graphed_of graph_left
left_by_answer m w arguments fuel N τ workspace found =
    let c = checked_of w (length arguments) fuel N τ workspace in
    let o = lent_run m w arguments fuel workspace (length found) in
    record { at_stop = λ s e. check_stopped w τ (length found) s c o found e; at_refusal = λ r e. check_refused w τ (length found) r c o found e }
