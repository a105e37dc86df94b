-- The answer with a buffer, from the answer without one and the number of words.
use Prim.Native.Nat.{ℕ, ◌≤◌, ◌<◌}
use mathlib.Core.Path.{◌≡◌, refl}
use mathlib.Core.Bool.{Bool, true, false}
use mathlib.Core.Logic.{inl, inr}
use mathlib.Core.List.{List}
use native.Mathlib.Omega.{arith}
use lib.Dec.{leb}
use lib.ListN.{length}
use borrow.Author.Tests.{leb-true, le-leb, lt-leb}
use Rattle.std.specs.Prelude.{Ok, Err}
use Rattle.schedule.specs.Graph.{Graph}
use Rattle.schedule.specs.Algebra.{graphs}
use Rattle.schedule.specs.Machine.{value, stop, RunCounts, Result, ended, ongoing, Schedule}
use Rattle.schedule.specs.Runs.{outcome}
use Rattle.table.specs.declared.Refusal.{Refusal}
use Rattle.table.specs.Read.{Reading}
use Rattle.language.specs.declared.Counts.{Counts}
use Rattle.language.specs.declared.Stop.{Stop}
use Rattle.language.specs.declared.Answer.{Answer}
use Rattle.language.specs.declared.Answer.TheVariants.{Value, Stopped, Refused}
use Rattle.language.specs.Language.{language}
use Rattle.language.specs.Checks.{frames_in, checked_of}
use Rattle.language.specs.Answers.{entry_code, stopped, told_by, after_check, run_of, answer_of}
use Rattle.graph.specs.Words.{written}
use Rattle.graph.specs.Lent.{nowhere, ending_with, words_told}
use Rattle.graph_answers.specs.declared.Graphed.{Graphed}
use Rattle.graph_answers.specs.Answers.{lent_to, words_of, lent_run, unless_refused, graphed_of}
use Rattle.graph_answers.specs.Fitted.{fitted_of, Serves, WordsCounted, AsFitted}

-- `fitted_of` by its cases.
module _ (a : Answer) (words room : ℕ) where
  pub fits : (v : ℕ) (k : Counts) → a ≡ Value v k → words ≤ room → record { answer = Value v k; words = words } ≡ fitted_of a words room
  unfolding fitted_of
  fits v k e h = rw (e, le-leb words room)

  pub too_long : (v : ℕ) (k : Counts) → a ≡ Value v k → room < words
      → record { answer = stopped 25 nowhere k.transitions k.deepest; words = 0 } ≡ fitted_of a words room
  unfolding fitted_of
  too_long v k e h = rw (e, lt-leb words room)

  pub stop_fitted : (s : Stop) → a ≡ Stopped s → record { answer = a; words = 0 } ≡ fitted_of a words room
  unfolding fitted_of
  stop_fitted s e = rw e

  pub refusal_fitted : (r : Refusal) → a ≡ Refused r → record { answer = a; words = 0 } ≡ fitted_of a words room
  unfolding fitted_of
  refusal_fitted r e = rw e

-- Of a run, and then by what the check says.
module _ (w : List ℕ) (τ lent n : ℕ) where
  abbrev with_buffer : Result graphs (language w) → Graphed
  with_buffer o = record { answer = told_by τ (lent_to lent o); words = words_of (lent_to lent o) }

  at_value : (v : ℕ) (g : Graph) (t : RunCounts) (q : Bool) → leb (length (written g)) lent ≡ q
      → Serves lent n (length (written g))
      → fitted_of (told_by {X = Result graphs (language w)} τ (ended (value v) g t)) n lent ≡ with_buffer (ended (value v) g t)
  unfolding fitted_of told_by lent_to words_of ending_with words_told
  at_value v g t true q (inl e) = simp (e, q)
  at_value v g t false q (inl e) = simp (e, q)
  at_value v g t true q (inr over) = absurd (omega (arith, leb-true (length (written g)) lent q, over.1))
  at_value v g t false q (inr over) = rw (q, lt-leb n lent over.0)

  of_run : (o : Result graphs (language w))
      → ((v : ℕ) (g : Graph) (t : RunCounts) → o ≡ ended (value v) g t → Serves lent n (length (written g)))
      → fitted_of (told_by τ o) n lent ≡ with_buffer o
  unfolding fitted_of told_by lent_to words_of ending_with words_told
  of_run (ended (value v) g t) h = at_value v g t (leb (length (written g)) lent) refl (h v g t refl)
  of_run (ended (stop i p) g t) h = refl
  of_run (ongoing s) h = refl

module _ (m : Schedule) (w arguments : List ℕ) (fuel τ workspace lent n : ℕ) where
  abbrev ran : Result graphs (language w)
  ran = lent_run m w arguments fuel workspace lent

  of_check : (r : Reading) → WordsCounted m w arguments fuel workspace lent n → fitted_of (after_check r (run_of m w arguments fuel τ workspace)) n lent
      ≡ record { answer = after_check r (told_by τ ran); words = unless_refused r (words_of ran) 0 }
  unfolding after_check unless_refused run_of fitted_of
  of_check (Ok _) h = of_run w τ lent n (outcome graphs (language w) fuel (frames_in workspace) m (entry_code arguments)) h
  of_check (Err r) h = refl

pub as_fitted : AsFitted
unfolding answer_of graphed_of
as_fitted m w arguments fuel N τ workspace lent n h =
    of_check m w arguments fuel τ workspace lent n (checked_of w (length arguments) fuel N τ workspace) h
