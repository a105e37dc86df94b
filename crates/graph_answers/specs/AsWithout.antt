-- THE ANSWER WITH A BUFFER BESIDE THE ONE WITHOUT (02, P1): a buffer changes no run. It changes an answer only to stop 25, and that only where the answer
-- without one is a value.
use Rattle.std.specs.Prelude.{ℕ, ◌≤◌, ◌<◌, ◌≡◌, ◌↔◌, List}
use Rattle.schedule.specs.Algebra.{graphs}
use Rattle.schedule.specs.Machine.{Schedule}
use Rattle.schedule.specs.Runs.{outcome}
use Rattle.table.specs.declared.Refusal.{Refusal}
use Rattle.graph.specs.Lent.{nowhere}
use Rattle.language.specs.declared.Counts.{Counts}
use Rattle.language.specs.declared.Stop.{Stop}
use Rattle.language.specs.declared.Answer.{Answer}
use Rattle.language.specs.declared.Answer.TheVariants.{Value, Stopped, Refused}
use Rattle.language.specs.Language.{language}
use Rattle.language.specs.Checks.{frames_in}
use Rattle.language.specs.Answers.{entry_code, stopped, answer_of}
use Rattle.graph_answers.specs.declared.Graphed.{Graphed}
use Rattle.graph_answers.specs.Answers.{words_of, graphed_of}

-- Stop 25 of a run with these counts: "with function 0, node 0 and the run's transitions", and its depth.
abbrev pub too_long_answer : Counts → Answer
too_long_answer k = stopped 25 nowhere k.transitions k.deepest

-- The words that a run's graph needs where the run ends in a value.
abbrev pub needed : Schedule → (w arguments : List ℕ) (fuel workspace : ℕ) → ℕ
needed m w arguments fuel workspace = words_of (outcome graphs (language w) fuel (frames_in workspace) m (entry_code arguments))

-- Where a stop 25 comes from: a value whose graph does not fit.
pub record ValueTooLong (lent n : ℕ) (without : Answer) (s : Stop) : Type 0 where
  pub v : ℕ
  pub k : Counts
  pub was : without ≡ Value v k
  pub over : lent < n
  pub is : Stopped s ≡ too_long_answer k

-- An answer beside `lent` words, and the one without, whose run needs n words.
pub record Beside (lent n : ℕ) (without : Answer) (r : Graphed) : Type 0 where
  -- "a value also needs that its graph fits"; "The answer also gives the number of words written."
  pub value_iff : (v : ℕ) (k : Counts) → (r.answer ≡ Value v k) ↔ ((without ≡ Value v k) × (n ≤ lent))
  pub words_at_value : (v : ℕ) (k : Counts) → r.answer ≡ Value v k → r.words ≡ n
  -- 25 "comes after every other stop", and is told "where a run ends in a value and its graph needs more words than lent"
  pub stop_iff : (s : Stop) → (s.number ≡ 25 → ⊥) → (r.answer ≡ Stopped s) ↔ (without ≡ Stopped s)
  pub at_25_iff : (s : Stop) → s.number ≡ 25 → (r.answer ≡ Stopped s) ↔ ValueTooLong lent n without s
  pub no_words_at_stop : (s : Stop) → r.answer ≡ Stopped s → r.words ≡ 0
  pub refusal_iff : (f : Refusal) → (r.answer ≡ Refused f) ↔ (without ≡ Refused f)
  pub no_words_at_refusal : (f : Refusal) → r.answer ≡ Refused f → r.words ≡ 0

-- THEOREM (proofs/AsWithout.antt, `as_without`), for every machine, input and number of words lent.
abbrev pub AsWithout : Type 0
AsWithout = (m : Schedule) (w arguments : List ℕ) (fuel N τ workspace lent : ℕ)
    → Beside lent (needed m w arguments fuel workspace) (answer_of m w arguments fuel N τ workspace) (graphed_of m w arguments fuel N τ workspace lent)

-- THEOREM (`never_empty`): no value's graph is without words. It has a stretch, for the transition that returns the value lies in no branch of a fork.
abbrev pub NeverEmpty : Type 0
NeverEmpty = (m : Schedule) (w arguments : List ℕ) (fuel N τ workspace v : ℕ) (k : Counts) → answer_of m w arguments fuel N τ workspace ≡ Value v k
    → 2 ≤ needed m w arguments fuel workspace

-- THEOREM (`empty_buffer`): so a value beside a buffer of no words is stop 25.
abbrev pub EmptyBuffer : Type 0
EmptyBuffer = (m : Schedule) (w arguments : List ℕ) (fuel N τ workspace v : ℕ) (k : Counts) → answer_of m w arguments fuel N τ workspace ≡ Value v k
    → (graphed_of m w arguments fuel N τ workspace 0).answer ≡ too_long_answer k
