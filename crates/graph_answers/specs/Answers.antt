-- WHAT A MACHINE ANSWERS WITH A BUFFER LENT for its cost graph (02, P1), and what it leaves there, for every input. The run is the one without a buffer;
-- how it ends, the number of words and the buffer follow from its graph and from the number of words lent (crate graph, specs/Lent.antt).
use Rattle.std.specs.Prelude.{ℕ, List, length, replicate, Ok, Err}
use Rattle.schedule.specs.Graph.{Graph}
use Rattle.schedule.specs.Algebra.{graphs}
use Rattle.schedule.specs.Machine.{Outcome, Result, ended, ongoing, Schedule}
use Rattle.schedule.specs.Runs.{outcome}
use Rattle.table.specs.Read.{Reading}
use Rattle.graph.specs.Lent.{ending_with, words_told, left_in}
use Rattle.language.specs.Language.{language}
use Rattle.language.specs.Checks.{frames_in, checked_of}
use Rattle.language.specs.Answers.{entry_code, told_by, after_check}
use Rattle.graph_answers.specs.declared.Graphed.{Graphed}

-- A run beside so many words: 02, "With a buffer lent, a value also needs that its graph fits". (No run is unfinished: the second line is of none.)
unfoldable pub lent_to : {X : Type 0} → ℕ → Outcome Graph X → Outcome Graph X
lent_to lent (ended z g t) = ended (ending_with lent z g) g t
lent_to lent (ongoing s) = ongoing s

-- "The answer also gives the number of words written."
unfoldable pub words_of : {X : Type 0} → Outcome Graph X → ℕ
words_of (ended z g t) = words_told z g
words_of (ongoing s) = 0

-- "The words after the graph are zero, and all are zero after a stop."
unfoldable pub buffer_of : {X : Type 0} → ℕ → Outcome Graph X → List ℕ
buffer_of lent (ended z g t) = left_in lent z g
buffer_of lent (ongoing s) = replicate lent 0

-- The run of an accepted input, by a machine that is lent so many words.
abbrev pub lent_run : Schedule → (w arguments : List ℕ) (fuel workspace lent : ℕ) → Result graphs (language w)
lent_run machine w arguments fuel workspace lent =
    lent_to lent (outcome graphs (language w) fuel (frames_in workspace) machine (entry_code arguments))

-- One thing where the check accepts, another where it refuses.
unfoldable pub unless_refused : {A : Type 0} → Reading → A → A → A
unless_refused (Ok _) ran refused = ran
unless_refused (Err r) ran refused = refused

-- THE ANSWER of a machine and the number of words, for any table, arguments, fuel, N, τ, length of the workspace and number of words lent.
unfoldable pub graphed_of : Schedule → List ℕ → List ℕ → ℕ → ℕ → ℕ → ℕ → ℕ → Graphed
graphed_of machine w arguments fuel N τ workspace lent = record {
  answer = after_check (checked_of w (length arguments) fuel N τ workspace) (told_by τ (lent_run machine w arguments fuel workspace lent));
  words = unless_refused (checked_of w (length arguments) fuel N τ workspace) (words_of (lent_run machine w arguments fuel workspace lent)) 0;
}

-- THE BUFFER at exit, by what it held: "A refused call leaves the buffer as found."
unfoldable pub graph_left : Schedule → List ℕ → List ℕ → ℕ → ℕ → ℕ → ℕ → List ℕ → List ℕ
graph_left machine w arguments fuel N τ workspace found =
    unless_refused (checked_of w (length arguments) fuel N τ workspace) (buffer_of (length found) (lent_run machine w arguments fuel workspace (length found))) found
