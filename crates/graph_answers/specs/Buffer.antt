-- THE BUFFER AT EXIT, by the run: what `graph_left` comes to in each case.
use Rattle.std.specs.Prelude.{ℕ, ◌-◌, ◌≤◌, ◌<◌, ◌≡◌, List, ◌++◌, length, replicate, Ok, Err}
use Rattle.schedule.specs.Graph.{Graph}
use Rattle.schedule.specs.Algebra.{graphs}
use Rattle.schedule.specs.FrameMachine.{Place}
use Rattle.schedule.specs.Machine.{Ending, value, stop, RunCounts, ended, Schedule}
use Rattle.schedule.specs.Runs.{outcome}
use Rattle.table.specs.declared.Refusal.{Refusal}
use Rattle.graph.specs.Words.{written}
use Rattle.language.specs.declared.Stop.{Stop}
use Rattle.language.specs.declared.Answer.TheVariants.{Stopped, Refused}
use Rattle.language.specs.Language.{language}
use Rattle.language.specs.Checks.{frames_in, checked_of}
use Rattle.language.specs.Answers.{entry_code}
use Rattle.graph_answers.specs.Answers.{graphed_of, graph_left}

-- THEOREM (proofs/Buffer.antt, `left_long`): the buffer has as many words as before.
abbrev pub LeftLong : Type 0
LeftLong = (m : Schedule) (w arguments : List ℕ) (fuel N τ workspace : ℕ) (found : List ℕ)
    → length (graph_left m w arguments fuel N τ workspace found) ≡ length found

-- The check accepts, and the run comes to this.
pub record RanTo (m : Schedule) (w arguments : List ℕ) (fuel N τ workspace : ℕ) (z : Ending) (g : Graph) (t : RunCounts) : Type 0 where
  pub accepted : checked_of w (length arguments) fuel N τ workspace ≡ Ok tt
  pub is : outcome graphs (language w) fuel (frames_in workspace) m (entry_code arguments) ≡ ended z g t

-- 02: "The words after the graph are zero, and all are zero after a stop.", 25 too. "A refused call leaves the buffer as found."
pub record Left (m : Schedule) (w arguments : List ℕ) (fuel N τ workspace : ℕ) (found : List ℕ) : Type 0 where
  pub at_refusal : (r : Refusal) → checked_of w (length arguments) fuel N τ workspace ≡ Err r
      → graph_left m w arguments fuel N τ workspace found ≡ found
  pub at_value : (v : ℕ) (g : Graph) (t : RunCounts) → RanTo m w arguments fuel N τ workspace (value v) g t → length (written g) ≤ length found
      → graph_left m w arguments fuel N τ workspace found ≡ written g ++ replicate (length found - length (written g)) 0
  pub at_25 : (v : ℕ) (g : Graph) (t : RunCounts) → RanTo m w arguments fuel N τ workspace (value v) g t → length found < length (written g)
      → graph_left m w arguments fuel N τ workspace found ≡ replicate (length found) 0
  pub at_stop : (i : ℕ) (p : Place) (g : Graph) (t : RunCounts) → RanTo m w arguments fuel N τ workspace (stop i p) g t
      → graph_left m w arguments fuel N τ workspace found ≡ replicate (length found) 0

-- THEOREM (`buffer_left`), for every input and whatever the buffer held.
abbrev pub BufferLeft : Type 0
BufferLeft = (m : Schedule) (w arguments : List ℕ) (fuel N τ workspace : ℕ) (found : List ℕ) → Left m w arguments fuel N τ workspace found

-- The same by the answer, as a caller sees it; Reported.antt has the value.
pub record LeftByAnswer (m : Schedule) (w arguments : List ℕ) (fuel N τ workspace : ℕ) (found : List ℕ) : Type 0 where
  pub at_stop : (s : Stop) → (graphed_of m w arguments fuel N τ workspace (length found)).answer ≡ Stopped s
      → graph_left m w arguments fuel N τ workspace found ≡ replicate (length found) 0
  pub at_refusal : (r : Refusal) → (graphed_of m w arguments fuel N τ workspace (length found)).answer ≡ Refused r
      → graph_left m w arguments fuel N τ workspace found ≡ found

-- THEOREM (`left_by_answer`).
abbrev pub LeftByAnswerAlways : Type 0
LeftByAnswerAlways = (m : Schedule) (w arguments : List ℕ) (fuel N τ workspace : ℕ) (found : List ℕ)
    → LeftByAnswer m w arguments fuel N τ workspace found
