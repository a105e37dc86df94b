-- What the functions under the machines tell of the buffer that is lent for a run's cost graph.
use Rattle.std.specs.Prelude.{ℕ, ◌-◌, ◌≤◌, ◌<◌, ◌≡◌, ◌⊎◌, Bool, List, ◌++◌, length, take, replicate, Ok, Err}
use Rattle.schedule.specs.Graph.{Graph}
use Rattle.schedule.specs.Algebra.{graphs}
use Rattle.schedule.specs.Machine.{Schedule, value, RunCounts, ended}
use Rattle.schedule.specs.Runs.{outcome}
use Rattle.schedule.specs.Bounds.{Flags}
use Rattle.table.specs.declared.Refusal.{Refusal}
use Rattle.graph.specs.Words.{written}
use Rattle.graph.specs.Writing.{count_ended, lent_ended}
use Rattle.language.specs.declared.Stop.{Stop}
use Rattle.language.specs.declared.Answer.{Answer}
use Rattle.language.specs.declared.Answer.TheVariants.{Value, Stopped, Refused}
use Rattle.language.specs.Language.{language}
use Rattle.language.specs.Checks.{frames_in, checked_of}
use Rattle.language.specs.Answers.{entry_code}
use Rattle.language.specs.Stops.{Listed}
use Rattle.graph_answers.specs.declared.Graphed.{Graphed}
use Rattle.graph_answers.specs.Claim.{Told25}
use Rattle.moves.specs.declared.Plan.{Plan}
use Rattle.machine.specs.Runs.{Suits}

-- the last stretch ends, beside a buffer that has words; beside one that has none, 1 is told
pub record Finished (graph : List ℕ) (n made words : ℕ) (graph' : List ℕ) : Type 0 where
  pub some : 0 < length graph → (words ≡ count_ended n made) × (graph' ≡ lent_ended graph n made)
  pub none : length graph ≡ 0 → words ≡ 1

-- `words` are those that the graph g needs, and where they fit, the buffer begins with them; 1 beside a buffer of none
pub record Holds (graph : List ℕ) (words : ℕ) (graph' : List ℕ) (g : Graph) : Type 0 where
  pub some : 0 < length graph → (words ≡ length (written g)) × (words ≤ length graph → take words graph' ≡ written g)
  pub none : length graph ≡ 0 → words ≡ 1

-- WHAT A RUN WRITES, if it ends in a value, by each schedule that the plan's flags have
pub record Wrote (w arguments : List ℕ) (workspace : ℕ) (plan : Plan) (graph : List ℕ) (words : ℕ) (graph' : List ℕ) : Type 0 where
  pub long : length graph' ≡ length graph
  pub holds : (m : Schedule) → Flags plan.fuel.0 m plan.birth plan.period → (v : ℕ) (g : Graph) (t : RunCounts)
      → outcome graphs (language w) plan.fuel.0 (frames_in workspace) m (entry_code arguments) ≡ ended (value v) g t → Holds graph words graph' g

-- WHAT A MACHINE WRITES, for any input, by its schedule
pub record Lends (w arguments : List ℕ) (fuel N τ workspace : ℕ) (m : Schedule) (graph : List ℕ) (words : ℕ) (graph' : List ℕ) : Type 0 where
  pub long : length graph' ≡ length graph
  pub refused : (r : Refusal) → checked_of w (length arguments) fuel N τ workspace ≡ Err r → graph' ≡ graph
  pub holds : checked_of w (length arguments) fuel N τ workspace ≡ Ok tt
      → (v : ℕ) (g : Graph) (t : RunCounts) → outcome graphs (language w) fuel (frames_in workspace) m (entry_code arguments) ≡ ended (value v) g t
      → Holds graph words graph' g

-- the same of each schedule that the flags suit
abbrev pub LendsBy : List ℕ → List ℕ → ℕ → ℕ → ℕ → ℕ → Bool → ℕ → List ℕ → ℕ → List ℕ → Type 0
LendsBy w arguments fuel N τ workspace birth pace graph words graph' =
    (m : Schedule) → Suits fuel m birth pace → Lends w arguments fuel N τ workspace m graph words graph'

-- the buffer after what is answered: zeros after the words of a value, and everywhere after a stop
unfoldable pub cleared_to : Answer → ℕ → List ℕ → List ℕ
cleared_to (Value v k) words graph = take words graph ++ replicate (length graph - words) 0
cleared_to (Stopped s) words graph = replicate (length graph) 0
cleared_to (Refused r) words graph = graph

abbrev pub cleared_by : Graphed → List ℕ → List ℕ
cleared_by r graph = cleared_to r.answer r.words graph

-- 01's list of stops, and 25 (02, P1), of a machine with a buffer lent
abbrev pub StopToldLent : List ℕ → ℕ → Answer → Type 0
StopToldLent w fuel r = (s : Stop) → r ≡ Stopped s → Listed w fuel s ⊎ Told25 fuel s
