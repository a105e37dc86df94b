-- DEMAND 2 COVERS THE GRAPH (02, P1: "The accuracy rule now covers the graph"): all that a call with a buffer gives, by its cases. A machine answers a value
-- and writes words iff it accepts its input, the figure's judgment derives the value within the fuel and the frames, and the words are those of the
-- derivation's cost graph, and fit. Beside demand 2 without a buffer (Answers.antt) only stop 25 is new.
use Rattle.std.specs.Prelude.{ℕ, ◌-◌, ◌≤◌, ◌<◌, ◌≡◌, List, ◌++◌, ◌↔◌, length, replicate, Ok, Err}
use Rattle.table.specs.declared.Refusal.{Refusal}
use Rattle.schedule.specs.Machine.{Schedule, sequential, parallel, heartbeat}
use Rattle.graph.specs.Words.{written}
use Rattle.graph.specs.Lent.{nowhere}
use Rattle.language.specs.declared.Counts.{Counts}
use Rattle.language.specs.declared.Stop.{Stop}
use Rattle.language.specs.declared.Answer.TheVariants.{Value, Stopped, Refused}
use Rattle.language.specs.Checks.{frames_in, checked_of}
use Rattle.language.specs.Answers.{stopped}
use Rattle.graph_answers.specs.declared.Graphed.{Graphed}
use Rattle.graph_answers.specs.Answers.{graphed_of, graph_left}
use Rattle.published.specs.CostGraph.{CostGraph, flat}
use Rattle.published.specs.Adequacy.{Reaches}
use Rattle.published_answers.specs.Answers.{judged, Counted, stops_judged}

-- The words of a graph of the paper (004, Figure 1).
abbrev pub words_of : CostGraph → List ℕ
words_of g = written (flat g)

-- A call gives a value with its counts, and words in a buffer of this length: "The answer also gives the number of words written. The words after the graph
-- are zero".
pub record GivesGraph (lent : ℕ) (r : Graphed) (left : List ℕ) (v : ℕ) (k : Counts) (ws : List ℕ) : Type 0 where
  pub answer_is : r.answer ≡ Value v k
  pub words_told : r.words ≡ length ws
  pub buffer_is : left ≡ ws ++ replicate (lent - length ws) 0

module _ (m : Schedule) (w arguments : List ℕ) (fuel N τ workspace lent : ℕ) where
  abbrev Accepts : Type 0
  Accepts = checked_of w (length arguments) fuel N τ workspace ≡ Ok tt

  -- Its derivation, whose graph has these words.
  pub record DerivesGraph (v : ℕ) (k : Counts) (ws : List ℕ) : Type 0 where
    pub accepted : Accepts
    pub counted : Counted (judged m w arguments) fuel (frames_in workspace) τ v k
    pub words_are : ws ≡ words_of counted.reaches.graph
    pub fits : length ws ≤ lent

  -- "25, with function 0, node 0 and the run's transitions, where a run ends in a value and its graph needs more words than lent"
  pub record DerivesTooLong (s : Stop) : Type 0 where
    pub accepted : Accepts
    pub v : ℕ
    pub reaches : Reaches (judged m w arguments) fuel (frames_in workspace) v
    pub too_long : lent < length (words_of reaches.graph)
    pub is : Stopped s
        ≡ stopped 25 nowhere ((judged m w arguments).transitions reaches.derivation) ((judged m w arguments).frames reaches.derivation)

-- What a call gives, beside what the buffer held, is that of a schedule's judgment.
pub record PublishedGraph (m : Schedule) (w arguments : List ℕ) (fuel N τ workspace : ℕ) (found : List ℕ) (r : Graphed) (left : List ℕ) : Type 0 where
  pub value_iff : (v : ℕ) (k : Counts) (ws : List ℕ)
      → GivesGraph (length found) r left v k ws ↔ DerivesGraph m w arguments fuel N τ workspace (length found) v k ws
  pub stop_iff : (s : Stop) → (s.number ≡ 25 → ⊥)
      → (r.answer ≡ Stopped s) ↔ ((checked_of w (length arguments) fuel N τ workspace ≡ Ok tt)
      × stops_judged m w arguments fuel (frames_in workspace) s)
  pub at_25_iff : (s : Stop) → s.number ≡ 25 → (r.answer ≡ Stopped s) ↔ DerivesTooLong m w arguments fuel N τ workspace (length found) s
  pub refusal_iff : (f : Refusal) → (r.answer ≡ Refused f) ↔ (checked_of w (length arguments) fuel N τ workspace ≡ Err f)
  -- "all are zero after a stop. A refused call leaves the buffer as found."
  pub after_stop : (s : Stop) → r.answer ≡ Stopped s → (r.words ≡ 0) × (left ≡ replicate (length found) 0)
  pub after_refusal : (f : Refusal) → r.answer ≡ Refused f → (r.words ≡ 0) × (left ≡ found)

-- The same of a call of one machine, by the definitions of crate graph_answers.
abbrev pub GraphOf : Schedule → (w arguments : List ℕ) (fuel N τ workspace : ℕ) → List ℕ → Type 0
GraphOf m w arguments fuel N τ workspace found = PublishedGraph m w arguments fuel N τ workspace found
    (graphed_of m w arguments fuel N τ workspace (length found)) (graph_left m w arguments fuel N τ workspace found)

pub record AllGraphsPublished (w arguments : List ℕ) (fuel N τ workspace : ℕ) (found : List ℕ) : Type 0 where
  pub figure_4 : GraphOf sequential w arguments fuel N τ workspace found
  pub figure_5 : GraphOf parallel w arguments fuel N τ workspace found
  pub figure_6 : GraphOf (heartbeat N) w arguments fuel N τ workspace found

-- THEOREM (proofs/Graphs.antt, `demand_2_graphs`), for every input and whatever the buffer held.
abbrev pub DemandTwoGraphs : Type 0
DemandTwoGraphs = (w arguments : List ℕ) (fuel N τ workspace : ℕ) (found : List ℕ) → AllGraphsPublished w arguments fuel N τ workspace found
