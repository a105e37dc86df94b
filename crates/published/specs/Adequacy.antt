-- THE STATEMENTS. The runs of crate `schedule` are the published semantics: a run gives a value iff the judgment derives it within the fuel and the
-- frames, with the graph and the counts of its derivation; and where a run stops, the judgment derives no value within them.
use Rattle.std.specs.Prelude.{ℕ, ◌≤◌, ◌≡◌, [], ◌↔◌}
use Rattle.schedule.specs.Graph.{Graph}
use Rattle.schedule.specs.Algebra.{graphs}
use Rattle.schedule.specs.FrameMachine.{Place, Control, evaluate, FrameMachine}
use Rattle.schedule.specs.Machine.{value, stop, RunCounts, ended, Schedule, sequential, parallel, heartbeat}
use Rattle.schedule.specs.Runs.{outcome, EndsIn}
use Rattle.published.specs.CostGraph.{CostGraph, work_of, fork_count, flat}
use Rattle.published.specs.Judgments.{PlainStack, Sequential, Parallel, Heartbeat}
use Rattle.published.specs.Resources.{seq_transitions, seq_frames, par_transitions, par_frames, hb_transitions, hb_frames}

-- A judgment at one machine: what it derives, with the resources of a derivation.
pub record Judgment : Type 1 where
  pub Derives : ℕ → CostGraph → Type 0
  pub transitions : {v : ℕ} {g : CostGraph} → Derives v g → ℕ
  pub frames : {v : ℕ} {g : CostGraph} → Derives v g → ℕ

-- That of a schedule, at code with an empty stack and 0 credits: Figure 4, 5 or 6.
abbrev pub published : (M : FrameMachine) → Schedule → M.Code → Judgment
published M sequential c =
    record { Derives = Sequential M (evaluate c) []; transitions = λ d. seq_transitions d; frames = λ d. seq_frames d }
published M parallel c =
    record { Derives = Parallel M (evaluate c) []; transitions = λ d. par_transitions d; frames = λ d. par_frames d }
published M (heartbeat N) c =
    record { Derives = Heartbeat M N (evaluate c) [] 0; transitions = λ d. hb_transitions d; frames = λ d. hb_frames d }

-- The judgment derives v within the fuel and the frames.
pub record Reaches (J : Judgment) (fuel frames v : ℕ) : Type 0 where
  pub graph : CostGraph
  pub derivation : J.Derives v graph
  pub within_fuel : J.transitions derivation ≤ fuel
  pub within_frames : J.frames derivation ≤ frames

-- And what a run tells of it: g is the graph of the derivation, and t are its counts.
pub record Told (J : Judgment) (fuel frames v : ℕ) (g : Graph) (t : RunCounts) : Type 0 where
  pub reaches : Reaches J fuel frames v
  pub graph_is : g ≡ flat reaches.graph
  pub transitions_are : t.transitions ≡ J.transitions reaches.derivation
  pub forks_are : t.forks ≡ fork_count reaches.graph
  pub deepest_is : t.deepest ≡ J.frames reaches.derivation

-- THEOREM (proofs/Adequacy.antt, `adequate`), for every frame machine and each of the three schedules.
abbrev pub Adequate : Type 1
Adequate = (M : FrameMachine) (fuel frames : ℕ) (m : Schedule) (c : M.Code) (v : ℕ) (g : Graph) (t : RunCounts)
    → (outcome graphs M fuel frames m c ≡ ended (value v) g t) ↔ Told (published M m c) fuel frames v g t

-- THEOREM (`value_iff_reached`): a value is given iff the published semantics reaches it within the fuel and the frames.
abbrev pub ValueIffReached : Type 1
ValueIffReached = (M : FrameMachine) (fuel frames : ℕ) (m : Schedule) (c : M.Code) (v : ℕ)
    → EndsIn (outcome graphs M fuel frames m c) (value v) ↔ Reaches (published M m c) fuel frames v

-- THEOREM (`stop_reaches_none`): where a run stops, nothing is derived within them.
abbrev pub StopReachesNone : Type 1
StopReachesNone = (M : FrameMachine) (fuel frames : ℕ) (m : Schedule) (c : M.Code) (i : ℕ) (p : Place) (g : Graph) (t : RunCounts)
    → outcome graphs M fuel frames m c ≡ ended (stop i p) g t → (v : ℕ) → Reaches (published M m c) fuel frames v → ⊥

-- THEOREM (`transitions_by_graph`): the transitions of a derivation are the work of its graph where a fork costs nothing. So the transitions, forks,
-- work and span that are told are all the graph's.
abbrev pub TransitionsByGraph : Type 1
TransitionsByGraph = (M : FrameMachine) (m : Schedule) (c : M.Code) (v : ℕ) (g : CostGraph) (d : (published M m c).Derives v g)
    → (published M m c).transitions d ≡ work_of 0 g

-- THEOREMS (proofs/Deterministic.antt): each judgment gives one value and one graph, at every machine.
abbrev pub SequentialDeterministic : Type 1
SequentialDeterministic = (M : FrameMachine) (c : Control M.Code) (S : PlainStack M) (v v' : ℕ) (g g' : CostGraph)
    → Sequential M c S v g → Sequential M c S v' g' → (v ≡ v') × (g ≡ g')

abbrev pub ParallelDeterministic : Type 1
ParallelDeterministic = (M : FrameMachine) (c : Control M.Code) (S : PlainStack M) (v v' : ℕ) (g g' : CostGraph)
    → Parallel M c S v g → Parallel M c S v' g' → (v ≡ v') × (g ≡ g')

abbrev pub HeartbeatDeterministic : Type 1
HeartbeatDeterministic = (M : FrameMachine) (N : ℕ) (c : Control M.Code) (S : PlainStack M) (n v v' : ℕ) (g g' : CostGraph)
    → Heartbeat M N c S n v g → Heartbeat M N c S n v' g' → (v ≡ v') × (g ≡ g')
