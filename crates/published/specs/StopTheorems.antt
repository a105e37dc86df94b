-- THE STATEMENTS on stops. A run of crate `schedule` stops with a number, at a place, after so many transitions and so deep, iff the rules of Stops.antt
-- derive that; they derive one stop at most, and none where the judgment derives a value within the same fuel and frames; and one of the two is always
-- derived.
use Rattle.std.specs.Prelude.{ℕ, ◌≤◌, ◌≡◌, [], ◌↔◌, ◌⊎◌}
use Rattle.schedule.specs.Algebra.{graphs}
use Rattle.schedule.specs.FrameMachine.{Place, Control, evaluate, FrameMachine}
use Rattle.schedule.specs.Machine.{stop, Outcome, Schedule, sequential, parallel, heartbeat}
use Rattle.schedule.specs.Runs.{outcome, EndsIn}
use Rattle.published.specs.CostGraph.{CostGraph}
use Rattle.published.specs.Judgments.{PlainStack, Sequential, Parallel, Heartbeat}
use Rattle.published.specs.Resources.{seq_transitions, seq_frames, par_transitions, par_frames, hb_transitions, hb_frames}
use Rattle.published.specs.Adequacy.{published, Reaches}
use Rattle.published.specs.Stops.{SequentialStops, ParallelStops, HeartbeatStops}

-- The stops of a schedule, at code with an empty stack and 0 credits: beside Figure 4, 5 or 6. The arguments: fuel, frames, number, place, transitions,
-- and the most frames that were occupied at once.
abbrev pub stops : (M : FrameMachine) → Schedule → M.Code → (fuel frames : ℕ) → ℕ → Place → ℕ → ℕ → Type 0
stops M sequential c fuel frames i p k h = SequentialStops M fuel frames (evaluate c) [] i p k h
stops M parallel c fuel frames i p k h = ParallelStops M fuel frames (evaluate c) [] i p k h
stops M (heartbeat N) c fuel frames i p k h = HeartbeatStops M N fuel frames (evaluate c) [] 0 i p k h

-- A run ends in a stop, with a number, at a place, after so many transitions, with a depth: "the largest number of frames occupied at once" (02, P7).
pub record StopsSo {Cost X : Type 0} (o : Outcome Cost X) (i : ℕ) (p : Place) (k h : ℕ) : Type 0 where
  pub ends : EndsIn o (stop i p)
  pub transitions_are : ends.counts.transitions ≡ k
  pub deepest_is : ends.counts.deepest ≡ h

-- THEOREM (proofs/Stops.antt, `stop_iff_derived`), for every frame machine and each of the three schedules.
abbrev pub StopIffDerived : Type 1
StopIffDerived = (M : FrameMachine) (fuel frames : ℕ) (m : Schedule) (c : M.Code) (i : ℕ) (p : Place) (k h : ℕ)
    → StopsSo (outcome graphs M fuel frames m c) i p k h ↔ stops M m c fuel frames i p k h

-- A stop that is derived at this code.
pub record SomeStop (M : FrameMachine) (m : Schedule) (c : M.Code) (fuel frames : ℕ) : Type 0 where
  pub number : ℕ
  pub place : Place
  pub transitions : ℕ
  pub deepest : ℕ
  pub derivation : stops M m c fuel frames number place transitions deepest

-- THEOREM (`value_or_stop`), of the rules alone: within any fuel and frames a value is derived or a stop.
abbrev pub ValueOrStop : Type 1
ValueOrStop = (M : FrameMachine) (fuel frames : ℕ) (m : Schedule) (c : M.Code)
    → ((v : ℕ) × Reaches (published M m c) fuel frames v) ⊎ SomeStop M m c fuel frames

-- THEOREMS (`sequential_stops_once` and so on): one number, one place, one count of transitions and one depth, at every machine.
abbrev pub SequentialStopsOnce : Type 1
SequentialStopsOnce = (M : FrameMachine) (fuel frames : ℕ) (c : Control M.Code) (S : PlainStack M) (i i' : ℕ) (p p' : Place) (k k' h h' : ℕ)
    → SequentialStops M fuel frames c S i p k h → SequentialStops M fuel frames c S i' p' k' h' → (i ≡ i') × (p ≡ p') × (k ≡ k') × (h ≡ h')

abbrev pub ParallelStopsOnce : Type 1
ParallelStopsOnce = (M : FrameMachine) (fuel frames : ℕ) (c : Control M.Code) (S : PlainStack M) (i i' : ℕ) (p p' : Place) (k k' h h' : ℕ)
    → ParallelStops M fuel frames c S i p k h → ParallelStops M fuel frames c S i' p' k' h' → (i ≡ i') × (p ≡ p') × (k ≡ k') × (h ≡ h')

abbrev pub HeartbeatStopsOnce : Type 1
HeartbeatStopsOnce = (M : FrameMachine) (N fuel frames : ℕ) (c : Control M.Code) (S : PlainStack M) (n i i' : ℕ) (p p' : Place)
    (k k' h h' : ℕ) → HeartbeatStops M N fuel frames c S n i p k h → HeartbeatStops M N fuel frames c S n i' p' k' h'
    → (i ≡ i') × (p ≡ p') × (k ≡ k') × (h ≡ h')

-- THEOREMS (`sequential_not_both` and so on): a machine that stops derives no value within the same fuel and frames.
abbrev pub SequentialNotBoth : Type 1
SequentialNotBoth = (M : FrameMachine) (fuel frames : ℕ) (c : Control M.Code) (S : PlainStack M) (i : ℕ) (p : Place) (k h v : ℕ) (g : CostGraph)
    → SequentialStops M fuel frames c S i p k h → (d : Sequential M c S v g) → seq_transitions d ≤ fuel → seq_frames d ≤ frames → ⊥

abbrev pub ParallelNotBoth : Type 1
ParallelNotBoth = (M : FrameMachine) (fuel frames : ℕ) (c : Control M.Code) (S : PlainStack M) (i : ℕ) (p : Place) (k h v : ℕ) (g : CostGraph)
    → ParallelStops M fuel frames c S i p k h → (d : Parallel M c S v g) → par_transitions d ≤ fuel → par_frames d ≤ frames → ⊥

abbrev pub HeartbeatNotBoth : Type 1
HeartbeatNotBoth = (M : FrameMachine) (N fuel frames : ℕ) (c : Control M.Code) (S : PlainStack M) (n i : ℕ) (p : Place) (k h v : ℕ)
    (g : CostGraph) → HeartbeatStops M N fuel frames c S n i p k h → (d : Heartbeat M N c S n v g) → hb_transitions d ≤ fuel → hb_frames d ≤ frames
    → ⊥
