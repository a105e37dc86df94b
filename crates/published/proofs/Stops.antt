-- The theorems on stops (specs/StopTheorems.antt). A derived stop is a run's (FromStop.antt), and a run has one end; so a machine has one stop, and none
-- beside a value. A value or a stop is always derived (ValueOrStop.antt); so the stop of a run is derived, since nothing else can be.
use mathlib.Core.Path.{◌≡◌, refl, ap, sym, ◌∙◌}
use mathlib.Core.List.{[]}
use mathlib.Core.Logic.{◌⊎◌, inl, inr}
use Prim.Native.Nat.{ℕ, ◌+◌, ◌≤◌, max}
use native.Mathlib.Omega.{arith}
use lib.ListN.{length}
use Rattle.schedule.specs.Graph.{Graph, empty}
use Rattle.schedule.specs.Algebra.{graphs}
use Rattle.schedule.specs.FrameMachine.{Place, Control, evaluate, return, FrameMachine}
use Rattle.schedule.specs.Machine.{promotable, value, stop, RunCounts, zeros, State, state, ended, Schedule, sequential, parallel, heartbeat, move, step, start}
use Rattle.schedule.specs.Runs.{and_then, run, moves, outcome}
use Rattle.schedule.proofs.Runs.{same_end}
use Rattle.schedule.proofs.Finish.{finishes}
use Rattle.published.specs.CostGraph.{CostGraph}
use Rattle.published.specs.Judgments.{PlainStack}
use Rattle.published.specs.Adequacy.{published, Reaches}
use Rattle.published.specs.StopTheorems.{stops, StopsSo, StopIffDerived, SomeStop, ValueOrStop, SequentialStopsOnce, ParallelStopsOnce, HeartbeatStopsOnce, SequentialNotBoth, ParallelNotBoth, HeartbeatNotBoth}
use Rattle.published.proofs.Schedules.{Eval, ◌⊕◌, quiet}
use Rattle.published.proofs.Conversion.{of_seq, of_par, of_hb}
use Rattle.published.proofs.FromDerivation.{ends_as, Lands, lands, step_quiet}
use Rattle.published.proofs.Adequacy.{out, stop_reaches_none}
use Rattle.published.proofs.Stopping.{Stops, stop_tall}
use Rattle.published.proofs.FromStop.{Halted, halting}
use Rattle.published.proofs.ValueOrStop.{Comes, comes}
use Rattle.published.proofs.StopConversion.{of_seq_stop, to_seq_stop, of_par_stop, to_par_stop, of_hb_stop, to_hb_stop}

-- The stops of a schedule are the family at it.
module _ (M : FrameMachine) (c : M.Code) (fuel frames i : ℕ) (p : Place) (k h : ℕ) where
  stop_into : (m : Schedule) → stops M m c fuel frames i p k h → Stops M m fuel frames (evaluate c) [] 0 i p k h
  stop_into sequential d = of_seq_stop 0 d
  stop_into parallel d = of_par_stop 0 d
  stop_into (heartbeat N) d = of_hb_stop d

  stop_out : (m : Schedule) → Stops M m fuel frames (evaluate c) [] 0 i p k h → stops M m c fuel frames i p k h
  stop_out sequential d = to_seq_stop d
  stop_out parallel d = to_par_stop d
  stop_out (heartbeat N) d = to_hb_stop d

module _ (M : FrameMachine) (fuel frames : ℕ) (m : Schedule) where
  same_halt : {s : State graphs M} {i i' : ℕ} {p p' : Place} {k k' h h' : ℕ} → Halted M fuel frames m s i p k h
      → Halted M fuel frames m s i' p' k' h' → (i ≡ i') × (p ≡ p') × (k ≡ k') × (h ≡ h')
  same_halt {s} {i} {i'} {p} {p'} a b =
      let e = same_end (step graphs M fuel frames m) a.j b.j s a.goes b.goes in
      let t : a.t ≡ b.t = cc in
      ((cc), (cc), sym a.transitions ∙ ap (λ x. x.transitions) t ∙ b.transitions, sym a.deepest ∙ ap (λ x. x.deepest) t ∙ b.deepest)

  -- A machine by itself, with nothing below it.
  abbrev alone : Control M.Code → PlainStack M → ℕ → State graphs M
  alone c S n = state c (S ⊕ []) n empty (record { transitions = 0; forks = 0; deepest = length S })

  halts_alone : {c : Control M.Code} {S : PlainStack M} {n i : ℕ} {p : Place} {k h : ℕ} → Stops M m fuel frames c S n i p k h
      → Halted M fuel frames m (alone c S n) i p (0 + k) (max (length S) (0 + h))
  unfolding promotable
  halts_alone {S = S} a =
      (halting M fuel frames m a).to [] refl empty (record { transitions = 0; forks = 0; deepest = length S }) (omega arith) (omega arith)
      (omega arith)

  pub stops_once : {c : Control M.Code} {S : PlainStack M} {n i i' : ℕ} {p p' : Place} {k k' h h' : ℕ} → Stops M m fuel frames c S n i p k h
      → Stops M m fuel frames c S n i' p' k' h' → (i ≡ i') × (p ≡ p') × (k ≡ k') × (h ≡ h')
  stops_once a b =
      let s = same_halt (halts_alone a) (halts_alone b) in
      (s.0, s.1, omega (arith, s.2), omega (arith, s.3, stop_tall a, stop_tall b))

  -- A run that comes to a value does not stop.
  one_end : {s : State graphs M} {v i : ℕ} {p : Place} {k h : ℕ} {g : Graph} {t : RunCounts} {k' f q : ℕ}
      → Lands M fuel frames m s v [] g t k' f q → Halted M fuel frames m s i p k h → ⊥
  unfolding promotable move run and_then
  one_end {s} {v} {g = g} a b =
      let e : run (step graphs M fuel frames m) 1 (state (return v) [] a.n g a.t') ≡ ended (value v) g a.t'
      = rw (step_quiet M fuel frames m (return v) [] a.n g a.t' (ended (value v) g a.t') (quiet m a.n) refl) in
      let r = ends_as M fuel frames m a.goes 1 (ended (value v) g a.t') e in
      let x = same_end (step graphs M fuel frames m) r.0 b.j s r.1 b.goes in
      let no : ◌≡◌ {A = ℕ} 0 1 = cc in
      omega arith

  pub not_both : {c : Control M.Code} {S : PlainStack M} {n i v : ℕ} {p : Place} {k h : ℕ} {g : CostGraph} {k' q : ℕ}
      → Stops M m fuel frames c S n i p k h → Eval M m c S n v g k' q → k' ≤ fuel → q ≤ frames → ⊥
  unfolding promotable
  not_both {S = S} a e l r =
      one_end
      ((lands M fuel frames m e).to [] refl empty (record { transitions = 0; forks = 0; deepest = length S }) (omega arith) (omega arith)
      (omega arith))
      (halts_alone a)

  -- THE RUN of a code.
  module _ (c : M.Code) where
    halts_so : {i : ℕ} {p : Place} {k h : ℕ} → Stops M m fuel frames (evaluate c) [] 0 i p k h
        → Halted M fuel frames m (start graphs M c) i p (0 + k) (max 0 (0 + h))
    unfolding start promotable
    halts_so a = (halting M fuel frames m a).to [] refl empty zeros (omega arith) (omega arith) (omega arith)

    derived_so : {i : ℕ} {p : Place} {k h : ℕ} → Stops M m fuel frames (evaluate c) [] 0 i p k h
        → StopsSo (outcome graphs M fuel frames m c) i p k h
    unfolding outcome
    derived_so a =
        let s = halts_so a in
        let z = finishes graphs M fuel frames m c in
        let e = same_end (step graphs M fuel frames m) (moves fuel frames) s.j (start graphs M c) z.1.is s.goes in
        record {
          ends = record { cost = s.g; counts = s.t; is = z.1.is ∙ e };
          transitions_are = s.transitions ∙ omega arith;
          deepest_is = s.deepest ∙ omega arith;
        }

    valued : {v : ℕ} {g : CostGraph} {k p : ℕ} → Eval M m (evaluate c) [] 0 v g k p → k ≤ fuel → p ≤ frames
        → Reaches (published M m c) fuel frames v
    valued {v} {g} {k} {p} e l r =
        let d = out M c m v g k p e in
        record { graph = g; derivation = d.derivation; within_fuel = rw d.transitions l; within_frames = rw d.frames r }

    told_so : {i : ℕ} {p : Place} {k h : ℕ} (a : StopsSo (outcome graphs M fuel frames m c) i p k h) → Comes M m fuel frames (evaluate c) [] 0
        → Stops M m fuel frames (evaluate c) [] 0 i p k h
    told_so {i} {p} a (inl d) =
        absurd (stop_reaches_none M fuel frames m c i p a.ends.cost a.ends.counts a.ends.is d.v
        (valued d.eval d.fits d.holds))
    told_so {i} {p} {k} {h} a (inr d) =
        let b = derived_so d.stops in
        let e : ended (stop d.i d.p) b.ends.cost b.ends.counts ≡ ended (stop i p) a.ends.cost a.ends.counts
        = sym b.ends.is ∙ a.ends.is in
        let t : b.ends.counts ≡ a.ends.counts = cc in
        let ei : d.i ≡ i = cc in
        let ep : d.p ≡ p = cc in
        let ek : d.k ≡ k = sym b.transitions_are ∙ ap (λ x. x.transitions) t ∙ a.transitions_are in
        let eh : d.h ≡ h = sym b.deepest_is ∙ ap (λ x. x.deepest) t ∙ a.deepest_is in
        rw (ei, ep, ek, eh) at d.stops

pub stop_iff_derived : StopIffDerived
stop_iff_derived M fuel frames m c i p k h = (
  λ a. stop_out M c fuel frames i p k h m (told_so M fuel frames m c a (comes M m fuel frames (evaluate c) [] 0 (omega arith))),
  λ d. derived_so M fuel frames m c (stop_into M c fuel frames i p k h m d),
)

either : (M : FrameMachine) (fuel frames : ℕ) (m : Schedule) (c : M.Code) → Comes M m fuel frames (evaluate c) [] 0
    → ((v : ℕ) × Reaches (published M m c) fuel frames v) ⊎ SomeStop M m c fuel frames
either M fuel frames m c (inl d) = inl (d.v, valued M fuel frames m c d.eval d.fits d.holds)
either M fuel frames m c (inr d) =
    inr (record {
      number = d.i;
      place = d.p;
      transitions = d.k;
      deepest = d.h;
      derivation = stop_out M c fuel frames d.i d.p d.k d.h m d.stops;
    })

pub value_or_stop : ValueOrStop
value_or_stop M fuel frames m c = either M fuel frames m c (comes M m fuel frames (evaluate c) [] 0 (omega arith))

pub sequential_stops_once : SequentialStopsOnce
sequential_stops_once M fuel frames c S i i' p p' k k' h h' a b = stops_once M fuel frames sequential (of_seq_stop 0 a) (of_seq_stop 0 b)

pub parallel_stops_once : ParallelStopsOnce
parallel_stops_once M fuel frames c S i i' p p' k k' h h' a b = stops_once M fuel frames parallel (of_par_stop 0 a) (of_par_stop 0 b)

pub heartbeat_stops_once : HeartbeatStopsOnce
heartbeat_stops_once M N fuel frames c S n i i' p p' k k' h h' a b = stops_once M fuel frames (heartbeat N) (of_hb_stop a) (of_hb_stop b)

pub sequential_not_both : SequentialNotBoth
sequential_not_both M fuel frames c S i p k h v g a d l r = not_both M fuel frames sequential (of_seq_stop 0 a) (of_seq 0 d) l r

pub parallel_not_both : ParallelNotBoth
parallel_not_both M fuel frames c S i p k h v g a d l r = not_both M fuel frames parallel (of_par_stop 0 a) (of_par 0 d) l r

pub heartbeat_not_both : HeartbeatNotBoth
heartbeat_not_both M N fuel frames c S n i p k h v g a d l r = not_both M fuel frames (heartbeat N) (of_hb_stop a) (of_hb d) l r
