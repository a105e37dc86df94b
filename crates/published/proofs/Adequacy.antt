-- Adequacy: the flat machine's run gives a value iff the judgment derives it within the fuel and the frames.
use mathlib.Core.Path.{◌≡◌, refl, ap, sym, ◌∙◌}
use mathlib.Core.List.{[]}
use Prim.Native.Nat.{ℕ, zero, suc, ◌+◌, ◌≤◌}
use native.Mathlib.Omega.{arith}
use Rattle.schedule.specs.Graph.{Graph, empty}
use Rattle.schedule.specs.Algebra.{graphs}
use Rattle.schedule.specs.FrameMachine.{evaluate, return, FrameMachine}
use Rattle.schedule.specs.Machine.{promotable, value, RunCounts, zeros, state, Result, ended, Schedule, sequential, parallel, heartbeat, move, step, start}
use Rattle.schedule.specs.Runs.{and_then, run, moves, outcome}
use Rattle.schedule.proofs.Runs.{same_end}
use Rattle.schedule.proofs.Finish.{finishes}
use Rattle.published.specs.CostGraph.{CostGraph, fork_count, flat}
use Rattle.published.specs.Adequacy.{published, Reaches, Told, Adequate, ValueIffReached, StopReachesNone, TransitionsByGraph}
use Rattle.published.proofs.CostGraph.{◌▹◌, flat_is}
use Rattle.published.proofs.Schedules.{Eval, quiet}
use Rattle.published.proofs.Conversion.{of_seq, to_seq, of_par, to_par, of_hb, to_hb, Converted}
use Rattle.published.proofs.FromDerivation.{Lands, ends_as, lands, step_quiet}
use Rattle.published.proofs.Deterministic.{count}
use Rattle.published.proofs.FromRun.{Back, backs}

counts_are : (t : RunCounts) (k f d : ℕ) → t.transitions ≡ k → t.forks ≡ f → t.deepest ≡ d
    → t ≡ record { transitions = k; forks = f; deepest = d }
counts_are t k f d a b c = λ i. record { transitions = a i; forks = b i; deepest = c i }

module _ (M : FrameMachine) (fuel frames : ℕ) (m : Schedule) (c : M.Code) where
  abbrev At : ℕ → CostGraph → ℕ → ℕ → Type 0
  At v g k p = Eval M m (evaluate c) [] 0 v g k p

  abbrev Ends : ℕ → Graph → RunCounts → Type 0
  Ends v g t = outcome graphs M fuel frames m c ≡ ended (value v) g t

  at_empty : (v n : ℕ) (g : Graph) (t : RunCounts) → step graphs M fuel frames m (state (return v) [] n g t) ≡ ended (value v) g t
  unfolding move promotable
  at_empty v n g t = step_quiet M fuel frames m (return v) [] n g t _ (quiet m n) refl

  landed : (v : ℕ) (g : CostGraph) (k p : ℕ) → Lands M fuel frames m (start graphs M c) v [] (empty ▹ g) zeros k (fork_count g) (0 + p)
      → Ends v (empty ▹ g) (record { transitions = k; forks = fork_count g; deepest = p })
  unfolding run and_then outcome
  landed v g k p a =
      let e : run (step graphs M fuel frames m) 1 (state (return v) [] a.n (empty ▹ g) a.t') ≡ ended (value v) (empty ▹ g) a.t'
      = rw (at_empty v a.n (empty ▹ g) a.t') in
      let r = ends_as M fuel frames m a.goes 1 (ended (value v) (empty ▹ g) a.t') e in
      let s = finishes graphs M fuel frames m c in
      s.1.is ∙ same_end (step graphs M fuel frames m) (moves fuel frames) r.0 (start graphs M c) s.1.is r.1
      ∙ ap (ended (value v) (empty ▹ g)) (counts_are a.t' k (fork_count g) p (omega arith) (omega arith) (omega arith))

  -- A derivation gives the run's end.
  forth : {v : ℕ} {g : CostGraph} {k p : ℕ} → At v g k p → k ≤ fuel → p ≤ frames
      → Ends v (empty ▹ g) (record { transitions = k; forks = fork_count g; deepest = p })
  unfolding start promotable
  forth {v} {g} {k} {p} e l r = landed v g k p ((lands M fuel frames m e).to [] refl empty zeros (omega arith) (omega arith) (omega arith))

  -- What the run's end gives.
  record Derived (v : ℕ) (g : Graph) (t : RunCounts) : Type 0 where
    graph : CostGraph
    derivation : At v graph t.transitions t.deepest
    is : empty ▹ graph ≡ g
    forks : fork_count graph ≡ t.forks
    fits : t.transitions ≤ fuel
    holds : t.deepest ≤ frames

  ended_so : (v v' n : ℕ) (g g' : Graph) (t t' : RunCounts) (l : ℕ)
      → run (step graphs M fuel frames m) l (state (return v) [] n g t) ≡ ended (value v') g' t' → (v ≡ v') × (g ≡ g') × (t ≡ t')
  unfolding run and_then
  ended_so v v' n g g' t t' zero e = let q : ◌≡◌ {A = ℕ} 0 1 = cc in absurd (omega arith)
  ended_so v v' n g g' t t' (suc l) e =
      let h : ◌≡◌ {A = Result graphs M} (ended (value v) g t) (ended (value v') g' t') = rw (at_empty v n g t) at e in
      ((cc), (cc), (cc))

  returned : {v : ℕ} {g : Graph} {t : RunCounts} {j : ℕ} → Back M fuel frames m v g t (evaluate c) [] [] 0 empty zeros j → Derived v g t
  returned {v} {g} {t} a =
      let e = ended_so a.v v a.o (empty ▹ a.g) g a.i t a.l a.goes in
      let ek : a.k ≡ t.transitions = sym (a.transitions ∙ omega arith) ∙ ap (λ x. x.transitions) e.2 in
      let ep : a.p ≡ t.deepest = sym (a.deepest ∙ omega arith) ∙ ap (λ x. x.deepest) e.2 in
      let ef : fork_count a.g ≡ t.forks = sym (a.forks ∙ omega arith) ∙ ap (λ x. x.forks) e.2 in
      record {
        graph = a.g;
        derivation = rw (e.0, ek, ep) at a.eval;
        is = e.1;
        forks = ef;
        fits = omega (arith, ek, a.transitions, a.fits);
        holds = omega (arith, ep, a.holds);
      }

  -- The run's end is derived.
  backward : {v : ℕ} {g : Graph} {t : RunCounts} → Ends v g t → Derived v g t
  unfolding start promotable outcome
  backward {v} {g} {t} e =
      returned (backs M fuel frames m v g t (evaluate c) [] [] 0 empty zeros (moves fuel frames)
      (record { closed = refl; fits = omega arith; holds = omega arith; deepest = omega arith }) e)

-- The judgment of a schedule is the family at it.
module _ (M : FrameMachine) (c : M.Code) where
  into : (m : Schedule) (v : ℕ) (g : CostGraph) (d : (published M m c).Derives v g)
      → Eval M m (evaluate c) [] 0 v g ((published M m c).transitions d) ((published M m c).frames d)
  into sequential v g d = of_seq 0 d
  into parallel v g d = of_par 0 d
  into (heartbeat N) v g d = of_hb d

  pub out : (m : Schedule) (v : ℕ) (g : CostGraph) (k p : ℕ) → Eval M m (evaluate c) [] 0 v g k p
      → Converted ((published M m c).Derives v g) (λ d. (published M m c).transitions d) (λ d. (published M m c).frames d) k p
  out sequential v g k p e = to_seq e
  out parallel v g k p e = to_par e
  out (heartbeat N) v g k p e = to_hb e

module _ (M : FrameMachine) (fuel frames : ℕ) (m : Schedule) (c : M.Code) where
  told : {v : ℕ} {g : Graph} {t : RunCounts} → Derived M fuel frames m c v g t → Told (published M m c) fuel frames v g t
  told {v} {g} {t} a =
      let r = out M c m v a.graph t.transitions t.deepest a.derivation in
      record {
        reaches = record {
          graph = a.graph;
          derivation = r.derivation;
          within_fuel = rw r.transitions a.fits;
          within_frames = rw r.frames a.holds;
        };
        graph_is = sym a.is ∙ flat_is a.graph;
        transitions_are = sym r.transitions;
        forks_are = sym a.forks;
        deepest_is = sym r.frames;
      }

  -- The counts of a derivation.
  abbrev counts_told : {v : ℕ} → Reaches (published M m c) fuel frames v → RunCounts
  counts_told r =
      record {
        transitions = (published M m c).transitions r.derivation;
        forks = fork_count r.graph;
        deepest = (published M m c).frames r.derivation;
      }

  reached : {v : ℕ} (r : Reaches (published M m c) fuel frames v)
      → outcome graphs M fuel frames m c ≡ ended (value v) (flat r.graph) (counts_told r)
  reached {v} r =
      forth M fuel frames m c (into M c m v r.graph r.derivation) r.within_fuel r.within_frames
      ∙ ap (λ g. ended (value v) g (counts_told r)) (flat_is r.graph)

pub adequate : Adequate
adequate M fuel frames m c v g t = (
  λ e. told M fuel frames m c (backward M fuel frames m c e),
  λ d. reached M fuel frames m c d.reaches
      ∙ rw d.graph_is (ap (ended (value v) (flat d.reaches.graph))
      (sym (counts_are t _ _ _ d.transitions_are d.forks_are d.deepest_is))),
)

pub value_iff_reached : ValueIffReached
value_iff_reached M fuel frames m c v = (
  λ e. ((adequate M fuel frames m c v e.cost e.counts).0 e.is).reaches,
  λ r. record { cost = flat r.graph; counts = counts_told M fuel frames m c r; is = reached M fuel frames m c r },
)

pub stop_reaches_none : StopReachesNone
stop_reaches_none M fuel frames m c i p g t e v r =
    let b = reached M fuel frames m c r in
    let q : ◌≡◌ {A = ℕ} 0 1 = cc in
    omega arith

pub transitions_by_graph : TransitionsByGraph
transitions_by_graph M m c v g d = count M m (into M c m v g d)
