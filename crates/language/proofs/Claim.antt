-- Demand 3 of the three answers, for every input.
use Prim.Native.Nat.{ℕ, ◌≤◌}
use mathlib.Core.Path.{◌≡◌, refl, ap, ◌∙◌}
use mathlib.Core.List.{List}
use native.Mathlib.Omega.{arith}
use lib.ListN.{length}
use Rattle.std.specs.Prelude.{Ok, Err}
use Rattle.table.specs.Read.{Reading}
use Rattle.schedule.specs.Graph.{Graph, work, span}
use Rattle.schedule.specs.Algebra.{graphs}
use Rattle.schedule.specs.FrameMachine.{Place}
use Rattle.schedule.specs.Machine as machine
use Rattle.schedule.specs.Machine.{value, stop, Result, ended, ongoing, Schedule, sequential, parallel, heartbeat}
use Rattle.schedule.specs.Runs.{outcome}
use Rattle.schedule.proofs.Demand.{demand_3}
use Rattle.schedule.proofs.Lockstep.{in_lockstep}
use Rattle.language.specs.declared.Counts.{Counts}
use Rattle.language.specs.declared.Stop.{Stop}
use Rattle.language.specs.declared.Answer.{Answer}
use Rattle.language.specs.declared.Answer.TheVariants.{Value, Stopped, Refused}
use Rattle.language.specs.Language.{language}
use Rattle.language.specs.Checks.{frames_in, checked_of}
use Rattle.language.specs.Answers.{entry_code, counts_of, told_by, after_check, run_of, answer_of, sequential_of, parallel_of, heartbeat_of, deepest_of}
use Rattle.language.specs.Claim.{FourStatements, DemandThree, ForEveryInput, SameDepth, DepthForEveryInput, SameStop, StopsAgree, StopsForEveryInput}
use Rattle.language.proofs.Admission.{checked_iff}

-- the counts of an answer that has a value
counts_told : Counts → Answer → Counts
counts_told other (Value v a) = a
counts_told other (Stopped s) = other
counts_told other (Refused r) = other

module _ (w arguments : List ℕ) (fuel N τ workspace : ℕ) (N-positive : 1 ≤ N) (τ-positive : 1 ≤ τ) where
  abbrev ran : Schedule → Result graphs (language w)
  ran m = outcome graphs (language w) fuel (frames_in workspace) m (entry_code arguments)

  abbrev told : Graph → machine.RunCounts → Counts
  told g t = counts_of t.transitions t.forks (work τ g) (span τ g) t.deepest

  -- of the runs, by what the sequential one comes to
  of_run : (v : ℕ) (a : Counts) (o : Result graphs (language w)) → ran sequential ≡ o → told_by τ o ≡ Value v a
      → FourStatements N τ v a (run_of parallel w arguments fuel τ workspace) (run_of (heartbeat N) w arguments fuel τ workspace)
  unfolding told_by run_of counts_told
  of_run v a (ended (value u) g t) e q =
      let d = demand_3 (language w) fuel (frames_in workspace) N τ (entry_code arguments) u g t N-positive τ-positive e in
      let same : u ≡ v = cc in
      let counted : told g t ≡ a = ap (counts_told a) q in
      let paid : work τ g ≡ a.work.0 = ap (λ (x : Counts). x.work.0) counted in
      let by_parallel = told d.parallel_run.cost d.parallel_run.counts in
      let by_heartbeat = told d.heartbeat_run.cost d.heartbeat_run.counts in
      record {
        p = by_parallel;
        h = by_heartbeat;
        parallel_value = ap (told_by τ) d.parallel_run.is ∙ ap (λ (z : ℕ). Value z by_parallel) same;
        heartbeat_value = ap (told_by τ) d.heartbeat_run.is ∙ ap (λ (z : ℕ). Value z by_heartbeat) same;
        work_bound = rw (← paid) d.work_bound;
        span_bound = d.span_bound;
        identity = rw (← paid) d.identity;
      }
  of_run v a (ended (stop i p) g t) e q = let no : ◌≡◌ {A = ℕ} 0 1 = cc in absurd (omega arith)
  of_run v a (ongoing s) e q = let no : ◌≡◌ {A = ℕ} 0 1 = cc in absurd (omega arith)

-- by what the check answers: a refusal is no value, and N and τ are positive where it accepts
module _ (w arguments : List ℕ) (fuel N τ workspace : ℕ) where
  abbrev ran_by : Schedule → Answer
  ran_by m = run_of m w arguments fuel τ workspace

  of_check : (v : ℕ) (a : Counts) (r : Reading) → checked_of w (length arguments) fuel N τ workspace ≡ r
      → after_check r (ran_by sequential) ≡ Value v a
      → FourStatements N τ v a (after_check r (ran_by parallel)) (after_check r (ran_by (heartbeat N)))
  unfolding after_check run_of
  of_check v a (Ok _) e q =
      let admitted = (checked_iff w (length arguments) fuel N τ workspace).0 e in
      of_run w arguments fuel N τ workspace admitted.period.least admitted.tau.least v a _ refl q
  of_check v a (Err r) e q = absurd cc

-- THE CLAIM
pub claim : ForEveryInput
unfolding answer_of
claim w arguments fuel N τ workspace = record {
  at_a_value = λ v a q. of_check w arguments fuel N τ workspace v a (checked_of w (length arguments) fuel N τ workspace) refl q;
}

-- and so of any three answers that are those
pub claim_of : (w arguments : List ℕ) (fuel N τ workspace : ℕ) (s p h : Answer) → s ≡ sequential_of w arguments fuel N τ workspace
    → p ≡ parallel_of w arguments fuel N τ workspace → h ≡ heartbeat_of w arguments fuel N τ workspace → DemandThree N τ s p h
claim_of w arguments fuel N τ workspace s p h d e f = rw (d, e, f) (claim w arguments fuel N τ workspace)

-- THE DEPTH: that of the sequential run, of any machine's, by lockstep
module _ (m : Schedule) (w arguments : List ℕ) (fuel τ workspace v : ℕ) (a : Counts) where
  depth_of_run : (o : Result graphs (language w)) → outcome graphs (language w) fuel (frames_in workspace) sequential (entry_code arguments) ≡ o
      → told_by τ o ≡ Value v a → deepest_of (run_of m w arguments fuel τ workspace) ≡ a.deepest
  unfolding told_by run_of deepest_of counts_told
  depth_of_run (ended (value u) g t) e q =
      let never : (p : Place) → value u ≡ stop 20 p → ⊥ = λ p i. let no : ◌≡◌ {A = ℕ} 0 1 = cc in omega arith in
      let l = in_lockstep graphs (language w) fuel (frames_in workspace) m (entry_code arguments) (value u) g t never e in
      ap (λ o. deepest_of (told_by τ o)) l.run.is ∙ l.depth ∙ ap (λ (x : Counts). x.deepest) (ap (counts_told a) q)
  depth_of_run (ended (stop i p) g t) e q = let no : ◌≡◌ {A = ℕ} 0 1 = cc in absurd (omega arith)
  depth_of_run (ongoing s) e q = let no : ◌≡◌ {A = ℕ} 0 1 = cc in absurd (omega arith)

  depth_of_check : (r : Reading) → after_check r (run_of sequential w arguments fuel τ workspace) ≡ Value v a
      → deepest_of (after_check r (run_of m w arguments fuel τ workspace)) ≡ a.deepest
  unfolding after_check run_of
  depth_of_check (Ok _) q = depth_of_run _ refl q
  depth_of_check (Err r) q = absurd cc

  depth_of : (N : ℕ) → sequential_of w arguments fuel N τ workspace ≡ Value v a → deepest_of (answer_of m w arguments fuel N τ workspace) ≡ a.deepest
  unfolding answer_of
  depth_of N q = depth_of_check (checked_of w (length arguments) fuel N τ workspace) q

pub same_depth : DepthForEveryInput
same_depth w arguments fuel N τ workspace = record {
  at_a_value = λ v a q. (
    omega (arith, depth_of parallel w arguments fuel τ workspace v a N q),
    omega (arith, depth_of (heartbeat N) w arguments fuel τ workspace v a N q),
  );
}

pub same_depth_of : (w arguments : List ℕ) (fuel N τ workspace : ℕ) (s p h : Answer) → s ≡ sequential_of w arguments fuel N τ workspace
    → p ≡ parallel_of w arguments fuel N τ workspace → h ≡ heartbeat_of w arguments fuel N τ workspace → SameDepth s p h
same_depth_of w arguments fuel N τ workspace s p h d e f = rw (d, e, f) (same_depth w arguments fuel N τ workspace)

-- THE STOPS, but for 20: that of the sequential run, of any machine's, by lockstep
module _ (m : Schedule) (w arguments : List ℕ) (fuel τ workspace : ℕ) (s : Stop) (least : 21 ≤ s.number) where
  stop_of_run : (o : Result graphs (language w)) → outcome graphs (language w) fuel (frames_in workspace) sequential (entry_code arguments) ≡ o
      → told_by τ o ≡ Stopped s → SameStop s (run_of m w arguments fuel τ workspace)
  unfolding told_by run_of
  stop_of_run (ended (value u) g t) e q = let no : ◌≡◌ {A = ℕ} 0 1 = cc in absurd (omega arith)
  stop_of_run (ended (stop i p) g t) e q =
      let number : i ≡ s.number = cc in
      let function : p.function ≡ s.function = cc in
      let node : p.node ≡ s.node = cc in
      let transitions : t.transitions ≡ s.transitions = cc in
      let deepest : t.deepest ≡ s.deepest = cc in
      let never : (other : Place) → stop i p ≡ stop 20 other → ⊥ = λ other z. let is : i ≡ 20 = cc in omega (arith, least) in
      let l = in_lockstep graphs (language w) fuel (frames_in workspace) m (entry_code arguments) (stop i p) g t never e in
      record {
        other = record {
          number = i;
          function = p.function;
          node = p.node;
          transitions = l.run.counts.transitions;
          deepest = l.run.counts.deepest;
        };
        is = ap (told_by τ) l.run.is;
        number = omega (arith, number);
        function = omega (arith, function);
        node = omega (arith, node);
        never_more = omega (arith, l.fewer, transitions);
        depth = omega (arith, l.depth, deepest);
      }
  stop_of_run (ongoing u) e q = let number : 0 ≡ s.number = cc in absurd (omega (arith, least))

  stop_of_check : (r : Reading) → after_check r (run_of sequential w arguments fuel τ workspace) ≡ Stopped s
      → SameStop s (after_check r (run_of m w arguments fuel τ workspace))
  unfolding after_check run_of
  stop_of_check (Ok _) q = stop_of_run _ refl q
  stop_of_check (Err r) q = absurd cc

  stop_of_answer : (N : ℕ) → sequential_of w arguments fuel N τ workspace ≡ Stopped s → SameStop s (answer_of m w arguments fuel N τ workspace)
  unfolding answer_of
  stop_of_answer N q = stop_of_check (checked_of w (length arguments) fuel N τ workspace) q

pub stops_agree : StopsForEveryInput
stops_agree w arguments fuel N τ workspace = record {
  at_a_stop = λ s q least most.
      let above : 21 ≤ s.number = omega (arith, least) in (
        stop_of_answer parallel w arguments fuel τ workspace s above N q,
        stop_of_answer (heartbeat N) w arguments fuel τ workspace s above N q,
      );
}

pub stops_agree_of : (w arguments : List ℕ) (fuel N τ workspace : ℕ) (s p h : Answer) → s ≡ sequential_of w arguments fuel N τ workspace
    → p ≡ parallel_of w arguments fuel N τ workspace → h ≡ heartbeat_of w arguments fuel N τ workspace → StopsAgree s p h
stops_agree_of w arguments fuel N τ workspace s p h d e f = rw (d, e, f) (stops_agree w arguments fuel N τ workspace)
