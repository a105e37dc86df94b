-- The answers of the three machines are those of the published judgments: adequacy (crate `published`), carried through the check and through what a
-- run tells.
use Prim.Native.Nat.{ℕ}
use mathlib.Core.Path.{◌≡◌, refl, ap, sym, ◌∙◌}
use mathlib.Core.List.{List}
use native.Mathlib.Omega.{arith}
use lib.ListN.{length}
use Rattle.std.specs.Prelude.{Ok, Err}
use Rattle.table.specs.declared.Refusal.{Refusal}
use Rattle.table.specs.Read.{Reading}
use Rattle.schedule.specs.Graph.{Graph, work, span}
use Rattle.schedule.specs.Algebra.{graphs}
use Rattle.schedule.specs.FrameMachine.{Place}
use Rattle.schedule.specs.Machine as machine
use Rattle.schedule.specs.Machine.{value, stop, Result, ended, ongoing, Schedule, sequential, parallel, heartbeat}
use Rattle.schedule.specs.Runs.{outcome}
use Rattle.schedule.proofs.Finish.{finishes}
use Rattle.language.specs.declared.Counts.{Counts}
use Rattle.language.specs.declared.Stop.{Stop}
use Rattle.language.specs.declared.Answer.{Answer}
use Rattle.language.specs.declared.Answer.TheVariants.{Value, Stopped, Refused}
use Rattle.language.specs.Language.{language}
use Rattle.language.specs.Checks.{frames_in, checked_of}
use Rattle.language.specs.Answers.{entry_code, counts_of, stopped, told_by, after_check, run_of, answer_of}
use Rattle.language.proofs.Told.{answer_refused, ran_unrefused}
use Rattle.language.proofs.Places.{same_place}
use Rattle.language.proofs.Stops.{stop_of}
use Rattle.published.specs.CostGraph.{work_of, span_of, fork_count, flat}
use Rattle.published.specs.Adequacy.{Judgment, Told}
use Rattle.published.specs.StopTheorems.{StopsSo}
use Rattle.published.proofs.CostGraph.{work_flat, span_flat}
use Rattle.published.proofs.Adequacy.{adequate}
use Rattle.published.proofs.Stops.{stop_iff_derived}
use Rattle.published_answers.specs.Answers.{judged, Counted, place_of, stops_judged, Published, DemandTwo, NoneBesideStop}

-- The counts of an answer that has a value.
counts_told : Counts → Answer → Counts
counts_told other (Value v a) = a
counts_told other (Stopped s) = other
counts_told other (Refused r) = other

-- What is told are numbers, in whatever way they are written.
pub same_counts : {a b c d e a' b' c' d' e' : ℕ} → a ≡ a' → b ≡ b' → c ≡ c' → d ≡ d' → e ≡ e' → counts_of a b c d e ≡ counts_of a' b' c' d' e'
same_counts a b c d e = rw (a, b, c, d, e)

same_stop : {i f n t h : ℕ} (s : Stop) → i ≡ s.number → f ≡ s.function → n ≡ s.node → t ≡ s.transitions → h ≡ s.deepest
    → stopped i (record { function = f; node = n }) t h ≡ Stopped s
same_stop s a b c d e = rw (a, b, c, d, e)

pub at_frames : {J : Judgment} {fuel frames frames' τ v : ℕ} {k : Counts} → Counted J fuel frames τ v k → frames ≡ frames'
    → Counted J fuel frames' τ v k
at_frames c e = rw e at c

module _ (m : Schedule) (w arguments : List ℕ) (fuel τ workspace : ℕ) where
  abbrev J : Judgment
  J = judged m w arguments

  abbrev ran : Result graphs (language w)
  ran = outcome graphs (language w) fuel (frames_in workspace) m (entry_code arguments)

  counted : {v : ℕ} {g : Graph} {t : machine.RunCounts} {k : Counts} → Told J fuel (frames_in workspace) v g t
      → counts_of t.transitions t.forks (work τ g) (span τ g) t.deepest ≡ k → Counted J fuel (frames_in workspace) τ v k
  counted {g = g} {t = t} d e =
      let c = d.reaches.graph in
      let paid : work τ g ≡ work_of τ c = ap (work τ) d.graph_is ∙ work_flat τ c in
      let long : span τ g ≡ span_of τ c = ap (span τ) d.graph_is ∙ span_flat τ c in
      record {
        reaches = d.reaches;
        counts_are = sym e ∙ same_counts d.transitions_are d.forks_are (omega arith) (omega arith) d.deepest_is;
      }

  from_run : (v : ℕ) (k : Counts) (o : Result graphs (language w)) → ran ≡ o → told_by τ o ≡ Value v k
      → Counted J fuel (frames_in workspace) τ v k
  unfolding told_by counts_told
  from_run v k (ended (value u) g t) e q =
      let same : u ≡ v = cc in
      counted ((adequate (language w) fuel (frames_in workspace) m (entry_code arguments) v g t).0 (e ∙ ap (λ x. ended (value x) g t) same))
      (ap (counts_told k) q)
  from_run v k (ended (stop i p) g t) e q = let no : ◌≡◌ {A = ℕ} 0 1 = cc in absurd (omega arith)
  from_run v k (ongoing s) e q = let no : ◌≡◌ {A = ℕ} 0 1 = cc in absurd (omega arith)

  to_run : (v : ℕ) (k : Counts) → Counted J fuel (frames_in workspace) τ v k → told_by τ ran ≡ Value v k
  unfolding told_by
  to_run v k c =
      let g = c.reaches.graph in
      let t : machine.RunCounts = record
      { transitions = J.transitions c.reaches.derivation; forks = fork_count g; deepest = J.frames c.reaches.derivation } in
      let e = (adequate (language w) fuel (frames_in workspace) m (entry_code arguments) v (flat g) t).1
      (record { reaches = c.reaches; graph_is = refl; transitions_are = refl; forks_are = refl; deepest_is = refl }) in
      ap (told_by τ) e
      ∙ ap (Value v) (same_counts refl refl (omega (arith, work_flat τ g)) (omega (arith, span_flat τ g)) refl ∙ sym c.counts_are)

module _ (m : Schedule) (w arguments : List ℕ) (fuel τ workspace : ℕ) where
  abbrev Derives : Stop → Type 0
  Derives s = stops_judged m w arguments fuel (frames_in workspace) s

  abbrev ends_here : Result graphs (language w)
  ends_here = outcome graphs (language w) fuel (frames_in workspace) m (entry_code arguments)

  named : {g : Graph} {t : machine.RunCounts} (s : Stop) (i : ℕ) (p : Place) → ends_here ≡ ended (stop i p) g t
      → ◌≡◌ {A = Stop} (record { number = i; function = p.function; node = p.node; transitions = t.transitions; deepest = t.deepest }) s
      → Derives s
  named {g} {t} s i p e q =
      let a : StopsSo ends_here i p t.transitions t.deepest
      = record { ends = record { cost = g; counts = t; is = e }; transitions_are = refl; deepest_is = refl } in
      let function = ap (λ x. x.function) q in
      let node = ap (λ x. x.node) q in
      let place : p ≡ place_of s = same_place (omega arith) (omega arith) in
      let told : StopsSo ends_here s.number (place_of s) s.transitions s.deepest
      = rw (ap (λ x. x.number) q, place, ap (λ x. x.transitions) q, ap (λ x. x.deepest) q) at a in
      (stop_iff_derived (language w) fuel (frames_in workspace) m (entry_code arguments) s.number (place_of s) s.transitions s.deepest).0 told

  stop_from_run : (s : Stop) (o : Result graphs (language w)) → ends_here ≡ o → told_by τ o ≡ Stopped s → Derives s
  unfolding told_by stop_of
  stop_from_run s (ended (value u) g t) e q = let no : ◌≡◌ {A = ℕ} 0 1 = cc in absurd (omega arith)
  stop_from_run s (ended (stop i p) g t) e q = named s i p e (ap (stop_of s) q)
  stop_from_run s (ongoing u) e q =
      let z = finishes graphs (language w) fuel (frames_in workspace) m (entry_code arguments) in
      let k = z.1.is in
      let no : ◌≡◌ {A = ℕ} 0 1 = cc in
      absurd (omega arith)

  stop_to_run : (s : Stop) → Derives s → told_by τ ends_here ≡ Stopped s
  unfolding told_by
  stop_to_run s d =
      let a = (stop_iff_derived (language w) fuel (frames_in workspace) m (entry_code arguments) s.number (place_of s) s.transitions s.deepest).1 d in
      ap (told_by τ) a.ends.is ∙ same_stop s refl (omega arith) (omega arith) a.transitions_are a.deepest_is

module _ (m : Schedule) (w arguments : List ℕ) (fuel N τ workspace : ℕ) where
  abbrev ran_by : Answer
  ran_by = run_of m w arguments fuel τ workspace

  from_check : (v : ℕ) (k : Counts) (r : Reading) → checked_of w (length arguments) fuel N τ workspace ≡ r → after_check r ran_by ≡ Value v k
      → (checked_of w (length arguments) fuel N τ workspace ≡ Ok tt) × Counted (judged m w arguments) fuel (frames_in workspace) τ
      v k
  unfolding after_check run_of
  from_check v k (Ok _) e q = (e, from_run m w arguments fuel τ workspace v k _ refl q)
  from_check v k (Err r) e q = absurd cc

  stop_from_check : (s : Stop) (r : Reading) → checked_of w (length arguments) fuel N τ workspace ≡ r → after_check r ran_by ≡ Stopped s
      → (checked_of w (length arguments) fuel N τ workspace ≡ Ok tt) × stops_judged m w arguments fuel (frames_in workspace) s
  unfolding after_check run_of
  stop_from_check s (Ok _) e q = (e, stop_from_run m w arguments fuel τ workspace s _ refl q)
  stop_from_check s (Err r) e q = absurd cc

  refused_by_check : (f : Refusal) (r : Reading) → after_check r ran_by ≡ Refused f → r ≡ Err f
  unfolding after_check run_of
  refused_by_check f (Ok _) q = absurd (ran_unrefused τ (outcome graphs (language w) fuel (frames_in workspace) m (entry_code arguments)) f q)
  refused_by_check f (Err r) q = let e : r ≡ f = cc in ap Err e

  accepted : {r : Answer} → checked_of w (length arguments) fuel N τ workspace ≡ Ok tt → ran_by ≡ r
      → answer_of m w arguments fuel N τ workspace ≡ r
  unfolding answer_of after_check
  accepted e q = rw e q

  pub by_schedule : Published m w arguments fuel N τ workspace (answer_of m w arguments fuel N τ workspace)
  unfolding answer_of run_of
  by_schedule = record {
    value_iff = λ v k. (
      λ e. let r = from_check v k _ refl e in ((cc), at_frames r.1 (omega arith)),
      λ c. accepted (cc) (to_run m w arguments fuel τ workspace v k (at_frames c.1 (omega arith))),
    );
    stop_iff = λ s. (
      λ e. let r = stop_from_check s _ refl e in ((cc), r.1),
      λ c. accepted (cc) (stop_to_run m w arguments fuel τ workspace s c.1),
    );
    refusal_iff = λ f. (λ e. refused_by_check f _ e, λ c. sym (answer_refused m w arguments fuel N τ workspace f c));
  }

pub demand_2 : DemandTwo
demand_2 w arguments fuel N τ workspace = record {
  figure_4 = by_schedule sequential w arguments fuel N τ workspace;
  figure_5 = by_schedule parallel w arguments fuel N τ workspace;
  figure_6 = by_schedule (heartbeat N) w arguments fuel N τ workspace;
}

-- And so of any answer that a machine promises.
pub published_of : (m : Schedule) (w arguments : List ℕ) (fuel N τ workspace : ℕ) (r : Answer) → r ≡ answer_of m w arguments fuel N τ workspace
    → Published m w arguments fuel N τ workspace r
published_of m w arguments fuel N τ workspace r e = rw e (by_schedule m w arguments fuel N τ workspace)

pub none_beside_stop : NoneBesideStop
none_beside_stop m w arguments fuel N τ workspace r p s e v d =
    let accepts = ((p.stop_iff s).0 e).0 in
    let k : Counts = counts_of ((judged m w arguments).transitions d.derivation) (fork_count d.graph) (work_of τ d.graph) (span_of τ d.graph)
    ((judged m w arguments).frames d.derivation) in
    let c : Counted (judged m w arguments) fuel (frames_in workspace) τ v k
    = record { reaches = d; counts_are = same_counts refl refl (omega arith) (omega arith) refl } in
    let q = (p.value_iff v k).1 ((cc), at_frames c (omega arith)) in
    let no : ◌≡◌ {A = ℕ} 0 1 = cc in
    omega arith
