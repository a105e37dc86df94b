-- Demand 2 covers the graph: demand 2 of the answer without a buffer, beside what a buffer changes, and the words of the graph that the derivation has.
use Prim.Native.Nat.{ℕ, ◌-◌, ◌≤◌}
use mathlib.Core.Path.{◌≡◌, refl, ap, sym, ◌∙◌}
use mathlib.Core.List.{List, ◌++◌}
use native.Mathlib.Omega.{arith}
use lib.ListN.{length, take, replicate}
use lib.Seq.{take-append_seam, take_at}
use Rattle.std.specs.Prelude.{Ok}
use Rattle.schedule.specs.Algebra.{graphs}
use Rattle.schedule.specs.Machine as machine
use Rattle.schedule.specs.Machine.{value, ended, Schedule, sequential, parallel, heartbeat}
use Rattle.schedule.specs.Runs.{outcome}
use Rattle.language.specs.declared.Counts.{Counts}
use Rattle.language.specs.declared.Stop.{Stop}
use Rattle.language.specs.declared.Answer.TheVariants.{Value, Stopped}
use Rattle.language.specs.Language.{language}
use Rattle.language.specs.Checks.{frames_in, checked_of}
use Rattle.language.specs.Answers.{entry_code, counts_of, answer_of}
use Rattle.graph_answers.specs.declared.Graphed.{Graphed}
use Rattle.graph_answers.specs.Answers.{graphed_of, graph_left}
use Rattle.graph_answers.specs.AsWithout.{too_long_answer, needed, Beside}
use Rattle.graph_answers.proofs.AsWithout.{needed_is, as_without}
use Rattle.graph_answers.proofs.Buffer.{buffer_left, left_by_answer}
use Rattle.published.specs.CostGraph.{work_of, span_of, fork_count, flat}
use Rattle.published.specs.Adequacy.{Judgment, Reaches}
use Rattle.published.proofs.Adequacy.{adequate}
use Rattle.published_answers.specs.Answers.{judged, Counted, Published}
use Rattle.published_answers.specs.Graphs.{words_of, GivesGraph, DerivesGraph, DerivesTooLong, PublishedGraph, GraphOf, DemandTwoGraphs}
use Rattle.published_answers.proofs.Answers.{same_counts, at_frames, by_schedule}

-- Two lists of one length, with something after each: where the wholes are equal, so are they.
same_front : (a b c d : List ℕ) → length a ≡ length b → a ++ c ≡ b ++ d → a ≡ b
same_front a b c d n e = sym (take-append_seam a c) ∙ ap (take (length a)) e ∙ take_at b d (length a) (sym n)

module _ (m : Schedule) (w arguments : List ℕ) (fuel N τ workspace : ℕ) where
  abbrev J : Judgment
  J = judged m w arguments

  abbrev Reached : ℕ → Type 0
  Reached v = Reaches J fuel (frames_in workspace) v

  abbrev plain : Published m w arguments fuel N τ workspace (answer_of m w arguments fuel N τ workspace)
  plain = by_schedule m w arguments fuel N τ workspace

  -- Demand 2 of the answer without a buffer.
  value_derived : (v : ℕ) (k : Counts) → answer_of m w arguments fuel N τ workspace ≡ Value v k
      → (checked_of w (length arguments) fuel N τ workspace ≡ Ok tt) × Counted J fuel (frames_in workspace) τ v k
  value_derived v k e = let c = (plain.value_iff v k).0 e in ((cc), at_frames c.1 (omega arith))

  value_told : (v : ℕ) (k : Counts) → checked_of w (length arguments) fuel N τ workspace ≡ Ok tt
      → Counted J fuel (frames_in workspace) τ v k → answer_of m w arguments fuel N τ workspace ≡ Value v k
  value_told v k a c = (plain.value_iff v k).1 ((cc), at_frames c (omega arith))

  -- A derivation's counts, and the run that it is of.
  abbrev counts_told : {v : ℕ} → Reached v → Counts
  counts_told d = counts_of (J.transitions d.derivation) (fork_count d.graph) (work_of τ d.graph) (span_of τ d.graph) (J.frames d.derivation)

  abbrev run_counts : {v : ℕ} → Reached v → machine.RunCounts
  run_counts d = record { transitions = J.transitions d.derivation; forks = fork_count d.graph; deepest = J.frames d.derivation }

  runs : {v : ℕ} (d : Reached v) → outcome graphs (language w) fuel (frames_in workspace) m (entry_code arguments)
      ≡ ended (value v) (flat d.graph) (run_counts d)
  runs {v} d = (adequate (language w) fuel (frames_in workspace) m (entry_code arguments) v (flat d.graph) (run_counts d)).1
      (record { reaches = d; graph_is = refl; transitions_are = refl; forks_are = refl; deepest_is = refl })

  needs : {v : ℕ} (d : Reached v) → needed m w arguments fuel workspace ≡ length (words_of d.graph)
  needs {v} d = needed_is m w arguments fuel workspace v (flat d.graph) (run_counts d) (runs d)

  module _ (found : List ℕ) where
    abbrev beside : Beside (length found) (needed m w arguments fuel workspace) (answer_of m w arguments fuel N τ workspace)
        (graphed_of m w arguments fuel N τ workspace (length found))
    beside = as_without m w arguments fuel N τ workspace (length found)

    -- The buffer where a derivation's words fit.
    leaves : {v : ℕ} (d : Reached v) → checked_of w (length arguments) fuel N τ workspace ≡ Ok tt
        → length (words_of d.graph) ≤ length found
        → graph_left m w arguments fuel N τ workspace found ≡ words_of d.graph ++ replicate (length found - length (words_of d.graph)) 0
    leaves {v} d accepted fits = (buffer_left m w arguments fuel N τ workspace found).at_value v (flat d.graph) (run_counts d)
        (record { accepted = accepted; is = runs d }) fits

    gives_derives : (v : ℕ) (k : Counts) (ws : List ℕ)
        → GivesGraph (length found) (graphed_of m w arguments fuel N τ workspace (length found)) (graph_left m w arguments fuel N τ workspace found) v k ws
        → DerivesGraph m w arguments fuel N τ workspace (length found) v k ws
    gives_derives v k ws g =
        let was = (beside.value_iff v k).0 g.answer_is in
        let c = value_derived v k was.0 in
        let d = c.1.reaches in
        let long = needs d in
        let same : length ws ≡ length (words_of d.graph) = sym g.words_told ∙ beside.words_at_value v k g.answer_is ∙ long in
        let fits : length (words_of d.graph) ≤ length found = omega (arith, was.1) in
        record {
          accepted = c.0;
          counted = c.1;
          words_are = same_front ws (words_of d.graph) _ _ same (sym g.buffer_is ∙ leaves d c.0 fits);
          fits = omega arith;
        }

    derives_gives : (v : ℕ) (k : Counts) (ws : List ℕ) → DerivesGraph m w arguments fuel N τ workspace (length found) v k ws
        → GivesGraph (length found) (graphed_of m w arguments fuel N τ workspace (length found)) (graph_left m w arguments fuel N τ workspace found) v k ws
    derives_gives v k ws x =
        let d = x.counted.reaches in
        let long = needs d in
        let same : length ws ≡ length (words_of d.graph) = ap length x.words_are in
        let fits : length (words_of d.graph) ≤ length found = omega (arith, x.fits) in
        let was = value_told v k x.accepted x.counted in
        let answer = (beside.value_iff v k).1 (was, omega arith) in
        record {
          answer_is = answer;
          words_told = beside.words_at_value v k answer ∙ long ∙ sym same;
          buffer_is = leaves d x.accepted fits ∙ ap (λ (z : List ℕ). z ++ replicate (length found - length z) 0) (sym x.words_are);
        }

    stops_derives : (s : Stop) → s.number ≡ 25 → (graphed_of m w arguments fuel N τ workspace (length found)).answer ≡ Stopped s
        → DerivesTooLong m w arguments fuel N τ workspace (length found) s
    stops_derives s h e =
        let t = (beside.at_25_iff s h).0 e in
        let c = value_derived t.v t.k t.was in
        let d = c.1.reaches in
        let long = needs d in
        record {
          accepted = c.0;
          v = t.v;
          reaches = d;
          too_long = omega (arith, t.over);
          is = t.is ∙ ap too_long_answer c.1.counts_are;
        }

    derives_stops : (s : Stop) → s.number ≡ 25 → DerivesTooLong m w arguments fuel N τ workspace (length found) s
        → (graphed_of m w arguments fuel N τ workspace (length found)).answer ≡ Stopped s
    derives_stops s h x =
        let d = x.reaches in
        let long = needs d in
        let c : Counted J fuel (frames_in workspace) τ x.v (counts_told d)
        = record { reaches = d; counts_are = same_counts refl refl (omega arith) (omega arith) refl } in
        let was = value_told x.v (counts_told d) x.accepted c in
        (beside.at_25_iff s h).1 (record { v = x.v; k = counts_told d; was = was; over = omega (arith, x.too_long); is = x.is })

    pub graph_published : GraphOf m w arguments fuel N τ workspace found
    graph_published = record {
      value_iff = λ v k ws. (gives_derives v k ws, derives_gives v k ws);
      stop_iff = λ s h. (
        λ e. let c = (plain.stop_iff s).0 ((beside.stop_iff s h).0 e) in ((cc), c.1),
        λ c. (beside.stop_iff s h).1 ((plain.stop_iff s).1 ((cc), c.1)),
      );
      at_25_iff = λ s h. (stops_derives s h, derives_stops s h);
      refusal_iff = λ f. (λ e. (plain.refusal_iff f).0 ((beside.refusal_iff f).0 e), λ c. (beside.refusal_iff f).1 ((plain.refusal_iff f).1 c));
      after_stop = λ s e. (beside.no_words_at_stop s e, (left_by_answer m w arguments fuel N τ workspace found).at_stop s e);
      after_refusal = λ f e. (beside.no_words_at_refusal f e, (left_by_answer m w arguments fuel N τ workspace found).at_refusal f e);
    }

pub demand_2_graphs : DemandTwoGraphs
demand_2_graphs w arguments fuel N τ workspace found = record {
  figure_4 = graph_published sequential w arguments fuel N τ workspace found;
  figure_5 = graph_published parallel w arguments fuel N τ workspace found;
  figure_6 = graph_published (heartbeat N) w arguments fuel N τ workspace found;
}

-- And so of what any call promises.
pub graph_published_of : (m : Schedule) (w arguments : List ℕ) (fuel N τ workspace : ℕ) (found : List ℕ) (r : Graphed) (left : List ℕ)
    → r ≡ graphed_of m w arguments fuel N τ workspace (length found) → left ≡ graph_left m w arguments fuel N τ workspace found
    → PublishedGraph m w arguments fuel N τ workspace found r left
graph_published_of m w arguments fuel N τ workspace found r left d e = rw (d, e) (graph_published m w arguments fuel N τ workspace found)
