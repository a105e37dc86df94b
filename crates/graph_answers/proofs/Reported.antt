-- The graph in the buffer is the one reported.
use Prim.Native.Nat.{ℕ, ◌-◌}
use mathlib.Core.Path.{◌≡◌, ap, sym, ◌∙◌}
use mathlib.Core.List.{List, ◌++◌}
use native.Mathlib.Omega.{arith}
use lib.ListN.{length, take, drop, replicate, length-append, length-replicate}
use lib.Seq.{take-append_seam, drop-append_seam}
use Rattle.std.specs.Prelude.{Ok}
use Rattle.schedule.specs.Graph.{Graph, work, span}
use Rattle.schedule.specs.Machine.{value, Schedule}
use Rattle.graph.specs.Words.{written, words_work, words_span}
use Rattle.graph.proofs.Words.{worked_out}
use Rattle.language.specs.declared.Counts.{Counts}
use Rattle.language.specs.declared.Answer.TheVariants.{Value}
use Rattle.language.specs.Checks.{checked_of}
use Rattle.language.specs.Answers.{answer_of}
use Rattle.language.proofs.Admission.{checked_iff}
use Rattle.language.proofs.House.{value_admitted}
use Rattle.language.proofs.Values.{value_ran}
use Rattle.graph_answers.specs.Answers.{graphed_of}
use Rattle.graph_answers.specs.Buffer.{RanTo}
use Rattle.graph_answers.specs.Reported.{Reported, ReportedAtValue}
use Rattle.graph_answers.proofs.AsWithout.{needed_is, as_without}
use Rattle.graph_answers.proofs.Buffer.{buffer_left}

-- Of a graph's words with zeros after them.
of_graph : (τ : ℕ) (k : Counts) (g : Graph) (zeros : ℕ) → work τ g ≡ k.work.0 → span τ g ≡ k.span.0
    → Reported τ k (length (written g)) (written g ++ replicate zeros 0)
of_graph τ k g zeros paid long =
    let ws : List ℕ = written g in
    let rest : List ℕ = replicate zeros 0 in
    let front : take (length ws) (ws ++ rest) ≡ ws = take-append_seam ws rest in
    let back : drop (length ws) (ws ++ rest) ≡ rest = drop-append_seam ws rest in
    let over : length (ws ++ rest) - length ws ≡ zeros = omega (arith, length-append ws rest, length-replicate {A = ℕ} zeros 0) in
    record {
      long = ap length front;
      work_is = ap (words_work τ) front ∙ (worked_out τ g).0 ∙ paid;
      span_is = ap (λ (x : List ℕ). words_span τ x) front ∙ (worked_out τ g).1 ∙ long;
      rest = back ∙ ap (λ (z : ℕ). replicate z 0) (sym over);
    }

module _ (m : Schedule) (w arguments : List ℕ) (fuel N τ workspace v : ℕ) (k : Counts) (e : answer_of m w arguments fuel N τ workspace ≡ Value v k) where
  -- the input of a value is accepted
  pub accepted : checked_of w (length arguments) fuel N τ workspace ≡ Ok tt
  accepted = (checked_iff w (length arguments) fuel N τ workspace).1 (value_admitted m w arguments fuel N τ workspace v k e)

pub reported : ReportedAtValue
reported m w arguments fuel N τ workspace found v k e =
    let b = as_without m w arguments fuel N τ workspace (length found) in
    let without = (b.value_iff v k).0 e in
    let r = value_ran m w arguments fuel τ workspace v k N without.0 in
    let needs = needed_is m w arguments fuel workspace v r.g r.t r.is in
    let words : (graphed_of m w arguments fuel N τ workspace (length found)).words ≡ length (written r.g) = b.words_at_value v k e ∙ needs in
    let ran : RanTo m w arguments fuel N τ workspace (value v) r.g r.t
    = record { accepted = accepted m w arguments fuel N τ workspace v k without.0; is = r.is } in
    let left = (buffer_left m w arguments fuel N τ workspace found).at_value v r.g r.t ran (omega (arith, without.1, needs)) in
    let paid : work τ r.g ≡ k.work.0 = ap (λ (x : Counts). x.work.0) r.counted in
    let long : span τ r.g ≡ k.span.0 = ap (λ (x : Counts). x.span.0) r.counted in
    rw (words, left) (of_graph τ k r.g (length found - length (written r.g)) paid long)
