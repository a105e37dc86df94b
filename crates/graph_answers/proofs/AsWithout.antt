-- The answer with a buffer beside the one without.
use Prim.Native.Nat.{ℕ, ◌+◌, ◌≤◌, ◌<◌}
use mathlib.Core.Path.{◌≡◌, refl, ap, sym, ◌∙◌}
use mathlib.Core.Bool.{Bool, true, false, cond}
use mathlib.Core.Logic.{inl}
use mathlib.Core.List.{List}
use native.Mathlib.Omega.{arith}
use lib.Dec.{leb}
use lib.ListN.{length}
use borrow.Author.Tests.{leb-true, leb-false}
use Rattle.schedule.specs.Graph.{Graph, empty, transition, fork, span}
use Rattle.schedule.specs.Algebra.{graphs}
use Rattle.schedule.specs.Machine.{value, RunCounts, ended, Schedule}
use Rattle.schedule.specs.Runs.{outcome}
use Rattle.schedule.proofs.Values.{at_every_value}
use Rattle.table.specs.declared.Refusal.{Refusal}
use Rattle.graph.specs.Words.{pending, written}
use Rattle.graph.specs.Lent.{words_told}
use Rattle.graph.proofs.Words.{stretch_length, written_length, parts_length}
use Rattle.language.specs.declared.Counts.{Counts}
use Rattle.language.specs.declared.Stop.{Stop}
use Rattle.language.specs.declared.Answer.{Answer}
use Rattle.language.specs.declared.Answer.TheVariants.{Value, Stopped, Refused}
use Rattle.language.specs.Language.{language}
use Rattle.language.specs.Checks.{frames_in}
use Rattle.language.specs.Answers.{entry_code, answer_of}
use Rattle.language.proofs.Stops.{stops_listed}
use Rattle.language.proofs.Values.{value_ran}
use Rattle.graph_answers.specs.declared.Graphed.{Graphed}
use Rattle.graph_answers.specs.Answers.{words_of, graphed_of}
use Rattle.graph_answers.specs.Fitted.{fitted_of}
use Rattle.graph_answers.specs.AsWithout.{too_long_answer, needed, Beside, AsWithout, NeverEmpty, EmptyBuffer}
use Rattle.graph_answers.proofs.AsFitted.{as_fitted, too_long}

-- Two answers that cannot be equal.
abbrev Clash : Answer → Answer → Type 0
Clash a b = a ≡ b → ⊥

value_stop : {v : ℕ} {k : Counts} {s : Stop} → Clash (Value v k) (Stopped s)
value_stop e = let no : ◌≡◌ {A = ℕ} 0 1 = cc in omega arith

value_refused : {v : ℕ} {k : Counts} {f : Refusal} → Clash (Value v k) (Refused f)
value_refused e = let no : ◌≡◌ {A = ℕ} 0 1 = cc in omega arith

stop_refused : {s : Stop} {f : Refusal} → Clash (Stopped s) (Refused f)
stop_refused e = let no : ◌≡◌ {A = ℕ} 0 1 = cc in omega arith

-- A value that fits stays, one that does not is 25.
module _ (lent n v : ℕ) (k : Counts) where
  value_beside : (q : Bool) → leb n lent ≡ q
      → Beside lent n (Value v k) (cond q (record { answer = Value v k; words = n }) (record { answer = too_long_answer k; words = 0 }))
  value_beside true q = record {
    value_iff = λ u l. (λ e. (e, omega (arith, leb-true n lent q)), λ e. e.0);
    words_at_value = λ u l e. refl;
    stop_iff = λ s h. (λ e. e, λ e. e);
    at_25_iff = λ s h. (λ e. absurd (value_stop e), λ t. let fits = leb-true n lent q in absurd (omega (arith, t.over)));
    no_words_at_stop = λ s e. absurd (value_stop e);
    refusal_iff = λ f. (λ e. e, λ e. e);
    no_words_at_refusal = λ f e. absurd (value_refused e);
  }
  value_beside false q = record {
    value_iff = λ u l. (λ e. absurd (value_stop (sym e)), λ e. let over = leb-false n lent q in absurd (omega (arith, e.1)));
    words_at_value = λ u l e. absurd (value_stop (sym e));
    stop_iff = λ s h. (λ e. let is : 25 ≡ s.number = cc in absurd (h (omega arith)), λ e. absurd (value_stop e));
    at_25_iff = λ s h. (
      λ e. record { v = v; k = k; was = refl; over = omega (arith, leb-false n lent q); is = sym e },
      λ t. let same : t.k ≡ k = cc in ap too_long_answer (sym same) ∙ sym t.is,
    );
    no_words_at_stop = λ s e. refl;
    refusal_iff = λ f. (λ e. absurd (stop_refused e), λ e. absurd (value_refused e));
    no_words_at_refusal = λ f e. refl;
  }

beside : (lent n : ℕ) (a : Answer) → ((s : Stop) → a ≡ Stopped s → s.number ≡ 25 → ⊥) → Beside lent n a (fitted_of a n lent)
unfolding fitted_of
beside lent n (Value v k) never = value_beside lent n v k (leb n lent) refl
beside lent n (Stopped s) never = record {
  value_iff = λ v k. (λ e. absurd (value_stop (sym e)), λ e. e.0);
  words_at_value = λ v k e. absurd (value_stop (sym e));
  stop_iff = λ u h. (λ e. e, λ e. e);
  at_25_iff = λ u h. (λ e. absurd (never u e h), λ t. absurd (value_stop (sym t.was)));
  no_words_at_stop = λ u e. refl;
  refusal_iff = λ f. (λ e. e, λ e. e);
  no_words_at_refusal = λ f e. refl;
}
beside lent n (Refused r) never = record {
  value_iff = λ v k. (λ e. absurd (value_refused (sym e)), λ e. e.0);
  words_at_value = λ v k e. absurd (value_refused (sym e));
  stop_iff = λ u h. (λ e. e, λ e. e);
  at_25_iff = λ u h. (λ e. absurd (stop_refused (sym e)), λ t. absurd (value_refused (sym t.was)));
  no_words_at_stop = λ u e. refl;
  refusal_iff = λ f. (λ e. e, λ e. e);
  no_words_at_refusal = λ f e. refl;
}

module _ (m : Schedule) (w arguments : List ℕ) (fuel workspace : ℕ) where
  pub needed_is : (v : ℕ) (g : Graph) (t : RunCounts) → outcome graphs (language w) fuel (frames_in workspace) m (entry_code arguments) ≡ ended (value v) g t
      → needed m w arguments fuel workspace ≡ length (written g)
  unfolding words_of words_told
  needed_is v g t e = rw e

  pub fitted_is : (N τ lent : ℕ) → fitted_of (answer_of m w arguments fuel N τ workspace) (needed m w arguments fuel workspace) lent
      ≡ graphed_of m w arguments fuel N τ workspace lent
  fitted_is N τ lent = as_fitted m w arguments fuel N τ workspace lent (needed m w arguments fuel workspace) (λ v g t e. inl (needed_is v g t e))

pub as_without : AsWithout
as_without m w arguments fuel N τ workspace lent =
    let never : (s : Stop) → answer_of m w arguments fuel N τ workspace ≡ Stopped s → s.number ≡ 25 → ⊥
    = λ s e h. omega (arith, (stops_listed m w arguments fuel N τ workspace s e).most, h) in
    rw (← fitted_is m w arguments fuel workspace N τ lent) (beside lent _ (answer_of m w arguments fuel N τ workspace) never)

-- A graph that has a span has words.
some_words : (τ : ℕ) (g : Graph) → 1 ≤ span τ g → 2 ≤ length (written g)
unfolding span pending
some_words τ empty h = absurd (omega arith)
some_words τ (transition g) h = omega (arith, written_length (transition g), stretch_length (pending g + 1) (omega arith))
some_words τ (fork g l r) h = omega (arith, written_length (fork g l r), parts_length g l r)

pub never_empty : NeverEmpty
never_empty m w arguments fuel N τ workspace v k e =
    let r = value_ran m w arguments fuel τ workspace v k N e in
    let known = at_every_value (language w) fuel (frames_in workspace) τ m (entry_code arguments) v r.g r.t r.is in
    omega (arith, some_words τ r.g known.span_positive, needed_is m w arguments fuel workspace v r.g r.t r.is)

pub empty_buffer : EmptyBuffer
empty_buffer m w arguments fuel N τ workspace v k e =
    let n = needed m w arguments fuel workspace in
    let over : 0 < n = omega (arith, never_empty m w arguments fuel N τ workspace v k e) in
    ap (λ (r : Graphed). r.answer) (sym (too_long (answer_of m w arguments fuel N τ workspace) n 0 v k e over ∙ fitted_is m w arguments fuel workspace N τ 0))
