-- Demand 3 of the three answers with buffers lent, from the claim without: each machine's run is the same.
use Prim.Native.Nat.{ℕ, ◌≤◌}
use mathlib.Core.Path.{◌≡◌, refl, ap, sym, ◌∙◌}
use mathlib.Core.Logic.{◌⊎◌, inl, inr, ⊎_elim}
use mathlib.Core.List.{List}
use native.Mathlib.Omega.{arith}
use mathlib.Core.Bool.{Bool, true, false}
use lib.Dec.{leb, eqb}
use borrow.Author.Tests.{leb-true, leb-false, eqb-true, eqb-false}
use Rattle.schedule.specs.Machine.{Schedule, sequential, parallel, heartbeat}
use Rattle.schedule.proofs.Values.{at_every_value}
use Rattle.language.specs.declared.Counts.{Counts}
use Rattle.language.specs.declared.Stop.{Stop}
use Rattle.language.specs.declared.Answer.{Answer}
use Rattle.language.specs.declared.Answer.TheVariants.{Value}
use Rattle.language.specs.Language.{language}
use Rattle.language.specs.Checks.{frames_in}
use Rattle.language.specs.Answers.{entry_code, answer_of, deepest_of}
use Rattle.language.specs.Claim.{SameStop}
use Rattle.language.specs.Stops.{Listed}
use Rattle.language.proofs.Claim.{claim, same_depth, stops_agree}
use Rattle.language.proofs.Stops.{stops_listed}
use Rattle.language.proofs.Values.{value_ran}
use Rattle.graph_answers.specs.Answers.{graphed_of}
use Rattle.graph_answers.specs.AsWithout.{needed, Beside}
use Rattle.graph_answers.specs.Claim.{Not25, answer_lent, LentForEveryInput, ValueOr25, Or25ForEveryInput, DepthLent, StopsAgreeLent, Told25, StopsListedLent}
use Rattle.graph_answers.proofs.AsWithout.{as_without}

module _ (m : Schedule) (w arguments : List ℕ) (fuel N τ workspace lent : ℕ) where
  abbrev same : Beside lent (needed m w arguments fuel workspace) (answer_of m w arguments fuel N τ workspace)
      (graphed_of m w arguments fuel N τ workspace lent)
  same = as_without m w arguments fuel N τ workspace lent

  value_or_25 : (v : ℕ) (k : Counts) → answer_of m w arguments fuel N τ workspace ≡ Value v k
      → ValueOr25 v k (answer_lent m w arguments fuel N τ workspace lent)
  value_or_25 v k e = by (leb (needed m w arguments fuel workspace) lent) refl
    where
      by : (q : Bool) → leb (needed m w arguments fuel workspace) lent ≡ q → ValueOr25 v k (answer_lent m w arguments fuel N τ workspace lent)
      by true q = inl ((same.value_iff v k).1 (e, omega (arith, leb-true (needed m w arguments fuel workspace) lent q)))
      by false q =
          let s : Stop = record { number = 25; function = 0; node = 0; transitions = k.transitions; deepest = k.deepest } in
          let over = leb-false (needed m w arguments fuel workspace) lent q in
          inr ((same.at_25_iff s refl).1 (record { v = v; k = k; was = e; over = omega arith; is = refl }))

  -- the depth is the run's, at 25 too
  depth_kept : (v : ℕ) (k : Counts) → answer_of m w arguments fuel N τ workspace ≡ Value v k
      → deepest_of (answer_lent m w arguments fuel N τ workspace lent) ≡ deepest_of (answer_of m w arguments fuel N τ workspace)
  unfolding deepest_of
  depth_kept v k e = ⊎_elim (λ f. ap deepest_of (f ∙ sym e)) (λ f. ap deepest_of f ∙ sym (ap deepest_of e)) (value_or_25 v k e)

  -- a stop that is not 25 is the same
  stop_kept : (s : Stop) → s.number ≤ 24 → SameStop s (answer_of m w arguments fuel N τ workspace)
      → SameStop s (answer_lent m w arguments fuel N τ workspace lent)
  stop_kept s most t = record {
    other = t.other;
    is = (same.stop_iff t.other (λ h. omega (arith, most, t.number))).1 t.is;
    number = t.number;
    function = t.function;
    node = t.node;
    never_more = t.never_more;
    depth = t.depth;
  }

within_fuel : (m : Schedule) (w arguments : List ℕ) (fuel N τ workspace v : ℕ) (k : Counts) → answer_of m w arguments fuel N τ workspace ≡ Value v k
    → k.transitions ≤ fuel
within_fuel m w arguments fuel N τ workspace v k e =
    let r = value_ran m w arguments fuel τ workspace v k N e in
    let known = at_every_value (language w) fuel (frames_in workspace) τ m (entry_code arguments) v r.g r.t r.is in
    omega (arith, ap (λ (x : Counts). x.transitions) r.counted, known.within_fuel)

pub claim_or_25 : Or25ForEveryInput
claim_or_25 w arguments fuel N τ workspace a b c v k e =
    let f = (claim w arguments fuel N τ workspace).at_a_value v k (((same sequential w arguments fuel N τ workspace a).value_iff v k).0 e).0 in
    record {
      p = f.p;
      h = f.h;
      parallel_value = value_or_25 parallel w arguments fuel N τ workspace b v f.p f.parallel_value;
      heartbeat_value = value_or_25 (heartbeat N) w arguments fuel N τ workspace c v f.h f.heartbeat_value;
      work_bound = f.work_bound;
      span_bound = f.span_bound;
      identity = f.identity;
    }

-- What is not 25 is the value.
the_value : {v : ℕ} {k : Counts} {r : Answer} → Not25 r → ValueOr25 v k r → r ≡ Value v k
the_value not (inl e) = e
the_value not (inr e) = absurd (not _ e refl)

pub claim_lent : LentForEveryInput
claim_lent w arguments fuel N τ workspace a b c p25 h25 = record {
  at_a_value = λ v k e.
      let f = claim_or_25 w arguments fuel N τ workspace a b c v k e in
      record {
        p = f.p;
        h = f.h;
        parallel_value = the_value p25 f.parallel_value;
        heartbeat_value = the_value h25 f.heartbeat_value;
        work_bound = f.work_bound;
        span_bound = f.span_bound;
        identity = f.identity;
      };
}

pub same_depth_lent : DepthLent
same_depth_lent w arguments fuel N τ workspace a b c = record {
  at_a_value = λ v k e.
      let was = (((same sequential w arguments fuel N τ workspace a).value_iff v k).0 e).0 in
      let f = (claim w arguments fuel N τ workspace).at_a_value v k was in
      let d = (same_depth w arguments fuel N τ workspace).at_a_value v k was in (
        depth_kept parallel w arguments fuel N τ workspace b v f.p f.parallel_value ∙ d.0,
        depth_kept (heartbeat N) w arguments fuel N τ workspace c v f.h f.heartbeat_value ∙ d.1,
      );
}

pub stops_agree_lent : StopsAgreeLent
stops_agree_lent w arguments fuel N τ workspace a b c = record {
  at_a_stop = λ s e least most.
      let was = ((same sequential w arguments fuel N τ workspace a).stop_iff s (λ h. omega (arith, most))).0 e in
      let t = (stops_agree w arguments fuel N τ workspace).at_a_stop s was least most in (
        stop_kept parallel w arguments fuel N τ workspace b s most t.0,
        stop_kept (heartbeat N) w arguments fuel N τ workspace c s most t.1,
      );
}

pub stops_listed_lent : StopsListedLent
stops_listed_lent m w arguments fuel N τ workspace lent s e = by (eqb s.number 25) refl
  where
    by : (q : Bool) → eqb s.number 25 ≡ q → Listed w fuel s ⊎ Told25 fuel s
    by true q =
        let t = ((same m w arguments fuel N τ workspace lent).at_25_iff s (eqb-true s.number 25 q)).0 e in
        let transitions : s.transitions ≡ t.k.transitions = cc t.is in
        inr (record {
          number = eqb-true s.number 25 q;
          function = cc t.is;
          node = cc t.is;
          within_fuel = omega (arith, transitions, within_fuel m w arguments fuel N τ workspace t.v t.k t.was);
        })
    by false q =
        inl (stops_listed m w arguments fuel N τ workspace s (((same m w arguments fuel N τ workspace lent).stop_iff s (eqb-false s.number 25 q)).0 e))
