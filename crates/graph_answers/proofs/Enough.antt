-- How many words to lend.
use Prim.Native.Nat.{ℕ, ◌+◌, ◌-◌, ◌≤◌}
use mathlib.Core.Path.{◌≡◌, ap, ◌∙◌}
use mathlib.Core.List.{List, [], ◌∷◌, ◌++◌}
use native.Mathlib.Omega.{arith}
use lib.ListN.{length, replicate}
use Rattle.schedule.specs.Graph.{work}
use Rattle.schedule.specs.Machine.{value, Schedule, sequential}
use Rattle.schedule.proofs.WorkCount.{work_counted, sequential_chain}
use Rattle.schedule.proofs.Values.{at_every_value}
use Rattle.graph.specs.Words.{written}
use Rattle.graph.proofs.Lengths.{by_transitions, by_forks, one_stretch}
use Rattle.language.specs.declared.Counts.{Counts}
use Rattle.language.specs.declared.Answer.TheVariants.{Value}
use Rattle.language.specs.Language.{language}
use Rattle.language.specs.Checks.{frames_in}
use Rattle.language.specs.Answers.{entry_code, answer_of}
use Rattle.language.proofs.Values.{Ran, value_ran}
use Rattle.graph_answers.specs.Answers.{graph_left}
use Rattle.graph_answers.specs.AsWithout.{needed}
use Rattle.graph_answers.specs.Buffer.{RanTo}
use Rattle.graph_answers.specs.Enough.{Enough, EnoughByTransitions, EnoughByForks, SequentialOneStretch}
use Rattle.graph_answers.proofs.AsWithout.{needed_is, as_without}
use Rattle.graph_answers.proofs.Buffer.{buffer_left}
use Rattle.graph_answers.proofs.Reported.{accepted}

module _ (m : Schedule) (w arguments : List ℕ) (fuel N τ workspace v : ℕ) (k : Counts) (e : answer_of m w arguments fuel N τ workspace ≡ Value v k) where
  abbrev ran : Ran m w arguments fuel τ workspace v k
  ran = value_ran m w arguments fuel τ workspace v k N e

  words_are : needed m w arguments fuel workspace ≡ length (written ran.g)
  words_are = needed_is m w arguments fuel workspace v ran.g ran.t ran.is

  -- the transitions of the answer are the graph's work where forks are free, and with its forks where each costs 1
  made : work 0 ran.g ≡ k.transitions
  made = omega (
    arith,
    work_counted (language w) fuel (frames_in workspace) 0 m (entry_code arguments) v ran.g ran.t ran.is,
    ap (λ (x : Counts). x.transitions) ran.counted,
  )

  with_forks : work 1 ran.g ≡ k.transitions + k.forks
  with_forks = omega (
    arith,
    work_counted (language w) fuel (frames_in workspace) 1 m (entry_code arguments) v ran.g ran.t ran.is,
    ap (λ (x : Counts). x.transitions) ran.counted,
    ap (λ (x : Counts). x.forks) ran.counted,
  )

  -- a value that needs no more than are lent stays
  enough : (n : ℕ) → length (written ran.g) ≤ n → Enough m w arguments fuel N τ workspace v k n
  enough n h = record {
    at_most = omega (arith, words_are);
    stays = λ lent fit. ((as_without m w arguments fuel N τ workspace lent).value_iff v k).1 (e, omega (arith, words_are));
  }

pub enough_by_transitions : EnoughByTransitions
enough_by_transitions m w arguments fuel N τ workspace v k e =
    let g = (ran m w arguments fuel N τ workspace v k e).g in
    let t = made m w arguments fuel N τ workspace v k e in
    let f = with_forks m w arguments fuel N τ workspace v k e in
    enough m w arguments fuel N τ workspace v k e _ (omega (arith, by_transitions g k.transitions k.forks t f))

pub enough_by_forks : EnoughByForks
enough_by_forks m w arguments fuel N τ workspace v k e =
    let g = (ran m w arguments fuel N τ workspace v k e).g in
    let t = made m w arguments fuel N τ workspace v k e in
    let f = with_forks m w arguments fuel N τ workspace v k e in
    enough m w arguments fuel N τ workspace v k e _ (omega (arith, by_forks g k.transitions k.forks t f))

-- A SEQUENTIAL VALUE, with its transitions, of which there is one at least, and no forks.
module _ (w arguments : List ℕ) (fuel N τ workspace v : ℕ) (k : Counts) (e : answer_of sequential w arguments fuel N τ workspace ≡ Value v k) where
  abbrev alone : Ran sequential w arguments fuel τ workspace v k
  alone = ran sequential w arguments fuel N τ workspace v k e

  chained : (1 ≤ k.transitions) × (k.forks ≡ 0)
  chained =
      let known = at_every_value (language w) fuel (frames_in workspace) τ sequential (entry_code arguments) v alone.g alone.t alone.is in
      let chain = sequential_chain (language w) fuel (frames_in workspace) τ (entry_code arguments) (value v) alone.g alone.t alone.is in
      let transitions = ap (λ (x : Counts). x.transitions) alone.counted in
      let forks = ap (λ (x : Counts). x.forks) alone.counted in
      (omega (arith, known.span_positive, chain.span_is), omega (arith, chain.forks_are))

  words : written alone.g ≡ 0 ∷ k.transitions ∷ []
  words =
      let t = made sequential w arguments fuel N τ workspace v k e in
      let f = with_forks sequential w arguments fuel N τ workspace v k e in
      one_stretch alone.g k.transitions chained.0 t (omega (arith, chained.1))

  left_words : (found : List ℕ) → 2 ≤ length found
      → graph_left sequential w arguments fuel N τ workspace found ≡ 0 ∷ k.transitions ∷ replicate (length found - 2) 0
  left_words found h =
      let to : RanTo sequential w arguments fuel N τ workspace (value v) alone.g alone.t
      = record { accepted = accepted sequential w arguments fuel N τ workspace v k e; is = alone.is } in
      let fits : length (written alone.g) ≤ length found = omega (arith, ap length words) in
      (buffer_left sequential w arguments fuel N τ workspace found).at_value v alone.g alone.t to fits
      ∙ ap (λ (x : List ℕ). x ++ replicate (length found - length x) 0) words

pub sequential_one_stretch : SequentialOneStretch
sequential_one_stretch w arguments fuel N τ workspace v k e =
    let is = words w arguments fuel N τ workspace v k e in
    let two : length (written (alone w arguments fuel N τ workspace v k e).g) ≡ 2 = ap length is in
    record {
      needs = words_are sequential w arguments fuel N τ workspace v k e ∙ two;
      stays = (enough sequential w arguments fuel N τ workspace v k e 2 (omega arith)).stays;
      left = left_words w arguments fuel N τ workspace v k e;
    }
