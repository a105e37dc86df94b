-- Calls with a buffer lent for the run's cost graph: what `GraphCalled` says of each, and what holds of the words that they write.
-- Assumes nothing.
use Prim.Native.Nat.{ℕ, ◌≤◌, ◌<◌}
use mathlib.Core.Path.{◌≡◌, sym, ap, ◌∙◌}
use mathlib.Core.Bool.{true, false}
use mathlib.Core.List.{List, [], ◌∷◌}
use mathlib.Core.Logic.{◌⊎◌, inl, inr}
use native.Mathlib.Omega.{arith}
use lib.ListN.{length, get_or, length-append, get_or-append}
use lib.Seq.{get_or-append_seam}
use Rattle.schedule.specs.Machine.{sequential, parallel, heartbeat}
use Rattle.language.specs.declared.Stop.{Stop}
use Rattle.language.specs.declared.Answer.{Answer}
use Rattle.language.specs.declared.Answer.TheVariants.{Stopped}
use Rattle.language.specs.Answers.{deepest_of}
use Rattle.language.specs.Stops.{Listed}
use Rattle.graph_answers.specs.declared.Graphed.{Graphed}
use Rattle.graph_answers.specs.Answers.{graphed_of, graph_left}
use Rattle.graph_answers.specs.Claim.{Not25, answer_lent, Told25}
use Rattle.graph_answers.proofs.Claim.{claim_lent, same_depth_lent, stops_agree_lent, stops_listed_lent}
use Rattle.graph_answers.proofs.Reported.{reported}
use Rattle.machine.specs.declared.Schedule.{Schedule}
use Rattle.machine.specs.Schedules.{schedule_of, number_of}
use Rattle.machine.specs.Workspace.{left_by}
use Rattle.capi.specs.Words.{answer_words, written}
use Rattle.capi.specs.Calls.{served}
use Rattle.capi.specs.Claims.{StopIn}
use Rattle.capi.specs.Graphs.{schedule_by, graph_words, GraphCalled, words_in, GraphCallWrote, Not25In, ThreeGraphCalls, DepthOfGraphCalls, StopsOfGraphCalls, Stop25In, StopOfGraphCall, GraphOfCall}
use Rattle.capi.proofs.Serving.{serving, by_name}
use Rattle.capi.proofs.Writing.{length_written, word_written}
use Rattle.capi.proofs.Claims.{Front, nine, valued, stopped, shown, four_words, same_words, listed_words}

-- A CALL is served or it is not
module _ (machine : ℕ) (w arguments : List ℕ) (fuel N τ : ℕ) (ws graph out : List ℕ) where
  pub turned_away : served machine (length out) ≡ false → GraphCalled machine w arguments fuel N τ ws graph out ws graph out 1
  turned_away h = record { returned = rw h; workspace = rw h; buffer = rw h; answer = rw h }

  pub told : (r : Graphed) (ws' graph' out' : List ℕ) → served machine (length out) ≡ true → r ≡ graphed_of (schedule_by machine N) w arguments fuel N τ (length ws) (length graph)
      → ws' ≡ left_by r.answer ws → graph' ≡ graph_left (schedule_by machine N) w arguments fuel N τ (length ws) graph → out' ≡ written out (graph_words r)
      → GraphCalled machine w arguments fuel N τ ws graph out ws' graph' out' 0
  told r ws' graph' out' h a left wrote tells = record {
    returned = rw h;
    workspace = rw (h, ← a) left;
    buffer = rw h wrote;
    answer = rw (h, ← a) tells;
  }

  -- by the name of the machine
  pub told_by_name : (schedule : Schedule) (r : Graphed) (ws' graph' out' : List ℕ) → (served machine (length out) ≡ true) × (number_of schedule ≡ machine)
      → r ≡ graphed_of (schedule_of schedule N) w arguments fuel N τ (length ws) (length graph) → ws' ≡ left_by r.answer ws
      → graph' ≡ graph_left (schedule_of schedule N) w arguments fuel N τ (length ws) graph → out' ≡ written out (graph_words r)
      → GraphCalled machine w arguments fuel N τ ws graph out ws' graph' out' 0
  told_by_name schedule r ws' graph' out' h a left wrote tells =
      let name = by_name schedule machine N h.1 in told r ws' graph' out' h.0 (rw name at a) left (rw name at wrote) tells

-- THE WORDS of such an answer: the first nine are those of the answer, the tenth is the number of words
ten : (r : Graphed) → length (graph_words r) ≡ 10
ten r = omega (arith, length-append (answer_words r.answer) (r.words ∷ []), nine r.answer)

first_nine : (r : Graphed) (i : ℕ) → i < 9 → get_or (graph_words r) i 0 ≡ get_or (answer_words r.answer) i 0
first_nine r i h = get_or-append (answer_words r.answer) (r.words ∷ []) 0 i (omega (arith, nine r.answer))

tenth : (r : Graphed) → get_or (graph_words r) 9 0 ≡ r.words
tenth r = ap (λ (i : ℕ). get_or (graph_words r) i 0) (sym (nine r.answer)) ∙ get_or-append_seam (answer_words r.answer) r.words [] 0

front : (out : List ℕ) (r : Graphed) → 8 ≤ length out → Front (written out (graph_words r)) r.answer
front out r h = record {
  at = λ i l. word_written out (graph_words r) i (omega arith) (omega (arith, ten r)) ∙ first_nine r i (omega arith);
  last = λ l. word_written out (graph_words r) 8 (omega (arith, length_written out (graph_words r))) (omega (arith, ten r)) ∙ first_nine r 8 (omega arith);
}

module _ {machine : ℕ} {w arguments : List ℕ} {fuel N τ workspace : ℕ} {out' graph' : List ℕ} (c : GraphCallWrote machine w arguments fuel N τ workspace out' graph') where
  abbrev lent : ℕ
  lent = length c.graph

  abbrev given : Graphed
  given = graphed_of (schedule_by machine N) w arguments fuel N τ workspace lent

  answer_so : out' ≡ written c.out (graph_words given)
  answer_so = let h = serving machine (length c.out) c.is_known c.has_room in rw (h, c.is_long) at c.called.answer

  buffer_so : graph' ≡ graph_left (schedule_by machine N) w arguments fuel N τ workspace c.graph
  buffer_so = let h = serving machine (length c.out) c.is_known c.has_room in rw (h, c.is_long) at c.called.buffer

  tells : Front out' given.answer
  tells = rw answer_so (front c.out given c.has_room)

  words_so : 10 ≤ length out' → words_in out' ≡ given.words
  words_so l =
      let long = ap length answer_so ∙ length_written c.out (graph_words given) in
      ap (λ (x : List ℕ). get_or x 9 0) answer_so ∙ word_written c.out (graph_words given) 9 (omega arith) (omega (arith, ten given)) ∙ tenth given

-- no stop 25, of an answer and of its words
not_25 : (out : List ℕ) (a : Answer) → Front out a → Not25In out → Not25 a
unfolding answer_words
not_25 out a f h s e n = let g = rw e at f in h (g.at 0 (omega arith)) (g.at 1 (omega arith) ∙ n)

pub three_graph_calls : ThreeGraphCalls
unfolding schedule_by
three_graph_calls w arguments fuel N τ workspace s p h a b c cs cp ch zero-kind np nh =
    let fs = tells cs in
    let v = valued (answer_lent sequential w arguments fuel N τ workspace (length cs.graph)) (sym (fs.at 0 (omega arith)) ∙ zero-kind) in
    let four = claim_lent w arguments fuel N τ workspace (length cs.graph) (length cp.graph) (length ch.graph) (not_25 p _ (tells cp) np) (not_25 h _ (tells ch) nh) in
    four_words N τ v.0 v.1 s p h _ _ (rw v.2 at fs) (tells cp) (tells ch) (four.at_a_value v.0 v.1 v.2)

pub depth_of_graph_calls : DepthOfGraphCalls
unfolding schedule_by deepest_of
depth_of_graph_calls w arguments fuel N τ workspace s p h a b c cs cp ch ls lp lh zero-kind =
    let fs = tells cs in
    let v = valued (answer_lent sequential w arguments fuel N τ workspace (length cs.graph)) (sym (fs.at 0 (omega arith)) ∙ zero-kind) in
    let same = (same_depth_lent w arguments fuel N τ workspace (length cs.graph) (length cp.graph) (length ch.graph)).at_a_value v.0 v.1 v.2 in
    let ds = fs.last ls ∙ shown (answer_lent sequential w arguments fuel N τ workspace (length cs.graph)) ∙ ap deepest_of v.2 in
    let dp = (tells cp).last lp ∙ shown (answer_lent parallel w arguments fuel N τ workspace (length cp.graph)) ∙ same.0 in
    let dh = (tells ch).last lh ∙ shown (answer_lent (heartbeat N) w arguments fuel N τ workspace (length ch.graph)) ∙ same.1 in
    (dp ∙ sym ds, dh ∙ sym ds)

pub stops_of_graph_calls : StopsOfGraphCalls
unfolding schedule_by answer_words
stops_of_graph_calls w arguments fuel N τ workspace s p h a b c cs cp ch one-kind least most =
    let fs = tells cs in
    let v = stopped (answer_lent sequential w arguments fuel N τ workspace (length cs.graph)) (sym (fs.at 0 (omega arith)) ∙ one-kind) in
    let ws = rw v.1 at fs in
    let told = ws.at 1 (omega arith) in
    let both = (stops_agree_lent w arguments fuel N τ workspace (length cs.graph) (length cp.graph) (length ch.graph)).at_a_stop v.0 v.1 (omega (arith, told, least)) (omega (arith, told, most)) in
    (same_words s p v.0 _ ws (tells cp) both.0, same_words s h v.0 _ ws (tells ch) both.1)

-- stop 25, as its words
words_25 : (fuel : ℕ) (out : List ℕ) (s : Stop) → Front out (Stopped s) → Told25 fuel s → Stop25In fuel out
unfolding answer_words
words_25 fuel out s ws t = record {
  number = ws.at 1 (omega arith) ∙ t.number;
  function = ws.at 2 (omega arith) ∙ t.function;
  node = ws.at 3 (omega arith) ∙ t.node;
  within_fuel = omega (arith, ws.at 4 (omega arith), t.within_fuel);
}

pub stop_of_graph_call : StopOfGraphCall
stop_of_graph_call machine w arguments fuel N τ workspace out graph c one-kind =
    let f = tells c in
    let v = stopped (given c).answer (sym (f.at 0 (omega arith)) ∙ one-kind) in
    let ws = rw v.1 at f in
    on v.0 ws (stops_listed_lent (schedule_by machine N) w arguments fuel N τ workspace (length c.graph) v.0 v.1)
  where
    on : (s : Stop) → Front out (Stopped s) → Listed w fuel s ⊎ Told25 fuel s → StopIn w fuel out ⊎ Stop25In fuel out
    on s ws (inl l) = inl (listed_words w fuel out s ws l)
    on s ws (inr t) = inr (words_25 fuel out s ws t)

pub graph_of_call : GraphOfCall
unfolding answer_words
graph_of_call machine w arguments fuel N τ workspace out graph c ten-lent zero-kind =
    let f = tells c in
    let v = valued (given c).answer (sym (f.at 0 (omega arith)) ∙ zero-kind) in
    let ws = rw v.2 at f in
    let r = reported (schedule_by machine N) w arguments fuel N τ workspace c.graph v.0 v.1 v.2 in
    let n = words_so c ten-lent in
    let s = rw (← n, ← buffer_so c) at r in
    record { long = s.long; work_is = s.work_is ∙ sym (ws.at 6 (omega arith)); span_is = s.span_is ∙ sym (ws.at 7 (omega arith)); rest = s.rest }
