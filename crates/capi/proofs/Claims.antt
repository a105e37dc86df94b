-- Demand 3, the depth, the stops that agree and the listed stops, from the answers to the words that calls write.
-- Assumes nothing.
use Prim.Native.Nat.{ℕ, ◌≤◌, ◌<◌}
use mathlib.Core.Path.{◌≡◌, refl, sym, ap, ◌∙◌}
use mathlib.Core.List.{List}
use native.Mathlib.Omega.{arith}
use lib.ListN.{length, get_or}
use Rattle.language.specs.declared.Counts.{Counts}
use Rattle.language.specs.declared.Stop.{Stop}
use Rattle.language.specs.declared.Answer.{Answer}
use Rattle.language.specs.declared.Answer.TheVariants.{Value, Stopped, Refused}
use Rattle.language.specs.Answers.{sequential_of, parallel_of, heartbeat_of, deepest_of}
use Rattle.language.specs.Claim.{FourStatements, SameStop}
use Rattle.language.specs.Stops.{Listed}
use Rattle.language.proofs.Claim.{claim, same_depth, stops_agree}
use Rattle.language.proofs.Stops.{stops_listed}
use Rattle.capi.specs.Words.{answer_words, written}
use Rattle.capi.specs.Calls.{answer_by}
use Rattle.capi.specs.Claims.{FourOfWords, CallWrote, ThreeCalls, DepthOfCalls, SameStopIn, StopsOfCalls, StopIn, StopOfCall}
use Rattle.capi.specs.Graphs.{schedule_by}
use Rattle.capi.proofs.Serving.{serving, by_number}
use Rattle.capi.proofs.Writing.{length_written, word_written}

-- the words of an answer at the front of a buffer, by their places
pub record Front (out : List ℕ) (a : Answer) : Type 0 where
  pub at : (i : ℕ) → i < 8 → get_or out i 0 ≡ get_or (answer_words a) i 0
  pub last : 9 ≤ length out → get_or out 8 0 ≡ get_or (answer_words a) 8 0

pub nine : (a : Answer) → length (answer_words a) ≡ 9
unfolding answer_words
nine (Value v k) = refl
nine (Stopped s) = refl
nine (Refused r) = refl

front : (out : List ℕ) (a : Answer) → 8 ≤ length out → Front (written out (answer_words a)) a
front out a h = record {
  at = λ i l. word_written out (answer_words a) i (omega arith) (omega (arith, nine a));
  last = λ l. word_written out (answer_words a) 8 (omega (arith, length_written out (answer_words a))) (omega (arith, nine a));
}

module _ {machine : ℕ} {w arguments : List ℕ} {fuel N τ workspace : ℕ} {out' : List ℕ} where
  -- what a call wrote is the machine's answer
  tells : CallWrote machine w arguments fuel N τ workspace out' → Front out' (answer_by machine w arguments fuel N τ workspace)
  tells c =
      let h = serving machine (length c.out) c.is_known c.has_room in
      let e = rw (h, c.is_long) at c.called.answer in
      rw e (front c.out _ c.has_room)

-- a kind of 0 is a value's, and of 1 a stop's
pub valued : (a : Answer) → get_or (answer_words a) 0 0 ≡ 0 → (v : ℕ) × (k : Counts) × (a ≡ Value v k)
unfolding answer_words
valued (Value v k) e = (v, k, refl)
valued (Stopped s) e = absurd (omega arith)
valued (Refused r) e = absurd (omega arith)

pub stopped : (a : Answer) → get_or (answer_words a) 0 0 ≡ 1 → (s : Stop) × (a ≡ Stopped s)
unfolding answer_words
stopped (Value v k) e = absurd (omega arith)
stopped (Stopped s) e = (s, refl)
stopped (Refused r) e = absurd (omega arith)

-- the four statements of answers, as their words
pub four_words : (N τ v : ℕ) (k : Counts) (s p h : List ℕ) (a b : Answer) → Front s (Value v k) → Front p a → Front h b → FourStatements N τ v k a b → FourOfWords N τ s p h
unfolding answer_words
four_words N τ v k s p h a b ws fp fh four =
    let wp = rw four.parallel_value at fp in
    let wh = rw four.heartbeat_value at fh in
    let told = ws.at 1 (omega arith) in
    let work = ws.at 6 (omega arith) in
    let heartbeat-work = wh.at 6 (omega arith) in
    record {
      parallel_value = (wp.at 0 (omega arith), wp.at 1 (omega arith) ∙ sym told);
      heartbeat_value = (wh.at 0 (omega arith), wh.at 1 (omega arith) ∙ sym told);
      work_bound = rw (heartbeat-work, work) four.work_bound;
      span_bound = rw (wh.at 7 (omega arith), wp.at 7 (omega arith)) four.span_bound;
      identity = rw (heartbeat-work, wh.at 5 (omega arith), work) four.identity;
    }

pub three_calls : ThreeCalls
unfolding answer_by
three_calls w arguments fuel N τ workspace s p h cs cp ch zero-kind =
    let fs = tells cs in
    let a = valued (sequential_of w arguments fuel N τ workspace) (sym (fs.at 0 (omega arith)) ∙ zero-kind) in
    four_words N τ a.0 a.1 s p h _ _ (rw a.2 at fs) (tells cp) (tells ch) ((claim w arguments fuel N τ workspace).at_a_value a.0 a.1 a.2)

-- the depth that an answer shows is its last word
pub shown : (a : Answer) → get_or (answer_words a) 8 0 ≡ deepest_of a
unfolding answer_words deepest_of
shown (Value v k) = refl
shown (Stopped s) = refl
shown (Refused r) = refl

pub depth_of_calls : DepthOfCalls
unfolding answer_by deepest_of
depth_of_calls w arguments fuel N τ workspace s p h cs cp ch ls lp lh zero-kind =
    let fs = tells cs in
    let a = valued (sequential_of w arguments fuel N τ workspace) (sym (fs.at 0 (omega arith)) ∙ zero-kind) in
    let same = (same_depth w arguments fuel N τ workspace).at_a_value a.0 a.1 a.2 in
    let ds = fs.last ls ∙ shown (sequential_of w arguments fuel N τ workspace) ∙ ap deepest_of a.2 in
    let dp = (tells cp).last lp ∙ shown (parallel_of w arguments fuel N τ workspace) ∙ same.0 in
    let dh = (tells ch).last lh ∙ shown (heartbeat_of w arguments fuel N τ workspace) ∙ same.1 in
    (dp ∙ sym ds, dh ∙ sym ds)

-- the words of an answer that is the same stop
pub same_words : (s out : List ℕ) (stop : Stop) (a : Answer) → Front s (Stopped stop) → Front out a → SameStop stop a → SameStopIn s out
unfolding answer_words
same_words s out stop a f g same =
    let k = rw same.is at g in
    record {
      kind = k.at 0 (omega arith);
      number = omega (arith, f.at 1 (omega arith), k.at 1 (omega arith), same.number);
      function = omega (arith, f.at 2 (omega arith), k.at 2 (omega arith), same.function);
      node = omega (arith, f.at 3 (omega arith), k.at 3 (omega arith), same.node);
      never_more = omega (arith, f.at 4 (omega arith), k.at 4 (omega arith), same.never_more);
      depth = λ ls lo. omega (arith, f.last (omega (arith, ls)), k.last (omega (arith, lo)), same.depth);
    }

pub stops_of_calls : StopsOfCalls
unfolding answer_words answer_by
stops_of_calls w arguments fuel N τ workspace s p h cs cp ch one-kind least most =
    let fs = tells cs in
    let a = stopped (sequential_of w arguments fuel N τ workspace) (sym (fs.at 0 (omega arith)) ∙ one-kind) in
    let ws = rw a.1 at fs in
    let told = ws.at 1 (omega arith) in
    let both = (stops_agree w arguments fuel N τ workspace).at_a_stop a.0 a.1 (omega (arith, told, least)) (omega (arith, told, most)) in
    (same_words s p a.0 _ ws (tells cp) both.0, same_words s h a.0 _ ws (tells ch) both.1)

-- a listed stop, as its words
pub listed_words : (w : List ℕ) (fuel : ℕ) (out : List ℕ) (s : Stop) → Front out (Stopped s) → Listed w fuel s → StopIn w fuel out
unfolding answer_words
listed_words w fuel out s ws l =
    let told = ws.at 1 (omega arith) in
    let function = ws.at 2 (omega arith) in
    let transitions = ws.at 4 (omega arith) in
    record {
      least = omega (arith, told, l.least);
      most = omega (arith, told, l.most);
      function = rw function l.function;
      node = rw (ws.at 3 (omega arith), function) l.node;
      within_fuel = omega (arith, transitions, l.within_fuel);
      spent = λ e. transitions ∙ l.spent (sym told ∙ e);
    }

pub stop_of_call : StopOfCall
stop_of_call machine w arguments fuel N τ workspace out c one-kind =
    let f = tells c in
    let a = stopped (answer_by machine w arguments fuel N τ workspace) (sym (f.at 0 (omega arith)) ∙ one-kind) in
    listed_words w fuel out a.0 (rw a.1 at f)
    (stops_listed (schedule_by machine N) w arguments fuel N τ workspace a.0 (sym (by_number machine w arguments fuel N τ workspace) ∙ a.1))
