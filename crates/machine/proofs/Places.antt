-- The places that forks keep in their frames, beside the state that the words hold.
--     place_at, right_at   the places, by the frame's number
--     Alike                words that differ at most in places
--     ready_alike          they hold the same state
--     starts_alike         so that a stride starts from both, and a pause awaits the same move in both
--     marked_alike, ..     a mark leaves words that are alike
--     oldest_is            the oldest plain fork is the one that a promotion promotes
use Prim.Native.Nat.{ℕ, zero, suc, ◌+◌, ◌*◌, ◌<◌, ◌≤◌}
use mathlib.Core.Path.{◌≡◌, refl, sym, ◌∙◌}
use mathlib.Core.Bool.{true, false}
use mathlib.Core.List.{List, ◌∷◌}
use native.Mathlib.Omega.{arith}
use native.Mathlib.Decide.{dec_lt}
use lib.ListN.{length, get_or, length-set}
use lib.Seq.{get_or-set_same, get_or-set_other}
use borrow.Author.Tests.{lt-ltb, le-ltb}
use Rattle.schedule.specs.Machine.{Slot, promotable}
use Rattle.table.specs.WellFormed.{WellFormed}
use Rattle.frames.specs.Frames.{frame_place_at, frame_right, frame_kind, frame_value, frame_before, frame_left, frame_arguments, placed, right_placed}
use Rattle.language.specs.Language.{Code, Frame}
use Rattle.moves.specs.declared.Registers.{Registers}
use Rattle.moves.specs.declared.Plan.{Plan}
use Rattle.moves.specs.Layout.{code_at, slot_of, stack_of}
use Rattle.moves.specs.Ready.{Held, Oldest, Ready}
use Rattle.moves.proofs.Stacks.{length_stack, slot_agrees}
use Rattle.moves.proofs.Promotion.{due_is}
use Rattle.graph.proofs.Tracking.{oldest_in}
use Rattle.graph.specs.Writing.{count_ended}
use Rattle.compact.specs.declared.Compact.{Compact}
use Rattle.compact.specs.declared.Event.{Event}
use Rattle.compact.specs.declared.Event.TheVariants.{Fork, Turn, Join}
use Rattle.compact.specs.declared.Pause.{Pause}
use Rattle.compact.specs.declared.Pause.TheVariants as pause
use Rattle.compact.specs.Compact.{full}
use Rattle.strides.specs.Strides.{Starts, Calm, Returning, Awaits}
use Rattle.marks.specs.Marks.{places_marked, Marked}

abbrev pub place_at : List ℕ → ℕ → ℕ
place_at ws j = frame_place_at ws (32 * j)

abbrev pub right_at : List ℕ → ℕ → ℕ
right_at ws j = frame_right ws (32 * j)

-- WORDS THAT ARE ALIKE but for places
abbrev pub Alike : List ℕ → List ℕ → Type 0
Alike ws ws' = (j i : ℕ) → 32 * j ≤ i → i < 32 * j + 27 → get_or ws i 0 ≡ get_or ws' i 0

pub alike_placed : (ws : List ℕ) (t place : ℕ) → Alike ws (placed ws (32 * t) place)
alike_placed ws t place j i a b = sym (get_or-set_other ws (32 * t + 27) i place 0 (λ e. omega arith))

pub alike_right : (ws : List ℕ) (t right : ℕ) → Alike ws (right_placed ws (32 * t) right)
alike_right ws t right j i a b = sym (get_or-set_other ws (32 * t + 28) i right 0 (λ e. omega arith))

-- the place that was kept, and the others
module _ (ws : List ℕ) (t v : ℕ) where
  pub place_kept : 32 * t + 32 ≤ length ws → place_at (placed ws (32 * t) v) t ≡ v
  place_kept h = get_or-set_same ws (32 * t + 27) v 0 (omega arith)

  pub place_other : (j : ℕ) → (j ≡ t → ⊥) → place_at (placed ws (32 * t) v) j ≡ place_at ws j
  place_other j n = get_or-set_other ws (32 * t + 27) (32 * j + 27) v 0 (λ e. n (omega arith))

  pub place_right : (j : ℕ) → right_at (placed ws (32 * t) v) j ≡ right_at ws j
  place_right j = get_or-set_other ws (32 * t + 27) (32 * j + 28) v 0 (λ e. omega arith)

  pub right_kept : 32 * t + 32 ≤ length ws → right_at (right_placed ws (32 * t) v) t ≡ v
  right_kept h = get_or-set_same ws (32 * t + 28) v 0 (omega arith)

  pub right_other : (j : ℕ) → (j ≡ t → ⊥) → right_at (right_placed ws (32 * t) v) j ≡ right_at ws j
  right_other j n = get_or-set_other ws (32 * t + 28) (32 * j + 28) v 0 (λ e. n (omega arith))

  pub right_place : (j : ℕ) → place_at (right_placed ws (32 * t) v) j ≡ place_at ws j
  right_place j = get_or-set_other ws (32 * t + 28) (32 * j + 27) v 0 (λ e. omega arith)

-- THEY HOLD THE SAME STATE
module _ (w ws ws' : List ℕ) (table : WellFormed w) (long : length ws' ≡ length ws) (alike : Alike ws ws') where
  slots_alike : (d : ℕ) → 32 * d ≤ length ws → Held w ws d → (stack_of ws d ≡ stack_of ws' d) × Held w ws' d
  unfolding stack_of Held
  slots_alike zero h t = (refl, tt)
  slots_alike (suc d) h t =
      let rest = slots_alike d (omega arith) t.1 in
      let one = slot_agrees w ws ws' table long (32 * d) (omega arith) (alike d) t.0 in
      (rw (one.0, rest.0), (one.1, rest.1))

  pub kind_alike : (j : ℕ) → frame_kind ws (32 * j) ≡ frame_kind ws' (32 * j)
  kind_alike j = alike j (32 * j) (omega arith) (omega arith)

  oldest_alike : (d o : ℕ) → Oldest ws d o → Oldest ws' d o
  oldest_alike d o r = record {
    below = λ j a b e. r.below j a b (kind_alike j ∙ e);
    is = λ l. sym (kind_alike o) ∙ r.is l;
    none = r.none;
    past = λ j a b. r.past j a (omega (arith, kind_alike j));
  }

  pub ready_alike : (ls : List ℕ) (plan : Plan) (s : Registers) → Ready w ws ls plan s → (stack_of ws s.depth ≡ stack_of ws' s.depth) × Ready w ws' ls plan s
  ready_alike ls plan s r =
      let k = r.kept in
      let same = slots_alike s.depth k.room k.held in (
        same.0,
        record {
          kept = record {
            table = table;
            sixteen = k.sixteen;
            room = omega (arith, k.room);
            held = same.1;
            control = k.control;
            oldest = oldest_alike s.depth s.oldest k.oldest;
            born = k.born;
          };
          limits = record { fuel = r.limits.fuel; tau = r.limits.tau; frames = rw long r.limits.frames };
          bounded = rw (long, ← same.0) r.bounded;
        },
      )

  -- A STRIDE STARTS from both, and a pause awaits the same move
  module _ {ls : List ℕ} {plan : Plan} {g : Compact} where
    pub starts_alike : Starts w ws ls plan g → Starts w ws' ls plan g
    starts_alike s = record { ready = (ready_alike ls plan (full g) s.ready).1; paced = s.paced }

    calm_alike : Calm w ws ls plan g → Calm w ws' ls plan g
    calm_alike c = record { starts = starts_alike c.starts; not_due = c.not_due }

    returning_alike : {v top kind : ℕ} → Returning w ws ls plan g v top kind → Returning w ws' ls plan g v top kind
    returning_alike {v} {top} q = record { calm = calm_alike q.calm; is = q.is; depth = q.depth; of_kind = sym (kind_alike top) ∙ q.of_kind }

  pub awaits_alike : (ls : List ℕ) (plan : Plan) (g : Compact) (p : Pause) → Awaits w ws ls plan g p → Awaits w ws' ls plan g p
  unfolding Awaits
  awaits_alike ls plan g pause.Limit a = a
  awaits_alike ls plan g pause.Promotion a = a
  awaits_alike ls plan g (pause.Fork seat) a = (calm_alike a.0, a.1, a.2, a.3)
  awaits_alike ls plan g (pause.Turn v top) a = returning_alike a
  awaits_alike ls plan g (pause.Join v top) a = rw (← kind_alike top) (returning_alike a.0, a.1)

-- A MARK leaves words that are alike
module _ {ws graph : List ℕ} {n made : ℕ} {event : Event} {ws' graph' : List ℕ} {r : ℕ} (x : Marked ws graph n made event ws' graph' r) where
  pub marked_alike : (length ws' ≡ length ws) × Alike ws ws'
  marked_alike = on (dec_lt 0 (length graph))
    where
      by : (ev : Event) → (length (places_marked ws n made ev) ≡ length ws) × Alike ws (places_marked ws n made ev)
      by (Fork at) = unfold places_marked in (length-set ws (32 * at + 27) (count_ended n made), alike_placed ws at (count_ended n made))
      by (Turn at) = unfold places_marked in (length-set ws (32 * at + 28) (count_ended n made), alike_right ws at (count_ended n made))
      by (Join at) = unfold places_marked in (refl, λ j i y z. refl)

      on : Dec (0 < length graph) → (length ws' ≡ length ws) × Alike ws ws'
      on (yes h) = rw (x.some h).0 (by event)
      on (no h) = rw (x.none (omega arith)).0 (refl, λ j i y z. refl)

  pub marked_starts : {w ls : List ℕ} {plan : Plan} {g : Compact} → Starts w ws ls plan g → Starts w ws' ls plan g
  marked_starts {w} s = starts_alike w ws ws' s.ready.kept.table marked_alike.0 marked_alike.1 s

  pub marked_awaits : {w ls : List ℕ} {plan : Plan} {g : Compact} → Starts w ws ls plan g → (p : Pause) → Awaits w ws ls plan g p → Awaits w ws' ls plan g p
  marked_awaits {w} {ls} {plan} {g} s p a = awaits_alike w ws ws' s.ready.kept.table marked_alike.0 marked_alike.1 ls plan g p a

-- THE OLDEST PLAIN FORK is the one that a promotion promotes
oldest_up : (k : ℕ) (c : Code) (v : ℕ) (vs : List ℕ) (g l : ℕ) (S : List (Slot ℕ Frame Code)) → k < 7 → promotable S ≡ true → oldest_in (slot_of k c v vs g l ∷ S) ≡ oldest_in S
unfolding slot_of oldest_in
oldest_up zero c v vs g l S h e = refl
oldest_up (suc zero) c v vs g l S h e = refl
oldest_up (suc (suc zero)) c v vs g l S h e = refl
oldest_up (suc (suc (suc zero))) c v vs g l S h e = refl
oldest_up (suc (suc (suc (suc zero)))) c v vs g l S h e = refl
oldest_up (suc (suc (suc (suc (suc zero))))) c v vs g l S h e = rw e
oldest_up (suc (suc (suc (suc (suc (suc zero)))))) c v vs g l S h e = refl
oldest_up (suc (suc (suc (suc (suc (suc (suc k))))))) c v vs g l S h e = absurd (omega arith)

oldest_here : (k : ℕ) (c : Code) (v : ℕ) (vs : List ℕ) (g l : ℕ) (S : List (Slot ℕ Frame Code)) → k ≡ 5 → promotable S ≡ false → oldest_in (slot_of k c v vs g l ∷ S) ≡ length S
unfolding slot_of oldest_in
oldest_here k c v vs g l S h e = rw (h, e)

pub oldest_is : (ws : List ℕ) (d o : ℕ) → Oldest ws d o → d ≤ 4096 → o < d → oldest_in (stack_of ws d) ≡ o
unfolding stack_of
oldest_is ws zero o r few l = absurd (omega arith)
oldest_is ws (suc d) o r few l = at (dec_lt o d) (oldest_is ws d o)
  where
    at : Dec (o < d) → (Oldest ws d o → d ≤ 4096 → o < d → oldest_in (stack_of ws d) ≡ o) → oldest_in (stack_of ws (suc d)) ≡ o
    at (yes m) again =
        let under : Oldest ws d o
        = record { below = λ j a. r.below j (omega arith); is = λ x. r.is l; none = λ x. absurd (omega arith); past = λ j a. r.past j (omega arith) } in
        let able : promotable (stack_of ws d) ≡ true = due_is ws d o under ∙ lt-ltb o d m in
        let low : frame_kind ws (32 * d) < 7 = lower (dec_lt (frame_kind ws (32 * d)) 7) in
        oldest_up (frame_kind ws (32 * d)) (code_at ws (32 * d)) (frame_value ws (32 * d)) (frame_arguments ws (32 * d)) (frame_before ws (32 * d)) (frame_left ws (32 * d)) (stack_of ws d) low able
        ∙ again under (omega arith) m
      where
        lower : Dec (frame_kind ws (32 * d) < 7) → frame_kind ws (32 * d) < 7
        lower (yes x) = x
        lower (no x) = absurd (omega (arith, r.past d (omega arith) (omega arith)))
    at (no m) again =
        let e : o ≡ d = omega arith in
        let none : Oldest ws d 4096
        = record { below = λ j a b. r.below j (omega arith) (omega arith); is = λ x. absurd (omega arith); none = λ x. refl; past = λ j a b. omega arith } in
        let able : promotable (stack_of ws d) ≡ false = due_is ws d 4096 none ∙ le-ltb 4096 d (omega arith) in
        oldest_here (frame_kind ws (32 * d)) (code_at ws (32 * d)) (frame_value ws (32 * d)) (frame_arguments ws (32 * d)) (frame_before ws (32 * d)) (frame_left ws (32 * d)) (stack_of ws d) (rw e at (r.is l)) able
        ∙ length_stack ws d ∙ sym e
