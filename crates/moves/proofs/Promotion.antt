-- A promotion in the words is the definition's promotion of the slots that they hold.
--     due_is          whether a fork can be promoted is one comparison
--     promoted        the slots and what the table assures of them, after a promotion
--     oldest_next     the oldest plain fork after it
--     promotes        what `promote` leaves
--     promote_told    and what that tells
use Prim.Native.Nat.{ℕ, zero, suc, ◌+◌, ◌*◌, ◌<◌, ◌≤◌}
use mathlib.Core.Path.{◌≡◌, refl, sym, ap, ◌∙◌}
use mathlib.Core.List.{List, ◌∷◌}
use mathlib.Core.Bool.{true, false}
use native.Mathlib.Omega.{arith}
use native.Mathlib.Decide.{dec_lt}
use lib.ListN.{length}
use lib.Dec.{ltb}
use borrow.Author.Tests.{lt-ltb, le-ltb}
use Rattle.schedule.specs.Machine.{Slot, plain_left, promoted_left, promotable, promote}
use Rattle.table.specs.WellFormed.{WellFormed}
use Rattle.frames.specs.Frames.{frame_kind, frame_value, frame_before, frame_left, frame_arguments, marked}
use Rattle.frames.proofs.Writes.{Marked, is_marked}
use Rattle.language.specs.Language.{Code, Frame}
use Rattle.moves.specs.Layout.{code_at, slot_of, slot_at, stack_of, restarted}
use Rattle.moves.specs.Ready.{FittingAt, Held, Oldest, Found, Promoted}
use Rattle.moves.specs.declared.Registers.{Registers}
use Rattle.moves.proofs.Stacks.{slot_agrees}

-- BY KIND: another slot than a plain left, and one that is not promoted
not_able : (k : ℕ) (c : Code) (v : ℕ) (vs : List ℕ) (g l : ℕ) (S : List (Slot ℕ Frame Code)) → (k ≡ 5 → ⊥) → promotable S ≡ false → promotable (slot_of k c v vs g l ∷ S) ≡ false
unfolding slot_of promotable
not_able zero c v vs g l S h e = e
not_able (suc zero) c v vs g l S h e = e
not_able (suc (suc zero)) c v vs g l S h e = e
not_able (suc (suc (suc zero))) c v vs g l S h e = e
not_able (suc (suc (suc (suc zero)))) c v vs g l S h e = e
not_able (suc (suc (suc (suc (suc zero))))) c v vs g l S h e = absurd (h refl)
not_able (suc (suc (suc (suc (suc (suc zero)))))) c v vs g l S h e = e
not_able (suc (suc (suc (suc (suc (suc (suc zero))))))) c v vs g l S h e = refl
not_able (suc (suc (suc (suc (suc (suc (suc (suc k)))))))) c v vs g l S h e = refl

able_up : (k : ℕ) (c : Code) (v : ℕ) (vs : List ℕ) (g l : ℕ) (S : List (Slot ℕ Frame Code)) → k < 7 → promotable S ≡ true → promotable (slot_of k c v vs g l ∷ S) ≡ true
unfolding slot_of promotable
able_up zero c v vs g l S h e = e
able_up (suc zero) c v vs g l S h e = e
able_up (suc (suc zero)) c v vs g l S h e = e
able_up (suc (suc (suc zero))) c v vs g l S h e = e
able_up (suc (suc (suc (suc zero)))) c v vs g l S h e = e
able_up (suc (suc (suc (suc (suc zero))))) c v vs g l S h e = refl
able_up (suc (suc (suc (suc (suc (suc zero)))))) c v vs g l S h e = e
able_up (suc (suc (suc (suc (suc (suc (suc k))))))) c v vs g l S h e = absurd (omega arith)

promote_up : (a k : ℕ) (c : Code) (v : ℕ) (vs : List ℕ) (g l : ℕ) (S : List (Slot ℕ Frame Code)) → k < 7 → promotable S ≡ true
    → promote a (slot_of k c v vs g l ∷ S) ≡ slot_of k c v vs g l ∷ promote a S
unfolding slot_of promote
promote_up a zero c v vs g l S h e = refl
promote_up a (suc zero) c v vs g l S h e = refl
promote_up a (suc (suc zero)) c v vs g l S h e = refl
promote_up a (suc (suc (suc zero))) c v vs g l S h e = refl
promote_up a (suc (suc (suc (suc zero)))) c v vs g l S h e = refl
promote_up a (suc (suc (suc (suc (suc zero))))) c v vs g l S h e = rw e
promote_up a (suc (suc (suc (suc (suc (suc zero)))))) c v vs g l S h e = refl
promote_up a (suc (suc (suc (suc (suc (suc (suc k))))))) c v vs g l S h e = absurd (omega arith)

plain_left_is : (k : ℕ) (c : Code) (v : ℕ) (vs : List ℕ) (g l : ℕ) → k ≡ 5 → slot_of k c v vs g l ≡ plain_left c
unfolding slot_of
plain_left_is k c v vs g l h = rw h

promoted_left_is : (k : ℕ) (c : Code) (v : ℕ) (vs : List ℕ) (g l : ℕ) → k ≡ 7 → slot_of k c v vs g l ≡ promoted_left g c
unfolding slot_of
promoted_left_is k c v vs g l h = rw h

-- WHETHER ONE CAN BE PROMOTED, by where the plain forks are
none_able : (ws : List ℕ) (d : ℕ) → ((j : ℕ) → j < d → frame_kind ws (32 * j) ≡ 5 → ⊥) → promotable (stack_of ws d) ≡ false
unfolding promotable stack_of
none_able ws zero n = refl
none_able ws (suc d) n =
    not_able (frame_kind ws (32 * d)) (code_at ws (32 * d)) (frame_value ws (32 * d)) (frame_arguments ws (32 * d)) (frame_before ws (32 * d)) (frame_left ws (32 * d)) (stack_of ws d)
    (n d (omega arith)) (none_able ws d (λ j k. n j (omega arith)))

one_able : (ws : List ℕ) (o d : ℕ) → frame_kind ws (32 * o) ≡ 5 → (o < d → frame_kind ws (32 * d) < 7) → (o < d → promotable (stack_of ws d) ≡ true) → o < suc d → Dec (o < d) → promotable (stack_of ws (suc d)) ≡ true
unfolding promotable stack_of
one_able ws o d is up ih h (yes g) =
    able_up (frame_kind ws (32 * d)) (code_at ws (32 * d)) (frame_value ws (32 * d)) (frame_arguments ws (32 * d)) (frame_before ws (32 * d)) (frame_left ws (32 * d)) (stack_of ws d) (up g) (ih g)
one_able ws o d is up ih h (no g) =
    let e : o ≡ d = omega arith in
    rw (plain_left_is (frame_kind ws (32 * d)) (code_at ws (32 * d)) (frame_value ws (32 * d)) (frame_arguments ws (32 * d)) (frame_before ws (32 * d)) (frame_left ws (32 * d)) (rw e at is))

-- the slots above o are not promoted
abbrev pub Plain : List ℕ → ℕ → ℕ → Type 0
Plain ws o d = (j : ℕ) → o < j → j < d → frame_kind ws (32 * j) < 7

some_able : (ws : List ℕ) (o d : ℕ) → frame_kind ws (32 * o) ≡ 5 → Plain ws o d → o < d → promotable (stack_of ws d) ≡ true
some_able ws o zero is up h = absurd (omega arith)
some_able ws o (suc d) is up h = one_able ws o d is (λ g. up d g (omega arith)) (some_able ws o d is (λ j a b. up j a (omega arith))) h (dec_lt o d)

plain : (ws : List ℕ) (o d : ℕ) → Oldest ws d o → Plain ws o d
plain ws o d r j a b = at (dec_lt (frame_kind ws (32 * j)) 7)
  where
    at : Dec (frame_kind ws (32 * j) < 7) → frame_kind ws (32 * j) < 7
    at (yes l) = l
    at (no l) = absurd (omega (arith, r.past j b (omega arith)))

pub due_is : (ws : List ℕ) (d o : ℕ) → Oldest ws d o → promotable (stack_of ws d) ≡ ltb o d
due_is ws d o r = at (dec_lt o d)
  where
    at : Dec (o < d) → promotable (stack_of ws d) ≡ ltb o d
    at (yes l) = rw (lt-ltb o d l) (some_able ws o d (r.is l) (plain ws o d r) l)
    at (no l) = let m : d ≤ o = omega arith in rw (le-ltb o d m) (none_able ws d (λ j a. r.below j a (omega arith)))

-- THE WORDS AFTER A PROMOTION of frame o, with the span g before it
module _ (ws : List ℕ) (o g : ℕ) (room : 32 * o + 32 ≤ length ws) where
  after : Marked ws (marked ws (32 * o) 7 g) (32 * o) 7 g
  after = is_marked ws (marked ws (32 * o) 7 g) (32 * o) room 7 g refl

  this_slot : slot_at (marked ws (32 * o) 7 g) (32 * o) ≡ promoted_left g (code_at ws (32 * o))
  this_slot = promoted_left_is _ _ _ _ _ _ after.is_kind ∙ rw (after.is_function, after.is_node, after.is_count, after.is_before, after.above)

  module _ (w : List ℕ) (table : WellFormed w) where
    other_slot : (m : ℕ) → 32 * m + 32 ≤ length ws → FittingAt w ws (32 * m) → (m ≡ o → ⊥) → (slot_at ws (32 * m) ≡ slot_at (marked ws (32 * o) 7 g) (32 * m)) × FittingAt w (marked ws (32 * o) 7 g) (32 * m)
    other_slot m h t n = slot_agrees w ws (marked ws (32 * o) 7 g) table after.long (32 * m) h (λ i a b. sym (after.others i (λ x y. n (omega arith)))) t

    unchanged : (d : ℕ) → 32 * d ≤ length ws → Held w ws d → d ≤ o → (stack_of ws d ≡ stack_of (marked ws (32 * o) 7 g) d) × Held w (marked ws (32 * o) 7 g) d
    unfolding stack_of Held
    unchanged zero h t l = (refl, tt)
    unchanged (suc d) h t l =
        let one = other_slot d (omega arith) t.0 (omega arith) in
        let rest = unchanged d (omega arith) t.1 (omega arith) in
        (rw (one.0, rest.0), (one.1, rest.1))

    module _ (is : frame_kind ws (32 * o) ≡ 5) (n : (j : ℕ) → j < o → frame_kind ws (32 * j) ≡ 5 → ⊥) where
      this_top : FittingAt w ws (32 * o) → FittingAt w (marked ws (32 * o) 7 g) (32 * o)
      this_top t = record {
        stands = rw (after.is_function, after.is_node, after.is_count) t.stands;
        tag = rw (after.is_kind, after.is_function, after.is_node) (rw is at t.tag);
        awaits = λ k. absurd (omega (arith, after.is_kind));
      }

      one_more : (d : ℕ) → Plain ws o (suc d) → (32 * d ≤ length ws → Held w ws d → o < d → (stack_of (marked ws (32 * o) 7 g) d ≡ promote g (stack_of ws d)) × Held w (marked ws (32 * o) 7 g) d)
          → 32 * suc d ≤ length ws → Held w ws (suc d) → o < suc d → Dec (o < d) → (stack_of (marked ws (32 * o) 7 g) (suc d) ≡ promote g (stack_of ws (suc d))) × Held w (marked ws (32 * o) 7 g) (suc d)
      unfolding promote stack_of Held
      one_more d up ih h t l (yes m) =
          let one = other_slot d (omega arith) t.0 (omega arith) in
          let rest = ih (omega arith) t.1 m in
          (rw (promote_up g (frame_kind ws (32 * d)) (code_at ws (32 * d)) (frame_value ws (32 * d)) (frame_arguments ws (32 * d)) (frame_before ws (32 * d)) (frame_left ws (32 * d)) (stack_of ws d) (up d m (omega arith)) (some_able ws o d is (λ j a b. up j a (omega arith)) m), one.0, rest.0), (one.1, rest.1))
      one_more d up ih h t l (no m) =
          let e : d ≡ o = omega arith in
          let t' : FittingAt w ws (32 * o) × Held w ws o = rw e at t in
          let rest = unchanged o (omega arith) t'.1 (omega arith) in
          let x : slot_at ws (32 * o) ≡ plain_left (code_at ws (32 * o)) = plain_left_is _ _ _ _ _ _ is in
          rw e (rw (x, none_able ws o n, rest.0) (ap (λ (y : Slot ℕ Frame Code). y ∷ stack_of (marked ws (32 * o) 7 g) o) this_slot), (this_top t'.0, rest.1))

      pub promoted : (d : ℕ) → Plain ws o d → 32 * d ≤ length ws → Held w ws d → o < d → (stack_of (marked ws (32 * o) 7 g) d ≡ promote g (stack_of ws d)) × Held w (marked ws (32 * o) 7 g) d
      promoted zero up h t l = absurd (omega arith)
      promoted (suc d) up h t l = one_more d up (promoted d (λ j a b. up j a (omega arith))) h t l (dec_lt o d)

  pub oldest_next : (d r : ℕ) → Oldest ws d o → 32 * d ≤ length ws → o < d → Found (marked ws (32 * o) 7 g) (o + 1) d r → Oldest (marked ws (32 * o) 7 g) d r
  oldest_next d r old h l f = record {
    below = λ j a b x. at j a b x (dec_lt j o) (dec_lt o j);
    is = f.is;
    none = f.none;
    past = λ j a b. up j a b (dec_lt j o) (dec_lt o j);
  }
    where
      at : (j : ℕ) → j < d → j < r → frame_kind (marked ws (32 * o) 7 g) (32 * j) ≡ 5 → Dec (j < o) → Dec (o < j) → ⊥
      at j a b x (yes p) q = old.below j a p (sym (after.others (32 * j) (λ x y. omega arith)) ∙ x)
      at j a b x (no p) (yes q) = f.below j (omega arith) a b x
      at j a b x (no p) (no q) = let y : j ≡ o = omega arith in let z : frame_kind (marked ws (32 * o) 7 g) (32 * o) ≡ 5 = rw y at x in omega (arith, after.is_kind)

      up : (j : ℕ) → j < d → 7 ≤ frame_kind (marked ws (32 * o) 7 g) (32 * j) → Dec (j < o) → Dec (o < j) → j < r
      up j a b (yes p) q = omega (arith, f.after)
      up j a b (no p) (yes q) = omega (arith, old.past j a (omega (arith, after.others (32 * j) (λ x y. omega arith))))
      up j a b (no p) (no q) = omega (arith, f.after)

pub promotes : (ws ws' : List ℕ) (s r : Registers) (next : ℕ) → ws' ≡ marked ws (32 * s.oldest) 7 s.span.0 → Found ws' (s.oldest + 1) s.depth next
    → r ≡ restarted s s.control s.depth next 0 (s.forks + 1) → Promoted ws s ws' r
promotes ws ws' s r next e f u = rw u (record { words = e; registers = refl; next = f })

pub promote_told : (ws ws' : List ℕ) (s r : Registers) → 32 * s.depth ≤ length ws → s.oldest < s.depth → Promoted ws s ws' r
    → (w : List ℕ) → WellFormed w → Held w ws s.depth → Oldest ws s.depth s.oldest
    → (stack_of ws' s.depth ≡ promote s.span.0 (stack_of ws s.depth)) × (Held w ws' s.depth × Oldest ws' s.depth r.oldest)
promote_told ws ws' s r h l p w table t o =
    let room : 32 * s.oldest + 32 ≤ length ws = omega arith in
    let x = promoted ws s.oldest s.span.0 room w table (o.is l) (λ j a. o.below j (omega arith) a) s.depth (plain ws s.oldest s.depth o) h t l in
    rw p.words (x.0, (x.1, oldest_next ws s.oldest s.span.0 room s.depth r.oldest o h l (rw p.words at p.next)))
