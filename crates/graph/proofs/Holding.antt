-- A lent buffer beside the words of a run, write by write. Each is looked at where the words fit, and where they do not nothing is to be shown.
--     holds_more, holds_set      one word more at the end; a word filled in
--     holds_all                  where the words fit, the buffer begins with them
--     holds_within               a write that is made where the words fit
--     counted_end, holds_end     the stretch ends
--     holds_head                 a fork's three words
--     left_filled, right_filled  a fork's lengths filled in
use Prim.Native.Nat.{ℕ, zero, suc, ◌+◌, ◌*◌, ◌-◌, ◌≤◌, ◌<◌}
use mathlib.Core.Path.{◌≡◌, refl, ap, sym, ◌∙◌, subst}
use mathlib.Core.Bool.{Bool, true, false, cond}
use mathlib.Core.List.{List, [], ◌∷◌, ◌++◌, append_assoc, append-nil}
use native.Mathlib.Omega.{arith}
use native.Mathlib.Decide.{ℕ_discrete}
use lib.Dec.{leb}
use borrow.Author.Tests.{le-leb, lt-leb, leb-false}
use lib.ListN.{length, get_or, take, set, length-append, length-set, get_or-append}
use lib.Seq.{set_at, get_or-set_same, get_or-set_other, get_or-append_seam, get_or-take, length-take-le, ext_get_or}
use Rattle.graph.specs.Words.{stretch, head}
use Rattle.graph.specs.Writing.{Holds, count_ended, stretched, within}

holds_more : (lent w : List ℕ) (a : ℕ) → Holds lent w → Holds (set lent (length w) a) (w ++ (a ∷ []))
holds_more lent w a held h i k = on (ℕ_discrete i (length w))
  where
    l : length (set lent (length w) a) ≡ length lent
    l = length-set lent (length w) a

    m : length (w ++ (a ∷ [])) ≡ length w + 1
    m = length-append w (a ∷ [])

    on : Dec (i ≡ length w) → get_or (set lent (length w) a) i 0 ≡ get_or (w ++ (a ∷ [])) i 0
    on (yes e) = rw e (get_or-set_same lent (length w) a 0 (omega (arith, l, m)) ∙ sym (get_or-append_seam w a [] 0))
    on (no n) = let j : i < length w = omega (arith, l, m) in
        get_or-set_other lent (length w) i a 0 n ∙ held (omega (arith, l, m)) i j ∙ sym (get_or-append w (a ∷ []) 0 i j)

pub holds_set : (lent w : List ℕ) (j a : ℕ) → Holds lent w → Holds (set lent j a) (set w j a)
holds_set lent w j a held h i k = on (ℕ_discrete i j)
  where
    l : length (set lent j a) ≡ length lent
    l = length-set lent j a

    m : length (set w j a) ≡ length w
    m = length-set w j a

    on : Dec (i ≡ j) → get_or (set lent j a) i 0 ≡ get_or (set w j a) i 0
    on (yes e) = rw e (get_or-set_same lent j a 0 (omega (arith, l, m)) ∙ sym (get_or-set_same w j a 0 (omega (arith, l, m))))
    on (no n) = get_or-set_other lent j i a 0 n ∙ held (omega (arith, l, m)) i (omega (arith, l, m)) ∙ sym (get_or-set_other w j i a 0 n)

pub holds_all : (lent w : List ℕ) → Holds lent w → length w ≤ length lent → take (length w) lent ≡ w
holds_all lent w held h =
    let l : length (take (length w) lent) ≡ length w = length-take-le (length w) lent h in
    ext_get_or 0 (take (length w) lent) w l
    (λ i k. get_or-take (length w) lent i 0 (omega arith) ∙ held h i (omega arith))

-- WHERE THE WORDS FIT the write is made, and else the buffer is as it was.
pub within_fits : (end : ℕ) (lent changed : List ℕ) → end ≤ length lent → changed ≡ within end lent changed
unfolding within
within_fits end lent changed h = rw (le-leb end (length lent) h)

pub within_over : (end : ℕ) (lent changed : List ℕ) → length lent < end → lent ≡ within end lent changed
unfolding within
within_over end lent changed h = rw (lt-leb end (length lent) h)

pub length_within : (end : ℕ) (lent changed : List ℕ) → length changed ≡ length lent → length (within end lent changed) ≡ length lent
unfolding within
length_within end lent changed e = on (leb end (length lent))
  where
    on : (t : Bool) → length (cond t changed lent) ≡ length lent
    on true = e
    on false = refl

pub holds_within : (end : ℕ) (lent changed w : List ℕ) → end ≡ length w → Holds changed w → Holds (within end lent changed) w
unfolding within
holds_within end lent changed w e held = on (leb end (length lent)) refl
  where
    on : (t : Bool) → leb end (length lent) ≡ t → Holds (cond t changed lent) w
    on true q = held
    on false q = λ fits i k. absurd (omega (arith, leb-false end (length lent) q))

-- THE STRETCH ENDS.
pub counted_end : (w : List ℕ) (k : ℕ) → count_ended (length w) k ≡ length (w ++ stretch k)
unfolding count_ended stretch
counted_end w zero = ap length (sym (append-nil w))
counted_end w (suc k) = sym (length-append w (0 ∷ suc k ∷ []))

pub counted_few : (n k : ℕ) → (n ≤ count_ended n k) × (count_ended n k ≤ n + 2 * k) × (count_ended n k ≤ n + 2)
unfolding count_ended
counted_few n zero = omega arith
counted_few n (suc k) = omega arith

pub holds_end : (lent w : List ℕ) (k : ℕ) → Holds lent w → Holds (stretched lent (length w) k) (w ++ stretch k)
unfolding stretched stretch
holds_end lent w zero held = subst (λ (x : List ℕ). Holds lent x) (sym (append-nil w)) held
holds_end lent w (suc k) held =
    let n : length (w ++ (0 ∷ [])) ≡ length w + 1 = length-append w (0 ∷ []) in
    let a = holds_more (set lent (length w) 0) (w ++ (0 ∷ [])) (suc k) (holds_more lent w 0 held) in
    let e : (w ++ (0 ∷ [])) ++ (suc k ∷ []) ≡ w ++ (0 ∷ suc k ∷ []) = append_assoc w (0 ∷ []) (suc k ∷ []) in
    rw (n, e) at a

pub length_end : (lent : List ℕ) (n k : ℕ) → length (stretched lent n k) ≡ length lent
unfolding stretched
length_end lent n zero = refl
length_end lent n (suc k) = length-set (set lent n 0) (n + 1) (suc k) ∙ length-set lent n 0

-- A FORK'S THREE WORDS, and its lengths: after the words A the three words stand, and W was written after them.
pub holds_head : (lent w : List ℕ) → Holds lent w
    → Holds (set (set (set lent (length w) 1) (length w + 1) 0) (length w + 2) 0) (w ++ head 0 0)
holds_head lent w held =
    let n : length (w ++ (1 ∷ [])) ≡ length w + 1 = length-append w (1 ∷ []) in
    let m : length (w ++ (1 ∷ 0 ∷ [])) ≡ length w + 2 = length-append w (1 ∷ 0 ∷ []) in
    let e : (w ++ (1 ∷ [])) ++ (0 ∷ []) ≡ w ++ (1 ∷ 0 ∷ []) = append_assoc w (1 ∷ []) (0 ∷ []) in
    let f : (w ++ (1 ∷ 0 ∷ [])) ++ (0 ∷ []) ≡ w ++ head 0 0 = append_assoc w (1 ∷ 0 ∷ []) (0 ∷ []) in
    let a = holds_more (set lent (length w) 1) (w ++ (1 ∷ [])) 0 (holds_more lent w 1 held) in
    let b : Holds (set (set lent (length w) 1) (length w + 1) 0) (w ++ (1 ∷ 0 ∷ [])) = rw (n, e) at a in
    let c = holds_more (set (set lent (length w) 1) (length w + 1) 0) (w ++ (1 ∷ 0 ∷ [])) 0 b in
    rw (m, f) at c

pub left_filled : (A W : List ℕ) (p : ℕ) → p ≡ length A
    → set ((A ++ head 0 0) ++ W) (p + 1) (length ((A ++ head 0 0) ++ W) - (p + 3)) ≡ A ++ (head (length W) 0 ++ W)
left_filled A W p e =
    let shape : (A ++ head 0 0) ++ W ≡ (A ++ (1 ∷ [])) ++ 0 ∷ 0 ∷ W = simp append_assoc in
    let n : length ((A ++ head 0 0) ++ W) ≡ length A + 3 + length W = simp length-append (omega arith) in
    let x : length ((A ++ head 0 0) ++ W) - (p + 3) ≡ length W = omega arith in
    let m : length (A ++ (1 ∷ [])) ≡ p + 1 = length-append A (1 ∷ []) ∙ omega arith in
    ap (λ (k : ℕ). set ((A ++ head 0 0) ++ W) (p + 1) k) x
    ∙ ap (λ (ws : List ℕ). set ws (p + 1) (length W)) shape
    ∙ set_at (A ++ (1 ∷ [])) 0 (0 ∷ W) (length W) (p + 1) m
    ∙ append_assoc A (1 ∷ []) (length W ∷ 0 ∷ W)

pub right_filled : (A L W : List ℕ) (n p q : ℕ) → p ≡ length A → q ≡ p + 3 + length L
    → set ((A ++ (head n 0 ++ L)) ++ W) (p + 2) (length ((A ++ (head n 0 ++ L)) ++ W) - q) ≡ A ++ (head n (length W) ++ (L ++ W))
right_filled A L W n p q e h =
    let shape : (A ++ (head n 0 ++ L)) ++ W ≡ (A ++ (1 ∷ n ∷ [])) ++ 0 ∷ (L ++ W) = simp append_assoc in
    let k : length ((A ++ (head n 0 ++ L)) ++ W) ≡ length A + 3 + length L + length W = simp length-append (omega arith) in
    let x : length ((A ++ (head n 0 ++ L)) ++ W) - q ≡ length W = omega arith in
    let m : length (A ++ (1 ∷ n ∷ [])) ≡ p + 2 = length-append A (1 ∷ n ∷ []) ∙ omega arith in
    ap (λ (k : ℕ). set ((A ++ (head n 0 ++ L)) ++ W) (p + 2) k) x
    ∙ ap (λ (ws : List ℕ). set ws (p + 2) (length W)) shape
    ∙ set_at (A ++ (1 ∷ n ∷ [])) 0 (L ++ W) (length W) (p + 2) m
    ∙ append_assoc A (1 ∷ n ∷ []) (length W ∷ (L ++ W))

-- The same as code has it, by whether a stretch is pending.
pub ended_none : (n k : ℕ) → k ≡ 0 → n ≡ count_ended n k
unfolding count_ended
ended_none n zero e = refl
ended_none n (suc k) e = absurd (omega arith)

pub ended_some : (n k : ℕ) → (k ≡ 0 → ⊥) → n + 2 ≡ count_ended n k
unfolding count_ended
ended_some n zero e = absurd (e refl)
ended_some n (suc k) e = refl

pub pending_ends : (n k : ℕ) → 0 < k → n + 2 ≡ count_ended n k
pending_ends n k h = ended_some n k (λ e. omega (arith, h, e))

pub stretched_none : (lent : List ℕ) (n k : ℕ) → k ≤ 0 → lent ≡ stretched lent n k
unfolding stretched
stretched_none lent n zero h = refl
stretched_none lent n (suc k) h = absurd (omega arith)

pub stretched_some : (lent : List ℕ) (n k : ℕ) → 0 < k → set (set lent n 0) (n + 1) k ≡ stretched lent n k
unfolding stretched
stretched_some lent n zero h = absurd (omega arith)
stretched_some lent n (suc k) h = refl
