-- The words and the arguments of an input, one by one.
-- Assumes nothing.
use Prim.Native.Nat.{ℕ, zero, suc, ◌+◌, ◌*◌, ◌/◌, ◌≤◌, ◌<◌}
use mathlib.Core.Path.{◌≡◌, refl, sym, ap, subst, ◌∙◌}
use mathlib.Core.Bool.{Bool, true, false, cond}
use mathlib.Core.List.{List, [], ◌∷◌, append-nil}
use native.Mathlib.Omega.{arith}
use native.Mathlib.Numerals.{add-one}
use lib.ListN.{length, get_or, drop, set, drop_of_length-le}
use lib.Seq.{get_or-drop, paste, paste-suc, take_all}
use lib.Dec.{eqb}
use Rattle.report.specs.Input.{word_of, words_of, pairs_of, or_house}

pub length_words : (bytes : List ℕ) → length (words_of bytes) ≡ length bytes / 4
unfolding words_of
length_words (a ∷ b ∷ c ∷ d ∷ rest) = rw (length_words rest) (omega arith)
length_words (a ∷ b ∷ c ∷ []) = refl
length_words (a ∷ b ∷ []) = refl
length_words (a ∷ []) = refl
length_words [] = refl

-- an element after the first k
get_or-late : (xs : List ℕ) (k n m : ℕ) → n ≡ k + m → get_or xs n 0 ≡ get_or (drop k xs) m 0
get_or-late xs k n m h = rw h (sym (get_or-drop k xs m 0))

-- word i is made of the bytes from 4 * i on
pub word_is : (bytes : List ℕ) (i : ℕ) → 4 * i + 4 ≤ length bytes
    → get_or (words_of bytes) i 0 ≡ word_of (get_or bytes (4 * i) 0) (get_or bytes (4 * i + 1) 0) (get_or bytes (4 * i + 2) 0) (get_or bytes (4 * i + 3) 0)
unfolding words_of
word_is (a ∷ b ∷ c ∷ d ∷ rest) zero l = refl
word_is (a ∷ b ∷ c ∷ d ∷ rest) (suc i) l =
    let late = get_or-late (a ∷ b ∷ c ∷ d ∷ rest) 4 in
    word_is rest i (omega (arith, l))
    ∙ sym (rw (late (4 * suc i) (4 * i) (omega arith), late (4 * suc i + 1) (4 * i + 1) (omega arith), late (4 * suc i + 2) (4 * i + 2) (omega arith), late (4 * suc i + 3) (4 * i + 3) (omega arith)))
word_is (a ∷ b ∷ c ∷ []) i l = absurd (omega (arith, l))
word_is (a ∷ b ∷ []) i l = absurd (omega (arith, l))
word_is (a ∷ []) i l = absurd (omega (arith, l))
word_is [] i l = absurd (omega (arith, l))

pub length_pairs : (n : ℕ) (w : List ℕ) → length (pairs_of n w) ≡ n
unfolding pairs_of
length_pairs zero w = refl
length_pairs (suc n) w = ap suc (length_pairs n (drop 2 w))

-- argument i is made of two words
pub pair_is : (n : ℕ) (w : List ℕ) (i : ℕ) → i < n → get_or (pairs_of n w) i 0 ≡ get_or w (2 * i) 0 + 4294967296 * get_or w (2 * i + 1) 0
unfolding pairs_of
pair_is zero w i l = absurd (omega (arith, l))
pair_is (suc n) w zero l = refl
pair_is (suc n) w (suc i) l =
    pair_is n (drop 2 w) i (omega (arith, l))
    ∙ sym (rw (get_or-late w 2 (2 * suc i) (2 * i) (omega arith), get_or-late w 2 (2 * suc i + 1) (2 * i + 1) (omega arith)))

-- a copy of a whole list over one as long
pub all_copied : (d s : List ℕ) (n : ℕ) → length d ≡ n → length s ≡ n → paste d 0 s n ≡ s
all_copied d s n g h = rw (drop_of_length-le d {i = 0 + n} (omega (arith, g)), take_all n s (omega (arith, h))) (append-nil s)

-- one word more of a copy to the front
pub one_more : (d s : List ℕ) (i v : ℕ) → i < length d → i < length s → v ≡ get_or s i 0 → set (paste d 0 s i) i v ≡ paste d 0 s (i + 1)
one_more d s i v hd hs is =
    let at : 0 + i ≡ i = omega arith in
    rw (is, add-one) (subst (λ (k : ℕ). set (paste d 0 s i) k (get_or s i 0) ≡ paste d 0 s (suc i)) at (paste-suc d 0 s i 0 (omega (arith, hd)) hs))

-- the same, by the places of the words in the input
pub argument_is : (n : ℕ) (w : List ℕ) (i : ℕ) → i < n
    → get_or w (4 + 2 * i) 0 + 4294967296 * get_or w (5 + 2 * i) 0 ≡ get_or (pairs_of n (drop 4 w)) i 0
argument_is n w i l =
    rw (get_or-late w 4 (4 + 2 * i) (2 * i) (omega arith), get_or-late w 4 (5 + 2 * i) (2 * i + 1) (omega arith)) (sym (pair_is n (drop 4 w) i l))

-- a word or its default is below what both are below
pub or_house_below : {r given house n : ℕ} → r ≡ or_house given house → given < n → house < n → r < n
unfolding or_house
or_house_below {r} {given} {house} {n} is h k = rw is (either (eqb given 0))
  where
    either : (t : Bool) → cond t house given < n
    either true = k
    either false = h
