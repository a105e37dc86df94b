-- Lists of words where some were copied or one was written.
--     copied              one word more of a copy
--     copied_one .. -four the first words of a copy
--     two_parts           a copy in two parts, and `copied_rest` where the first has four words
--     get_or-paste        a copy leaves each word before it
--     paste_other         and each after it
--     take_paste_below    all of those before it together
--     pasted              what was copied stands there
--     get_or-write_other  a write at offset i of a frame leaves the word at another offset j
--     same_word, part_same  words of two lists that agree
-- Assumes nothing.
use Prim.Native.Nat.{ℕ, ◌+◌, ◌-◌, ◌<◌, ◌≤◌}
use mathlib.Core.Path.{◌≡◌, ◌∙◌, ap, sym}
use mathlib.Core.List.{List, ◌++◌, append_assoc}
use native.Mathlib.Omega.{arith}
use native.Mathlib.Decide.{dec_lt}
use native.Mathlib.Nat.{add-zero}
use native.Mathlib.Numerals.{add-one}
use lib.ListN.{length, get_or, take, drop, set, length-drop, length-append, get_or-append}
use lib.Seq.{paste, paste-zero, paste-suc, take-paste, drop-paste, take-add, drop-drop, get_or-drop, get_or-take, take-append-le, take-take, take_at, drop_at, get_or-set_other, ext_get_or, length-take-le}

pub copied : (d : List ℕ) (at : ℕ) (s : List ℕ) (from i : ℕ) → at + i < length d → from + i < length s
    → set (paste d at (drop from s) i) (at + i) (get_or s (from + i) 0) ≡ paste d at (drop from s) (i + 1)
copied d at s from i hd hs =
    let h : i < length (drop from s) = simp length-drop (omega arith) in
    rw (add-one, ← get_or-drop from s i 0) (paste-suc d at (drop from s) i 0 hd h)

module _ (d : List ℕ) (at : ℕ) (s : List ℕ) (from : ℕ) where
  pub copied_one : at < length d → from < length s → set d at (get_or s from 0) ≡ paste d at (drop from s) 1
  copied_one hd hs =
      let P = paste d at (drop from s) 0 in
      ap (λ (x : List ℕ). set x at (get_or s from 0)) (paste-zero d at (drop from s))
      ∙ ap (λ (i : ℕ). set P i (get_or s from 0)) (sym (add-zero at))
      ∙ ap (λ (i : ℕ). set P (at + 0) (get_or s i 0)) (sym (add-zero from))
      ∙ copied d at s from 0 (omega arith) (omega arith)

  pub copied_two : at + 1 < length d → from + 1 < length s → set (set d at (get_or s from 0)) (at + 1) (get_or s (from + 1) 0) ≡ paste d at (drop from s) 2
  copied_two hd hs = rw (copied_one (omega arith) (omega arith)) (copied d at s from 1 hd hs)

  pub copied_three : at + 2 < length d → from + 2 < length s
      → set (set (set d at (get_or s from 0)) (at + 1) (get_or s (from + 1) 0)) (at + 2) (get_or s (from + 2) 0) ≡ paste d at (drop from s) 3
  copied_three hd hs = rw (copied_two (omega arith) (omega arith)) (copied d at s from 2 hd hs)

  pub copied_four : at + 3 < length d → from + 3 < length s
      → set (set (set (set d at (get_or s from 0)) (at + 1) (get_or s (from + 1) 0)) (at + 2) (get_or s (from + 2) 0)) (at + 3) (get_or s (from + 3) 0) ≡ paste d at (drop from s) 4
  copied_four hd hs = rw (copied_three (omega arith) (omega arith)) (copied d at s from 3 hd hs)

pub two_parts : (d : List ℕ) (at : ℕ) (s : List ℕ) (k m : ℕ) → at ≤ length d → k ≤ length s
    → paste (paste d at s k) (at + k) (drop k s) m ≡ paste d at s (k + m)
two_parts d at s k m h g =
    let P = paste d at s k in
    let sum : at + k + m ≡ at + (k + m) = omega arith in
    let rest : drop (at + k + m) P ≡ drop (at + (k + m)) d =
    sym (drop-drop m (at + k) P) ∙ ap (drop m) (drop-paste d at s k h g) ∙ drop-drop m (at + k) d ∙ ap (λ (i : ℕ). drop i d) sum in
    ap (λ (x : List ℕ). (x ++ take m (drop k s)) ++ drop (at + k + m) P) (take-paste d at s k h g)
    ∙ ap (λ (x : List ℕ). ((take at d ++ take k s) ++ take m (drop k s)) ++ x) rest
    ∙ ap (λ (x : List ℕ). x ++ drop (at + (k + m)) d) (append_assoc (take at d) (take k s) (take m (drop k s)) ∙ ap (λ (x : List ℕ). take at d ++ x) (sym (take-add k m s)))

pub copied_rest : (d : List ℕ) (at : ℕ) (s : List ℕ) (from n : ℕ) → 4 ≤ n → at + n ≤ length d → from + n ≤ length s
    → paste (paste d at (drop from s) 4) (at + 4) (drop (from + 4) s) (n - 4) ≡ paste d at (drop from s) n
copied_rest d at s from n f hd hs =
    let sum : 4 + (n - 4) ≡ n = omega arith in
    ap (λ (x : List ℕ). paste (paste d at (drop from s) 4) (at + 4) x (n - 4)) (sym (drop-drop 4 from s))
    ∙ two_parts d at (drop from s) 4 (n - 4) (omega arith) (simp length-drop (omega arith))
    ∙ ap (λ (i : ℕ). paste d at (drop from s) i) sum

module _ (d : List ℕ) (at : ℕ) (s : List ℕ) (n : ℕ) (h : at ≤ length d) where
  pub get_or-paste : (i : ℕ) → i < at → get_or (paste d at s n) i 0 ≡ get_or d i 0
  get_or-paste i l =
      let a : i < length (take at d) = rw (length-take-le at d h) l in
      let b : i < length (take at d ++ take n s) = simp length-append (omega (arith, a)) in
      get_or-append (take at d ++ take n s) (drop (at + n) d) 0 i b ∙ get_or-append (take at d) (take n s) 0 i a ∙ get_or-take at d i 0 l

  pub take_paste_below : (i : ℕ) → i ≤ at → take i (paste d at s n) ≡ take i d
  take_paste_below i l =
      let a : i ≤ length (take at d) = rw (length-take-le at d h) l in
      let b : i ≤ length (take at d ++ take n s) = simp length-append (omega (arith, a)) in
      take-append-le i (take at d ++ take n s) (drop (at + n) d) b ∙ take-append-le i (take at d) (take n s) a ∙ take-take i at d l

  pub pasted : n ≤ length s → take n (drop at (paste d at s n)) ≡ take n s
  pasted g = rw (append_assoc, drop_at (take at d) (take n s ++ drop (at + n) d) at (length-take-le at d h)) (take_at (take n s) (drop (at + n) d) n (length-take-le n s g))

pub paste_other : (d : List ℕ) (at : ℕ) (s : List ℕ) (n : ℕ) → at + n ≤ length d → n ≤ length s → (i : ℕ) → (at ≤ i → i < at + n → ⊥)
    → get_or (paste d at s n) i 0 ≡ get_or d i 0
paste_other d at s n h g i apart = on (dec_lt i at)
  where
    on : Dec (i < at) → get_or (paste d at s n) i 0 ≡ get_or d i 0
    on (yes l) = get_or-paste d at s n (omega arith) i l
    on (no l) = after (dec_lt i (at + n))
      where
        after : Dec (i < at + n) → get_or (paste d at s n) i 0 ≡ get_or d i 0
        after (yes m) = absurd (apart (omega arith) m)
        after (no m) =
            let e : i ≡ at + n + (i - (at + n)) = omega arith in
            let P : List ℕ = paste d at s n in
            ap (λ (j : ℕ). get_or P j 0) e ∙ sym (get_or-drop (at + n) P (i - (at + n)) 0)
            ∙ ap (λ (l : List ℕ). get_or l (i - (at + n)) 0) (drop-paste d at s n (omega arith) g)
            ∙ get_or-drop (at + n) d (i - (at + n)) 0 ∙ ap (λ (j : ℕ). get_or d j 0) (sym e)

pub get_or-write_other : (ws : List ℕ) (b i j v : ℕ) → (i ≡ j → ⊥) → get_or (set ws (b + i) v) (b + j) 0 ≡ get_or ws (b + j) 0
get_or-write_other ws b i j v h = get_or-set_other ws (b + i) (b + j) v 0 (omega arith)

-- a word of two lists that agree on their first n
pub same_word : (l l' : List ℕ) (n : ℕ) → take n l ≡ take n l' → (i : ℕ) → i < n → get_or l i 0 ≡ get_or l' i 0
same_word l l' n e i h = sym (get_or-take n l i 0 h) ∙ ap (λ (x : List ℕ). get_or x i 0) e ∙ get_or-take n l' i 0 h

-- c words from b on, where each agrees
pub part_same : (l l' : List ℕ) (b c : ℕ) → length l ≡ length l' → b + c ≤ length l → ((i : ℕ) → b ≤ i → i < b + c → get_or l i 0 ≡ get_or l' i 0)
    → take c (drop b l) ≡ take c (drop b l')
part_same l l' b c e h s =
    let x : c ≤ length (drop b l) = simp length-drop (omega arith) in
    let x' : c ≤ length (drop b l') = simp length-drop (omega arith) in
    let y : length (take c (drop b l)) ≡ c = length-take-le c (drop b l) x in
    let y' : length (take c (drop b l')) ≡ c = length-take-le c (drop b l') x' in
    ext_get_or 0 (take c (drop b l)) (take c (drop b l')) (y ∙ sym y') (λ i g.
    let k : i < c = rw y at g in
    get_or-take c (drop b l) i 0 k ∙ get_or-drop b l i 0 ∙ s (b + i) (omega arith) (omega arith) ∙ sym (get_or-drop b l' i 0) ∙ sym (get_or-take c (drop b l') i 0 k))
