-- The words of an answer in a buffer: written by a copy, found by their places, and unseen where they are past its end.
-- Assumes nothing.
use Prim.Native.Nat.{ℕ, ◌+◌, ◌≤◌, ◌<◌}
use Rattle.std.specs.Prelude.{min}
use mathlib.Core.Path.{◌≡◌, sym, ap, ◌∙◌}
use mathlib.Core.List.{List, ◌++◌}
use native.Mathlib.Omega.{arith}
use native.Mathlib.Decide.{dec_lt}
use lib.ListN.{length, get_or, take, drop, length-append, length-take, length-drop, drop_of_length-le, get_or-append}
use lib.Seq.{paste, take_all, take-length, take-append-le, get_or-take}
use Rattle.capi.specs.Words.{written, GrownUnseen}

-- nothing lies past a buffer's end
past : (out : List ℕ) (i j : ℕ) → length out ≤ i → length out ≤ j → drop i out ≡ drop j out
past out i j h k = drop_of_length-le out h ∙ sym (drop_of_length-le out k)

module _ (out words : List ℕ) where
  -- a copy of as many words as there is room for
  pub copied : (n : ℕ) → n ≡ min (length out) (length words) → take n words ++ drop n out ≡ written out words
  unfolding written
  copied n e = on (dec_lt (length out) (length words))
    where
      on : Dec (length out < length words) → take n words ++ drop n out ≡ take (length out) words ++ drop (length words) out
      on (yes h) =
          let all : n ≡ length out = omega (arith, e) in
          rw all (ap (λ (rest : List ℕ). take (length out) words ++ rest) (past out (length out) (length words) (omega arith) (omega (arith, h))))
      on (no h) =
          let all : n ≡ length words = omega (arith, e) in
          rw (all, take-length words, take_all (length out) words (omega arith))

  -- of all that there is room for
  pub copied_to_end : length out < length words → paste out 0 words (length out) ≡ written out words
  copied_to_end h =
      let n : 0 + length out ≡ length out = omega arith in
      rw n (copied (length out) (omega (arith, h)))

  -- or of all words
  pub copied_whole : length words ≤ length out → paste out 0 words (length words) ≡ written out words
  copied_whole h =
      let n : 0 + length words ≡ length words = omega arith in
      rw n (copied (length words) (omega (arith, h)))

  pub length_written : length (written out words) ≡ length out
  unfolding written
  length_written =
      omega (
        arith,
        length-append (take (length out) words) (drop (length words) out),
        length-take (length out) words,
        length-drop (length words) out,
      )

  -- a word that there is room for stands at its place
  pub word_written : (i : ℕ) → i < length out → i < length words → get_or (written out words) i 0 ≡ get_or words i 0
  unfolding written
  word_written i room h =
      get_or-append (take (length out) words) (drop (length words) out) 0 i (omega (arith, length-take (length out) words))
      ∙ get_or-take (length out) words i 0 room

pub grown_unseen : GrownUnseen
unfolding written
grown_unseen out words more h =
    ap (λ (front : List ℕ). front ++ drop (length (words ++ more)) out) (take-append-le (length out) words more h)
    ∙ ap (λ (rest : List ℕ). take (length out) words ++ rest)
    (past out (length (words ++ more)) (length words) (omega (arith, length-append words more)) h)
