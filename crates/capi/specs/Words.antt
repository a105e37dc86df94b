-- The words that tell an answer, and how they are written.
use Rattle.std.specs.Prelude.{ℕ, ◌≤◌, ◌≡◌, List, [], ◌∷◌, ◌++◌, length, take, drop}
use Rattle.language.specs.declared.Answer.{Answer}
use Rattle.language.specs.declared.Answer.TheVariants.{Value, Stopped, Refused}

-- The kind (0 a value, 1 a stop, 2 a refusal), the value or the number, function, node, transitions, forks, work, span and depth; those that an answer
-- does not have are 0.
unfoldable pub answer_words : Answer → List ℕ
answer_words (Value v k) =
    0 ∷ v ∷ 0 ∷ 0 ∷ k.transitions ∷ k.forks ∷ k.work.0 ∷ k.span.0 ∷ k.deepest ∷ []
answer_words (Stopped s) =
    1 ∷ s.number ∷ s.function ∷ s.node ∷ s.transitions ∷ 0 ∷ 0 ∷ 0 ∷ s.deepest ∷ []
answer_words (Refused r) =
    2 ∷ r.number ∷ r.function ∷ r.node ∷ 0 ∷ 0 ∷ 0 ∷ 0 ∷ 0 ∷ []

-- A buffer with the words at its front, as many as it has room for; its words after them stay.
unfoldable pub written : List ℕ → List ℕ → List ℕ
written out words = take (length out) words ++ drop (length words) out

-- THEOREM (proofs/Writing.antt, `grown_unseen`): HOW AN ANSWER GROWS. A word that a request adds comes after the others. A caller that lends no more words
-- than there were before it finds what it found before.
abbrev pub GrownUnseen : Type 0
GrownUnseen = (out words more : List ℕ) → length out ≤ length words → written out (words ++ more) ≡ written out words
