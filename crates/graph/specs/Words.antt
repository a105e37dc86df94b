-- THE COST GRAPH WRITTEN OUT (02, P1): a graph as a list of words, and its work and span read off the words. A running machine's graph grows at its
-- end, and so does its writing: `parts` are the words that no later transition changes, and `pending` counts the transitions of the stretch after
-- them.
use Rattle.std.specs.Prelude.{ℕ, zero, suc, ◌+◌, max, ◌≡◌, List, [], ◌∷◌, ◌++◌, length, take, drop}
use Rattle.schedule.specs.Graph.{Graph, empty, transition, fork, work, span}

-- 02: "A stretch of k transitions, k at least 1, is the words 0, k." None at all is not written.
unfoldable pub stretch : ℕ → List ℕ
stretch zero = []
stretch (suc k) = 0 ∷ suc k ∷ []

-- 02: "A fork is 1, the left graph's length in words, the right graph's length, then left and right."
abbrev pub head : ℕ → ℕ → List ℕ
head left right = 1 ∷ left ∷ right ∷ []

unfoldable pub fork_words : List ℕ → List ℕ → List ℕ
fork_words l r = head (length l) (length r) ++ (l ++ r)

-- The transitions since the last fork, or since the start.
unfoldable pub pending : Graph → ℕ
pending empty = 0
pending (transition g) = pending g + 1
pending (fork g l r) = 0

-- 02: "A sequence is the parts in order, and two stretches never touch." The words up to the last fork, with it.
unfoldable pub parts : Graph → List ℕ
parts empty = []
parts (transition g) = parts g
parts (fork g l r) = (parts g ++ stretch (pending g)) ++ fork_words (parts l ++ stretch (pending l)) (parts r ++ stretch (pending r))

-- THE WRITING of a graph.
abbrev pub written : Graph → List ℕ
written g = parts g ++ stretch (pending g)

-- THEOREM (proofs/OneGraph.antt, `one_graph`): the words determine the graph.
abbrev pub OneGraph : Type 0
OneGraph = (g h : Graph) → written g ≡ written h → g ≡ h

-- Work, read off the words from the front: the transitions of each stretch, and τ for each fork, wherever it is.
unfoldable pub words_work : ℕ → List ℕ → ℕ
words_work τ [] = 0
words_work τ (x ∷ []) = 0
words_work τ (zero ∷ k ∷ ws) = k + words_work τ ws
words_work τ (suc x ∷ a ∷ []) = 0
words_work τ (suc x ∷ a ∷ b ∷ ws) = τ + words_work τ ws

-- Span, by the lengths in the words. The first number bounds the parts that are still to come: their words are enough.
unfoldable pub span_within : ℕ → ℕ → List ℕ → ℕ
span_within τ zero ws = 0
span_within τ (suc f) [] = 0
span_within τ (suc f) (x ∷ []) = 0
span_within τ (suc f) (zero ∷ k ∷ ws) = k + span_within τ f ws
span_within τ (suc f) (suc x ∷ a ∷ []) = 0
span_within τ (suc f) (suc x ∷ a ∷ b ∷ ws) =
    τ + max (span_within τ f (take a ws)) (span_within τ f (take b (drop a ws))) + span_within τ f (drop b (drop a ws))

abbrev pub words_span : ℕ → List ℕ → ℕ
words_span τ ws = span_within τ (length ws) ws

-- THEOREM (proofs/Words.antt, `worked_out`). 02: "its work and span are the reported ones", of the words.
abbrev pub WorkedOut : Type 0
WorkedOut = (τ : ℕ) (g : Graph) → (words_work τ (written g) ≡ work τ g) × (words_span τ (written g) ≡ span τ g)
