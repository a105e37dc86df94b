-- The writing of a graph: lengths, and work and span read off the words.
use Prim.Native.Nat.{ℕ, zero, suc, ◌+◌, ◌≤◌, max}
use mathlib.Core.Path.{◌≡◌, refl, ap, ◌∙◌}
use mathlib.Core.List.{List, [], ◌∷◌, ◌++◌, append_assoc, append-nil}
use native.Mathlib.Omega.{arith}
use lib.ListN.{length, take, drop, length-append, length-take, length-drop}
use lib.Seq.{take-append_seam, drop-append_seam}
use Rattle.schedule.specs.Graph.{Graph, empty, transition, fork, work, span}
use Rattle.graph.specs.Words.{stretch, fork_words, pending, parts, written, words_work, span_within, words_span, WorkedOut}

-- A stretch is no word or two.
pub stretch_none : stretch 0 ≡ []
unfolding stretch
stretch_none = refl

pub stretch_some : (k : ℕ) → stretch (k + 1) ≡ 0 ∷ (k + 1) ∷ []
unfolding stretch
stretch_some k = let e : k + 1 ≡ suc k = omega arith in rw e

pub stretch_length : (k : ℕ) → 1 ≤ k → length (stretch k) ≡ 2
unfolding stretch
stretch_length zero h = absurd (omega arith)
stretch_length (suc k) h = refl

-- A fork is three words and its branches.
pub fork_length : (l r : List ℕ) → length (fork_words l r) ≡ 3 + length l + length r
unfolding fork_words
fork_length l r = simp length-append (omega arith)

pub parts_length : (g l r : Graph) → length (parts (fork g l r)) ≡ length (written g) + (3 + length (written l) + length (written r))
unfolding parts
parts_length g l r = length-append (written g) (fork_words (written l) (written r)) ∙ ap (λ (n : ℕ). length (written g) + n)
    (fork_length (written l) (written r))

pub written_length : (g : Graph) → length (written g) ≡ length (parts g) + length (stretch (pending g))
written_length g = length-append (parts g) (stretch (pending g))

-- Just after a fork, or at the start, nothing is pending.
pub nothing_pending : (g : Graph) → pending g ≡ 0 → written g ≡ parts g
nothing_pending g e = rw (e, stretch_none) (append-nil (parts g))

-- WORK.
module _ (τ : ℕ) where
  work_stretch : (k : ℕ) (ws : List ℕ) → words_work τ (stretch k ++ ws) ≡ k + words_work τ ws
  unfolding words_work stretch
  work_stretch zero ws = omega arith
  work_stretch (suc k) ws = refl

  work_fork : (l r ws : List ℕ) → words_work τ (fork_words l r ++ ws) ≡ τ + words_work τ (l ++ (r ++ ws))
  unfolding words_work fork_words
  work_fork l r ws = rw (append_assoc l r ws)

  work_parts : (g : Graph) (ws : List ℕ) → words_work τ (parts g ++ ws) + pending g ≡ work τ g + words_work τ ws
  unfolding parts pending work
  work_parts empty ws = omega arith
  work_parts (transition g) ws = omega (arith, work_parts g ws)
  work_parts (fork g l r) ws =
      let F : List ℕ = fork_words (written l) (written r) in
      let R : List ℕ = stretch (pending r) ++ ws in
      let L : List ℕ = stretch (pending l) ++ (written r ++ ws) in
      let e : ((parts g ++ stretch (pending g)) ++ F) ++ ws ≡ parts g ++ (stretch (pending g) ++ (F ++ ws)) = simp append_assoc in
      let el : written l ++ (written r ++ ws) ≡ parts l ++ L = append_assoc (parts l) (stretch (pending l)) (written r ++ ws) in
      let er : written r ++ ws ≡ parts r ++ R = append_assoc (parts r) (stretch (pending r)) ws in
      let h0 = work_parts g (stretch (pending g) ++ (F ++ ws)) in
      let h1 = work_stretch (pending g) (F ++ ws) in
      let h2 = work_fork (written l) (written r) ws ∙ ap (λ (x : List ℕ). τ + words_work τ x) el in
      let h3 = work_parts l L in
      let h4 = work_stretch (pending l) (written r ++ ws) ∙ ap (λ (x : List ℕ). pending l + words_work τ x) er in
      let h5 = work_parts r R in
      let h6 = work_stretch (pending r) ws in
      rw e (omega arith)

  pub work_of : (g : Graph) → words_work τ (written g) ≡ work τ g
  unfolding words_work
  work_of g = omega (arith, work_parts g (stretch (pending g)), work_stretch (pending g) [], ap (words_work τ) (append-nil (stretch (pending g))))

-- SPAN. A bound that is large enough does not matter.
module _ (τ : ℕ) where
  pub span_enough : (f : ℕ) (ws : List ℕ) (e : ℕ) → length ws ≤ f → length ws ≤ e → span_within τ f ws ≡ span_within τ e ws
  unfolding span_within
  span_enough zero [] zero h k = refl
  span_enough zero [] (suc e) h k = refl
  span_enough zero (x ∷ ws) e h k = absurd (omega arith)
  span_enough (suc f) [] zero h k = refl
  span_enough (suc f) (x ∷ ws) zero h k = absurd (omega arith)
  span_enough (suc f) [] (suc e) h k = refl
  span_enough (suc f) (x ∷ []) (suc e) h k = refl
  span_enough (suc f) (zero ∷ k ∷ ws) (suc e) h j = ap (λ (n : ℕ). k + n) (span_enough f ws e (omega arith) (omega arith))
  span_enough (suc f) (suc x ∷ a ∷ []) (suc e) h k = refl
  span_enough (suc f) (suc x ∷ a ∷ b ∷ ws) (suc e) h k =
      let t = length-take a ws in
      let u = length-drop a ws in
      let v = length-take b (drop a ws) in
      let w = length-drop b (drop a ws) in
      rw (
        span_enough f (take a ws) e (omega arith) (omega arith),
        span_enough f (take b (drop a ws)) e (omega arith) (omega arith),
        span_enough f (drop b (drop a ws)) e (omega arith) (omega arith),
      )

  span_stretch : (k : ℕ) (ws : List ℕ) → words_span τ (stretch k ++ ws) ≡ k + words_span τ ws
  unfolding span_within stretch
  span_stretch zero ws = omega arith
  span_stretch (suc k) ws = ap (λ (n : ℕ). suc k + n) (span_enough (suc (length ws)) ws (length ws) (omega arith) (omega arith))

  one_fork : (f a b : ℕ) (ws : List ℕ) → span_within τ (suc f) (1 ∷ a ∷ b ∷ ws)
      ≡ τ + max (span_within τ f (take a ws)) (span_within τ f (take b (drop a ws))) + span_within τ f (drop b (drop a ws))
  unfolding span_within
  one_fork f a b ws = refl

  span_fork : (l r ws : List ℕ) → words_span τ (fork_words l r ++ ws) ≡ τ + max (words_span τ l) (words_span τ r) + words_span τ ws
  unfolding fork_words
  span_fork l r ws =
      let n : length ((l ++ r) ++ ws) ≡ length l + length r + length ws = simp length-append in
      let tl : take (length l) (l ++ (r ++ ws)) ≡ l = take-append_seam l (r ++ ws) in
      let dl : drop (length l) (l ++ (r ++ ws)) ≡ r ++ ws = drop-append_seam l (r ++ ws) in
      let tr : take (length r) (r ++ ws) ≡ r = take-append_seam r ws in
      let dr : drop (length r) (r ++ ws) ≡ ws = drop-append_seam r ws in
      let f : ℕ = suc (suc (length ((l ++ r) ++ ws))) in
      let a = span_enough f l (length l) (omega arith) (omega arith) in
      let b = span_enough f r (length r) (omega arith) (omega arith) in
      let c = span_enough f ws (length ws) (omega arith) (omega arith) in
      one_fork f (length l) (length r) ((l ++ r) ++ ws)
      ∙ ap (λ (x : List ℕ). τ + max (span_within τ f (take (length l) x)) (span_within τ f
      (take (length r) (drop (length l) x))) + span_within τ f (drop (length r) (drop (length l) x))) (append_assoc l r ws)
      ∙ ap (λ (x : List ℕ). τ + max (span_within τ f x) (span_within τ f (take (length r) (drop (length l) (l ++ (r ++ ws))))) + span_within τ f
      (drop (length r) (drop (length l) (l ++ (r ++ ws))))) tl
      ∙ ap (λ (x : List ℕ). τ + max (span_within τ f l) (span_within τ f (take (length r) x)) + span_within τ f (drop (length r) x)) dl
      ∙ ap (λ (x : List ℕ). τ + max (span_within τ f l) (span_within τ f x) + span_within τ f (drop (length r) (r ++ ws))) tr
      ∙ ap (λ (x : List ℕ). τ + max (span_within τ f l) (span_within τ f r) + span_within τ f x) dr
      ∙ omega arith

  -- At the end the pending stretch is written too.
  span_whole : (g : Graph) → words_span τ (parts g ++ stretch (pending g)) + pending g ≡ span τ g + words_span τ (stretch (pending g))
      → words_span τ (written g) ≡ span τ g
  unfolding span_within
  span_whole g h = omega (arith, h, span_stretch (pending g) [], ap (words_span τ) (append-nil (stretch (pending g))))

  span_parts : (g : Graph) (ws : List ℕ) → words_span τ (parts g ++ ws) + pending g ≡ span τ g + words_span τ ws
  unfolding parts pending span
  span_parts empty ws = omega arith
  span_parts (transition g) ws = omega (arith, span_parts g ws)
  span_parts (fork g l r) ws =
      let F : List ℕ = fork_words (written l) (written r) in
      let e : ((parts g ++ stretch (pending g)) ++ F) ++ ws ≡ parts g ++ (stretch (pending g) ++ (F ++ ws)) = simp append_assoc in
      let h0 = span_parts g (stretch (pending g) ++ (F ++ ws)) in
      let h1 = span_stretch (pending g) (F ++ ws) in
      let h2 = span_fork (written l) (written r) ws in
      let h3 = span_whole l (span_parts l (stretch (pending l))) in
      let h4 = span_whole r (span_parts r (stretch (pending r))) in
      ap (λ (x : List ℕ). words_span τ x + 0) e ∙ omega arith

  pub span_of : (g : Graph) → words_span τ (written g) ≡ span τ g
  span_of g = span_whole g (span_parts g (stretch (pending g)))

-- 02: "its work and span are the reported ones."
pub worked_out : WorkedOut
worked_out τ g = (work_of τ g, span_of τ g)
