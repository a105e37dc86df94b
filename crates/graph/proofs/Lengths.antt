-- How many words a graph has, by its work at the prices 0 and 1: these are its transitions, and its transitions with its forks.
use Prim.Native.Nat.{ℕ, zero, suc, ◌+◌, ◌*◌, ◌≤◌}
use mathlib.Core.Path.{◌≡◌, refl}
use mathlib.Core.List.{[], ◌∷◌}
use native.Mathlib.Omega.{arith}
use lib.ListN.{length}
use Rattle.schedule.specs.Graph.{Graph, empty, transition, fork, work}
use Rattle.graph.specs.Words.{stretch, pending, parts, written}
use Rattle.graph.proofs.Words.{parts_length, written_length}

-- A stretch is at most two words, and at most two for each of its transitions.
stretch_short : (k : ℕ) → (length (stretch k) ≤ 2) × (length (stretch k) ≤ 2 * k)
unfolding stretch
stretch_short zero = (omega arith, omega arith)
stretch_short (suc k) = (omega arith, omega arith)

-- Three words for a fork, and two for each transition.
parts_by_transitions : (g : Graph) → length (parts g) + 2 * pending g + work 0 g ≤ 3 * work 1 g
unfolding parts pending work
parts_by_transitions empty = omega arith
parts_by_transitions (transition g) = omega (arith, parts_by_transitions g)
parts_by_transitions (fork g l r) =
    let hg = parts_by_transitions g in
    let hl = parts_by_transitions l in
    let hr = parts_by_transitions r in
    omega (
      arith,
      parts_length g l r,
      written_length g,
      written_length l,
      written_length r,
      (stretch_short (pending g)).1,
      (stretch_short (pending l)).1,
      (stretch_short (pending r)).1,
    )

pub by_transitions : (g : Graph) (t f : ℕ) → work 0 g ≡ t → work 1 g ≡ t + f → length (written g) ≤ 2 * t + 3 * f
by_transitions g t f made with_forks = omega (arith, parts_by_transitions g, written_length g, (stretch_short (pending g)).1)

-- Three words for a fork, and a stretch of two before it, on its left and on its right.
parts_by_forks : (g : Graph) → length (parts g) + 9 * work 0 g ≤ 9 * work 1 g
unfolding parts work
parts_by_forks empty = omega arith
parts_by_forks (transition g) = omega (arith, parts_by_forks g)
parts_by_forks (fork g l r) =
    let hg = parts_by_forks g in
    let hl = parts_by_forks l in
    let hr = parts_by_forks r in
    omega (
      arith,
      parts_length g l r,
      written_length g,
      written_length l,
      written_length r,
      (stretch_short (pending g)).0,
      (stretch_short (pending l)).0,
      (stretch_short (pending r)).0,
    )

-- The last stretch comes after all forks.
pub by_forks : (g : Graph) (t f : ℕ) → work 0 g ≡ t → work 1 g ≡ t + f → length (written g) ≤ 9 * f + 2
by_forks g t f made with_forks = omega (arith, parts_by_forks g, written_length g, (stretch_short (pending g)).0)

-- A graph without forks is one stretch.
unforked : (g : Graph) → work 1 g ≡ work 0 g → (parts g ≡ []) × (pending g ≡ work 0 g)
unfolding parts pending work
unforked empty e = (refl, refl)
unforked (transition g) e = let h = unforked g (omega arith) in (h.0, omega arith)
unforked (fork g l r) e = absurd (omega (arith, parts_by_forks g, parts_by_forks l, parts_by_forks r))

two_words : (k : ℕ) → 1 ≤ k → stretch k ≡ 0 ∷ k ∷ []
unfolding stretch
two_words zero h = absurd (omega arith)
two_words (suc k) h = refl

pub one_stretch : (g : Graph) (t : ℕ) → 1 ≤ t → work 0 g ≡ t → work 1 g ≡ t → written g ≡ 0 ∷ t ∷ []
one_stretch g t some made same =
    let h = unforked g (omega arith) in
    let p : pending g ≡ t = omega arith in
    rw (h.0, p) (two_words t some)
