-- The places that forks keep are spared by every write of a move.
use Prim.Native.Nat.{ℕ, ◌+◌, ◌*◌, ◌<◌, ◌≤◌}
use mathlib.Core.Path.{◌≡◌, refl}
use mathlib.Core.List.{List}
use native.Mathlib.Omega.{arith}
use lib.ListN.{length}
use Rattle.frames.specs.Frames.{pushed, turned, collected, marked}
use Rattle.frames.proofs.Writes.{pushed_spares, turned_spares, collected_spares, marked_spares}
use Rattle.moves.specs.Ready.{Spared}

-- no word of the frame t that a write touches is such a place
apart : (t j i : ℕ) → 27 ≤ i → i < 32 → 32 * t ≤ 32 * j + i → 32 * j + i < 32 * t + 27 → ⊥
apart t j i h l a b = omega arith

pub spared_same : (ws : List ℕ) → Spared ws ws
spared_same ws j = (refl, refl)

module _ (ws ws' : List ℕ) (t : ℕ) (room : 32 * t + 32 ≤ length ws) where
  pub spared_pushed : (kind function node k : ℕ) (ls : List ℕ) (before : ℕ) → k ≤ 16 → length ls ≡ 16
      → ws' ≡ pushed ws (32 * t) kind function node k ls before → Spared ws ws'
  spared_pushed kind function node k ls before g l e j = (
    pushed_spares ws ws' (32 * t) (32 * j + 27) room (apart t j 27 (omega arith) (omega arith)) kind function node k ls before g l e,
    pushed_spares ws ws' (32 * t) (32 * j + 28) room (apart t j 28 (omega arith) (omega arith)) kind function node k ls before g l e,
  )

  pub spared_turned : (kind v g : ℕ) → ws' ≡ turned ws (32 * t) kind v g → Spared ws ws'
  spared_turned kind v g e j = (
    turned_spares ws ws' (32 * t) (32 * j + 27) room (apart t j 27 (omega arith) (omega arith)) kind v g e,
    turned_spares ws ws' (32 * t) (32 * j + 28) room (apart t j 28 (omega arith) (omega arith)) kind v g e,
  )

  pub spared_collected : (n v : ℕ) → n < 3 → ws' ≡ collected ws (32 * t) n v → Spared ws ws'
  spared_collected n v l e j = (
    collected_spares ws ws' (32 * t) (32 * j + 27) room (apart t j 27 (omega arith) (omega arith)) n v l e,
    collected_spares ws ws' (32 * t) (32 * j + 28) room (apart t j 28 (omega arith) (omega arith)) n v l e,
  )

  pub spared_marked : (kind g : ℕ) → ws' ≡ marked ws (32 * t) kind g → Spared ws ws'
  spared_marked kind g e j = (
    marked_spares ws ws' (32 * t) (32 * j + 27) room (apart t j 27 (omega arith) (omega arith)) kind g e,
    marked_spares ws ws' (32 * t) (32 * j + 28) room (apart t j 28 (omega arith) (omega arith)) kind g e,
  )
