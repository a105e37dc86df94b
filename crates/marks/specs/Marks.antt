-- What a free move writes of the cost graph, by its event: the words of the buffer are those of crate graph, and the places are kept in its frame.
use Rattle.std.specs.Prelude.{ℕ, ◌+◌, ◌*◌, ◌≤◌, ◌<◌, ◌^◌, ◌≡◌, List, length}
use Rattle.frames.specs.Frames.{frame_place_at, frame_right, placed, right_placed}
use Rattle.graph.specs.Writing.{count_ended, lent_forked, lent_filled}
use Rattle.compact.specs.declared.Event.{Event}
use Rattle.compact.specs.declared.Event.TheVariants.{Fork, Turn, Join}

-- the counts are small enough for a 32-bit word
pub record Small (n made : ℕ) : Type 0 where
  pub words : n < 2 ^ 31
  pub pending : made < 2 ^ 31

-- the frame is there, and what it keeps lies within the words
unfoldable pub Framed : (ws : List ℕ) (n made : ℕ) → Event → Type 0
Framed ws n made (Fork at) = 32 * at + 32 ≤ length ws
Framed ws n made (Turn at) = (32 * at + 32 ≤ length ws) × (frame_place_at ws (32 * at) + 3 ≤ count_ended n made)
Framed ws n made (Join at) = (32 * at + 32 ≤ length ws) × (frame_place_at ws (32 * at) + 3 ≤ frame_right ws (32 * at)) × (frame_right ws (32 * at) ≤ count_ended n made)

pub record Markable (ws : List ℕ) (n made : ℕ) (event : Event) : Type 0 where
  pub small : Small n made
  pub framed : Framed ws n made event

-- THE WORKSPACE, THE BUFFER AND THE COUNT with the marks of a free move, which are made before it
unfoldable pub places_marked : List ℕ → (n made : ℕ) → Event → List ℕ
places_marked ws n made (Fork at) = placed ws (32 * at) (count_ended n made)
places_marked ws n made (Turn at) = right_placed ws (32 * at) (count_ended n made)
places_marked ws n made (Join at) = ws

unfoldable pub graph_marked : (ws graph : List ℕ) (n made : ℕ) → Event → List ℕ
graph_marked ws graph n made (Fork at) = lent_forked graph n made
graph_marked ws graph n made (Turn at) = lent_filled graph n made (frame_place_at ws (32 * at) + 1) (frame_place_at ws (32 * at) + 3)
graph_marked ws graph n made (Join at) = lent_filled graph n made (frame_place_at ws (32 * at) + 2) (frame_right ws (32 * at))

unfoldable pub count_marked : (n made : ℕ) → Event → ℕ
count_marked n made (Fork at) = count_ended n made + 3
count_marked n made (Turn at) = count_ended n made
count_marked n made (Join at) = count_ended n made

-- beside a buffer of no words nothing changes
pub record Marked (ws graph : List ℕ) (n made : ℕ) (event : Event) (ws' graph' : List ℕ) (r : ℕ) : Type 0 where
  pub none : length graph ≡ 0 → (ws' ≡ ws) × (graph' ≡ graph) × (r ≡ n)
  pub some : 0 < length graph → (ws' ≡ places_marked ws n made event) × (graph' ≡ graph_marked ws graph n made event) × (r ≡ count_marked n made event)
