-- The depth of values and stops (02, P7: "the largest number of frames occupied at once. A fork's frame counts until its join."): runs worked by hand
-- from that sentence. Proved in proofs/Settled.antt, `depths_worked`.
use Rattle.std.specs.Prelude.{ℕ, ◌≡◌, List, [], ◌∷◌}
use Rattle.language.specs.Answers.{sequential_of, parallel_of, heartbeat_of}
use Rattle.language.specs.Settled.{Row, row, value, stop, table_a, answered, told}
use Rattle.language.specs.ExampleStops.{adding, rightward}

-- a constant
abbrev single : List ℕ
single =
    1 ∷ 0 ∷ 1
    ∷ 0 ∷ 7 ∷ 0 ∷ 0
    ∷ []

-- (1 + 2) less 5
abbrev difference : List ℕ
difference =
    1 ∷ 0 ∷ 5
    ∷ 2 ∷ 1 ∷ 4 ∷ 0
    ∷ 2 ∷ 0 ∷ 3 ∷ 0
    ∷ 0 ∷ 1 ∷ 0 ∷ 0
    ∷ 0 ∷ 2 ∷ 0 ∷ 0
    ∷ 0 ∷ 5 ∷ 0 ∷ 0
    ∷ []

-- machine, table, arguments, fuel, N, τ, frames, answer
unfoldable pub depth_examples : List Row
depth_examples =
    -- no frame is opened
    row sequential_of single [] 100 3 2 256 (value 7 1 0 1 1 0)
    -- just as many frames as table A needs; with one frame less each machine stops (the settled runs)
    ∷ row sequential_of table_a [] 100 3 2 2 (value 4 11 0 11 11 2)
    ∷ row parallel_of table_a [] 100 3 2 2 (value 4 5 2 9 7 2)
    ∷ row heartbeat_of table_a [] 100 3 2 2 (value 4 9 1 11 10 2)
    -- "A fork's frame counts until its join": plain, born promoted or promoted, it is occupied while the right branch opens a frame
    ∷ row sequential_of rightward [] 100 2 2 256 (value 5 10 0 10 10 2)
    ∷ row parallel_of rightward [] 100 2 2 256 (value 5 7 1 9 8 2)
    ∷ row heartbeat_of rightward [] 100 2 2 256 (value 5 8 1 10 10 2)
    -- a stop tells the depth reached, not that at its end: after the join one frame is occupied
    ∷ row sequential_of adding [] 7 2 2 256 (stop 20 0 7 2)
    ∷ row parallel_of adding [] 4 2 2 256 (stop 20 0 4 2)
    ∷ row heartbeat_of adding [] 5 2 2 256 (stop 20 0 5 2)
    -- and so does a stop of the arithmetic
    ∷ row sequential_of difference [] 100 3 2 256 (stop 23 0 8 2)
    -- all frames are occupied at a 21
    ∷ row sequential_of difference [] 100 3 2 1 (stop 21 1 1 1)
    ∷ []

abbrev pub DepthExampleRuns : Type 0
DepthExampleRuns = answered depth_examples ≡ told depth_examples
