-- Further runs, worked by hand from document 01's sentences: transitions, operations and their stops that no starred run has. They hold
-- the definitions to 01 where the theorems would be true of any language. ExampleStops.antt and ExampleRefusals.antt have the other
-- stops and the refusals. Proved in proofs/Settled.antt, `worked`.
use Rattle.std.specs.Prelude.{ℕ, ◌≡◌, List, [], ◌∷◌}
use Rattle.language.specs.Answers.{sequential_of, parallel_of, heartbeat_of}
use Rattle.language.specs.Settled.{Row, row, value, stop, table_a, answered, told}

-- an operation on the two arguments
abbrev pub operation : ℕ → List ℕ
operation o =
    1 ∷ 2 ∷ 3
    ∷ 2 ∷ o ∷ 2 ∷ 0
    ∷ 1 ∷ 0 ∷ 0 ∷ 0
    ∷ 1 ∷ 1 ∷ 0 ∷ 0
    ∷ []

-- 10 if the argument is not zero, else 20
abbrev pub choice : List ℕ
choice =
    1 ∷ 1 ∷ 4
    ∷ 3 ∷ 0 ∷ 2 ∷ 3
    ∷ 1 ∷ 0 ∷ 0 ∷ 0
    ∷ 0 ∷ 10 ∷ 0 ∷ 0
    ∷ 0 ∷ 20 ∷ 0 ∷ 0
    ∷ []

-- let 8: it less the argument
abbrev pub binding : List ℕ
binding =
    1 ∷ 1 ∷ 5
    ∷ 4 ∷ 0 ∷ 2 ∷ 0
    ∷ 0 ∷ 8 ∷ 0 ∷ 0
    ∷ 2 ∷ 1 ∷ 4 ∷ 0
    ∷ 1 ∷ 1 ∷ 0 ∷ 0
    ∷ 1 ∷ 0 ∷ 0 ∷ 0
    ∷ []

-- the entry calls function 1 with its second, its first and its third argument; that one gives its first less its second
abbrev pub calling : List ℕ
calling =
    2 ∷ 3 ∷ 4 ∷ 3 ∷ 3
    ∷ 5 ∷ 1 ∷ 2 ∷ 3
    ∷ 1 ∷ 1 ∷ 0 ∷ 0
    ∷ 1 ∷ 0 ∷ 0 ∷ 0
    ∷ 1 ∷ 2 ∷ 0 ∷ 0
    ∷ 2 ∷ 1 ∷ 2 ∷ 0
    ∷ 1 ∷ 0 ∷ 0 ∷ 0
    ∷ 1 ∷ 1 ∷ 0 ∷ 0
    ∷ []

-- both: left 9, right the argument; the body is left's value less right's
abbrev pub forking : List ℕ
forking =
    1 ∷ 1 ∷ 6
    ∷ 6 ∷ 0 ∷ 2 ∷ 3
    ∷ 0 ∷ 9 ∷ 0 ∷ 0
    ∷ 1 ∷ 0 ∷ 0 ∷ 0
    ∷ 2 ∷ 1 ∷ 5 ∷ 0
    ∷ 1 ∷ 1 ∷ 0 ∷ 0
    ∷ 1 ∷ 2 ∷ 0 ∷ 0
    ∷ []

-- machine, table, arguments, fuel, N, τ, frames, answer
unfoldable pub examples : List Row
examples =
    row sequential_of choice (1 ∷ []) 100 3 2 256 (value 10 4 0 4 4 1)
    ∷ row sequential_of choice (0 ∷ []) 100 3 2 256 (value 20 4 0 4 4 1)
    ∷ row sequential_of binding (3 ∷ []) 100 3 2 256 (value 5 8 0 8 8 1)
    ∷ row sequential_of calling (3 ∷ 10 ∷ 0 ∷ []) 100 3 2 256 (value 7 12 0 12 12 1)
    ∷ row sequential_of forking (5 ∷ []) 100 3 2 256 (value 4 10 0 10 10 1)
    ∷ row parallel_of forking (5 ∷ []) 100 3 2 256 (value 4 7 1 9 8 1)
    ∷ row heartbeat_of forking (5 ∷ []) 100 1 1 256 (value 4 8 1 9 8 1)
    -- the operations, and their stops
    ∷ row sequential_of (operation 0) (7 ∷ 2 ∷ []) 100 3 2 256 (value 9 5 0 5 5 1)
    ∷ row sequential_of (operation 0) (18446744073709551615 ∷ 1 ∷ []) 100 3 2 256 (stop 22 0 4 1)
    ∷ row sequential_of (operation 1) (7 ∷ 2 ∷ []) 100 3 2 256 (value 5 5 0 5 5 1)
    ∷ row sequential_of (operation 1) (0 ∷ 1 ∷ []) 100 3 2 256 (stop 23 0 4 1)
    ∷ row sequential_of (operation 2) (7 ∷ 2 ∷ []) 100 3 2 256 (value 14 5 0 5 5 1)
    ∷ row sequential_of (operation 3) (7 ∷ 2 ∷ []) 100 3 2 256 (value 3 5 0 5 5 1)
    ∷ row sequential_of (operation 3) (7 ∷ 0 ∷ []) 100 3 2 256 (stop 24 0 4 1)
    ∷ row sequential_of (operation 4) (7 ∷ 2 ∷ []) 100 3 2 256 (value 1 5 0 5 5 1)
    ∷ row sequential_of (operation 4) (7 ∷ 0 ∷ []) 100 3 2 256 (stop 24 0 4 1)
    ∷ row sequential_of (operation 5) (2 ∷ 7 ∷ []) 100 3 2 256 (value 1 5 0 5 5 1)
    ∷ row sequential_of (operation 5) (7 ∷ 7 ∷ []) 100 3 2 256 (value 0 5 0 5 5 1)
    ∷ row sequential_of (operation 6) (7 ∷ 7 ∷ []) 100 3 2 256 (value 1 5 0 5 5 1)
    ∷ row sequential_of (operation 6) (2 ∷ 7 ∷ []) 100 3 2 256 (value 0 5 0 5 5 1)
    -- the largest fuel, N, τ and workspace
    ∷ row sequential_of table_a [] 100000000 10000 10000 4096 (value 4 11 0 11 11 2)
    ∷ []

abbrev pub ExampleRuns : Type 0
ExampleRuns = answered examples ≡ told examples
