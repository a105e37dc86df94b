-- The settled runs that document 01 stars ("Settled runs"), as rows of one table. That every row's answer is the one told here is proved
-- in proofs/Settled.antt, `settled`.
use Rattle.std.specs.Prelude.{ℕ, ◌*◌, ◌≡◌, List, [], ◌∷◌}
use Rattle.language.specs.declared.Answer.{Answer}
use Rattle.language.specs.declared.Answer.TheVariants.{Value}
use Rattle.language.specs.Answers.{counts_of, stopped, Machine, sequential_of, parallel_of, heartbeat_of}

-- A row: a machine, its input and its answer.
pub record Row : Type 0 where
  pub machine : Machine
  pub table : List ℕ
  pub arguments : List ℕ
  pub fuel : ℕ
  pub N : ℕ
  pub τ : ℕ
  pub frames : ℕ
  pub answer : Answer

-- "Table A, 31 words"
abbrev pub table_a : List ℕ
table_a =
    1 ∷ 0 ∷ 7
    ∷ 6 ∷ 0 ∷ 5 ∷ 6
    ∷ 6 ∷ 0 ∷ 3 ∷ 4
    ∷ 0 ∷ 3 ∷ 0 ∷ 0
    ∷ 0 ∷ 4 ∷ 0 ∷ 0
    ∷ 1 ∷ 1 ∷ 0 ∷ 0
    ∷ 0 ∷ 5 ∷ 0 ∷ 0
    ∷ 1 ∷ 0 ∷ 0 ∷ 0
    ∷ []

-- the product of a constant, by its low and its high word, with itself
abbrev pub square : ℕ → ℕ → List ℕ
square low high =
    1 ∷ 0 ∷ 3
    ∷ 2 ∷ 2 ∷ 2 ∷ 0
    ∷ 0 ∷ low ∷ high ∷ 0
    ∷ 0 ∷ low ∷ high ∷ 0
    ∷ []

-- a function that calls itself, for ever
abbrev pub endless : List ℕ
endless =
    1 ∷ 0 ∷ 1
    ∷ 5 ∷ 0 ∷ 0 ∷ 0
    ∷ []

abbrev pub row : Machine → List ℕ → List ℕ → ℕ → ℕ → ℕ → ℕ → Answer → Row
row machine table arguments fuel N τ frames answer =
    record { machine = machine; table = table; arguments = arguments; fuel = fuel; N = N; τ = τ; frames = frames; answer = answer }

-- a value, with the transitions, forks, work, span and depth
abbrev pub value : ℕ → ℕ → ℕ → ℕ → ℕ → ℕ → Answer
value v transitions forks work span deepest = Value v (counts_of transitions forks work span deepest)

-- a stop, at a node of the entry, after so many transitions and with that depth
abbrev pub stop : ℕ → ℕ → ℕ → ℕ → Answer
stop number node transitions deepest = stopped number (record { function = 0; node = node }) transitions deepest

-- THE ROWS: machine, table, arguments, fuel, N, τ, frames, answer. "Unless a row says otherwise, fuel is 100, N 3, τ 2, with no arguments
-- and 256 frames". The transitions, which 01 does not print, are work − τ · forks. The depth is 02's, P7: "` deep 2` for table A". "A starred row
-- that names no machine is proved for the sequential one."
unfoldable pub rows : List Row
rows =
    -- "A as above, each machine"
    row sequential_of table_a [] 100 3 2 256 (value 4 11 0 11 11 2)
    ∷ row parallel_of table_a [] 100 3 2 256 (value 4 5 2 9 7 2)
    ∷ row heartbeat_of table_a [] 100 3 2 256 (value 4 9 1 11 10 2)
    -- "A, heartbeat, N 1, τ 1: work 9, span 7, forks 2. N 10,000: work 11, span 11, forks 0."
    ∷ row heartbeat_of table_a [] 100 1 1 256 (value 4 7 2 9 7 2)
    ∷ row heartbeat_of table_a [] 100 10000 2 256 (value 4 11 0 11 11 2)
    -- "A, sequential, fuel 11: value; fuel 10: stop 20, node 6, 10 transitions."
    ∷ row sequential_of table_a [] 11 3 2 256 (value 4 11 0 11 11 2)
    ∷ row sequential_of table_a [] 10 3 2 256 (stop 20 6 10 2)
    -- "A, parallel, fuel 4: stop 20, node 6, 4 transitions; fuel 5: value."
    ∷ row parallel_of table_a [] 4 3 2 256 (stop 20 6 4 2)
    ∷ row parallel_of table_a [] 5 3 2 256 (value 4 5 2 9 7 2)
    -- "A with one frame: stop 21 at node 1; transitions 1 sequential and heartbeat, 0 parallel."
    ∷ row sequential_of table_a [] 100 3 2 1 (stop 21 1 1 1)
    ∷ row heartbeat_of table_a [] 100 3 2 1 (stop 21 1 1 1)
    ∷ row parallel_of table_a [] 100 3 2 1 (stop 21 1 0 1)
    -- 70,000 by itself: "4,900,000,000, work 5."
    ∷ row sequential_of (square 70000 0) [] 100 3 2 256 (value 4900000000 5 0 5 5 1)
    -- "The same with both constants 2^32 (a 0, b 1): stop 22, node 0, 4 transitions; with fuel 4, stop 20."
    ∷ row sequential_of (square 0 1) [] 100 3 2 256 (stop 22 0 4 1)
    ∷ row sequential_of (square 0 1) [] 4 3 2 256 (stop 20 0 4 1)
    -- "stop 20 after exactly the fuel."
    ∷ row sequential_of endless [] 100 3 2 256 (stop 20 0 100 0)
    ∷ []

-- What the definitions answer, row by row, and what the rows tell. A frame is 32 words.
unfoldable pub answered : List Row → List Answer
answered [] = []
answered (r ∷ rest) = r.machine r.table r.arguments r.fuel r.N r.τ (32 * r.frames) ∷ answered rest

unfoldable pub told : List Row → List Answer
told [] = []
told (r ∷ rest) = r.answer ∷ told rest

-- THE CLAIM (proofs/Settled.antt, `settled`): each row's machine answers as the row tells.
abbrev pub SettledRuns : Type 0
SettledRuns = answered rows ≡ told rows
