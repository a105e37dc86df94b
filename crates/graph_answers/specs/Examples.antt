-- RUNS WITH A BUFFER LENT (02, P1), as rows of one table: 02's settled one, and others worked by hand from its sentences. Each row tells the answer, the
-- number of words and the buffer at exit. Proved in proofs/Examples.antt, `worked`.
use Rattle.std.specs.Prelude.{ℕ, ◌*◌, ◌≡◌, List, [], ◌∷◌, length, replicate}
use Rattle.schedule.specs.Machine.{Schedule, sequential, parallel, heartbeat}
use Rattle.language.specs.declared.Answer.{Answer}
use Rattle.language.specs.declared.Answer.TheVariants.{Refused}
use Rattle.language.specs.Settled.{table_a, value, stop}
use Rattle.graph_answers.specs.declared.Graphed.{Graphed}
use Rattle.graph_answers.specs.Answers.{graphed_of, graph_left}

-- What a call gives: the answer with the number of words, and the buffer at exit.
pub record Given : Type 0 where
  pub graphed : Graphed
  pub left : List ℕ

-- A row: a machine, its input, what the buffer held, and what is given.
pub record Row : Type 0 where
  pub machine : Schedule
  pub table : List ℕ
  pub fuel : ℕ
  pub N : ℕ
  pub frames : ℕ
  pub found : List ℕ
  pub given : Given

abbrev row : Schedule → List ℕ → ℕ → ℕ → ℕ → List ℕ → Answer → ℕ → List ℕ → Row
row machine table fuel N frames found answer words left = record {
  machine = machine;
  table = table;
  fuel = fuel;
  N = N;
  frames = frames;
  found = found;
  given = record { graphed = record { answer = answer; words = words }; left = left };
}

-- A buffer of so many words with something in it, and one of zeros.
abbrev pub garbage : ℕ → List ℕ
garbage n = replicate n 4294967295

abbrev zeros : ℕ → List ℕ
zeros n = replicate n 0

-- 3 both 4, of which the left is the value
abbrev one_fork : List ℕ
one_fork =
    1 ∷ 0 ∷ 4
    ∷ 6 ∷ 0 ∷ 2 ∷ 3
    ∷ 0 ∷ 3 ∷ 0 ∷ 0
    ∷ 0 ∷ 4 ∷ 0 ∷ 0
    ∷ 1 ∷ 0 ∷ 0 ∷ 0
    ∷ []

-- a both whose body is a both
abbrev two_forks : List ℕ
two_forks =
    1 ∷ 0 ∷ 7
    ∷ 6 ∷ 0 ∷ 2 ∷ 3
    ∷ 0 ∷ 1 ∷ 0 ∷ 0
    ∷ 0 ∷ 2 ∷ 0 ∷ 0
    ∷ 6 ∷ 0 ∷ 5 ∷ 6
    ∷ 0 ∷ 3 ∷ 0 ∷ 0
    ∷ 0 ∷ 4 ∷ 0 ∷ 0
    ∷ 1 ∷ 0 ∷ 0 ∷ 0
    ∷ []

-- "Table A on heartbeat with N 3 gives 0 3 1 2 2 0 4 0 1 0 1."
abbrev pub words_of_A : List ℕ
words_of_A = 0 ∷ 3 ∷ 1 ∷ 2 ∷ 2 ∷ 0 ∷ 4 ∷ 0 ∷ 1 ∷ 0 ∷ 1 ∷ []

-- THE ROWS: machine, table, fuel, N, frames, the buffer before; answer, number of words, the buffer after. τ is 2, and there are no arguments.
unfoldable pub examples : List Row
examples =
    -- 02's row, in a buffer of just so many words
    row (heartbeat 3) table_a 100 3 256 (garbage 11) (value 4 9 1 11 10 2) 11 words_of_A
    -- the other machines: one stretch, and a fork in a fork
    ∷ row sequential table_a 100 3 256 (garbage 2) (value 4 11 0 11 11 2) 2 (0 ∷ 11 ∷ [])
    ∷ row parallel table_a 100 3 256 (garbage 16) (value 4 5 2 9 7 2) 16
    (1 ∷ 9 ∷ 2 ∷ 1 ∷ 2 ∷ 2 ∷ 0 ∷ 1 ∷ 0 ∷ 1 ∷ 0 ∷ 1 ∷ 0 ∷ 1 ∷ 0 ∷ 1 ∷ [])
    -- "The words after the graph are zero"
    ∷ row (heartbeat 3) table_a 100 3 256 (garbage 13) (value 4 9 1 11 10 2) 11
    (0 ∷ 3 ∷ 1 ∷ 2 ∷ 2 ∷ 0 ∷ 4 ∷ 0 ∷ 1 ∷ 0 ∷ 1 ∷ 0 ∷ 0 ∷ [])
    -- one word too few: "Stopped: 25, with function 0, node 0 and the run's transitions", "and all are zero after a stop"
    ∷ row (heartbeat 3) table_a 100 3 256 (garbage 10) (stop 25 0 9 2) 0 (zeros 10)
    ∷ row parallel table_a 100 3 256 (garbage 15) (stop 25 0 5 2) 0 (zeros 15)
    ∷ row sequential table_a 100 3 256 [] (stop 25 0 11 2) 0 []
    -- 25 "comes after every other stop"
    ∷ row sequential table_a 10 3 256 (garbage 1) (stop 20 6 10 2) 0 (zeros 1)
    ∷ row parallel table_a 100 3 1 [] (stop 21 1 0 1) 0 []
    -- "A refused call leaves the buffer as found."
    ∷ row (heartbeat 3) table_a 0 3 256 (garbage 3) (Refused (record { number = 8; function = 0; node = 0 })) 0 (garbage 3)
    -- a promotion where the left value has just been returned: the left graph has no words
    ∷ row (heartbeat 2) one_fork 100 2 256 (garbage 9) (value 3 4 1 6 6 1) 9 (0 ∷ 2 ∷ 1 ∷ 0 ∷ 2 ∷ 0 ∷ 1 ∷ 0 ∷ 1 ∷ [])
    -- no stretch stands between two forks: the body of the first is the second
    ∷ row parallel two_forks 100 3 256 (garbage 17) (value 1 5 2 9 7 1) 16
    (1 ∷ 2 ∷ 2 ∷ 0 ∷ 1 ∷ 0 ∷ 1 ∷ 1 ∷ 2 ∷ 2 ∷ 0 ∷ 1 ∷ 0 ∷ 1 ∷ 0 ∷ 1 ∷ 0 ∷ [])
    -- "two stretches never touch": with no promotion all is one
    ∷ row (heartbeat 10000) two_forks 100 10000 256 (garbage 3) (value 1 11 0 11 11 1) 2 (0 ∷ 11 ∷ 0 ∷ [])
    ∷ []

-- What the definitions give, row by row, and what the rows tell. A frame is 32 words.
unfoldable pub given : List Row → List Given
given [] = []
given (r ∷ rest) = record {
  graphed = graphed_of r.machine r.table [] r.fuel r.N 2 (32 * r.frames) (length r.found);
  left = graph_left r.machine r.table [] r.fuel r.N 2 (32 * r.frames) r.found;
} ∷ given rest

unfoldable pub told : List Row → List Given
told [] = []
told (r ∷ rest) = r.given ∷ told rest

-- THE CLAIM: each row's machine gives what the row tells.
abbrev pub ExampleRuns : Type 0
ExampleRuns = given examples ≡ told examples
