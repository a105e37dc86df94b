-- Stops 20 and 21 where only the order of looking decides, each place that 20 can be told at, and promotions one after another: runs worked
-- by hand from document 01's sentences. Proved in proofs/Settled.antt, `stops_worked`.
use Rattle.std.specs.Prelude.{ℕ, ◌≡◌, List, [], ◌∷◌}
use Rattle.language.specs.declared.Answer.{Answer}
use Rattle.language.specs.Answers.{stopped, sequential_of, parallel_of, heartbeat_of}
use Rattle.language.specs.Settled.{Row, row, value, stop, table_a, answered, told}
use Rattle.language.specs.Examples.{operation, choice, binding, calling, forking}

-- both: 1 and 2, the body is left's value; and 3 added
abbrev pub adding : List ℕ
adding =
    1 ∷ 0 ∷ 6
    ∷ 2 ∷ 0 ∷ 5 ∷ 0
    ∷ 6 ∷ 0 ∷ 3 ∷ 4
    ∷ 0 ∷ 1 ∷ 0 ∷ 0
    ∷ 0 ∷ 2 ∷ 0 ∷ 0
    ∷ 1 ∷ 0 ∷ 0 ∷ 0
    ∷ 0 ∷ 3 ∷ 0 ∷ 0
    ∷ []

-- both: left 1, right 2 + 3; the body is right's value
abbrev pub rightward : List ℕ
rightward =
    1 ∷ 0 ∷ 6
    ∷ 6 ∷ 0 ∷ 2 ∷ 5
    ∷ 0 ∷ 1 ∷ 0 ∷ 0
    ∷ 2 ∷ 0 ∷ 4 ∷ 0
    ∷ 0 ∷ 2 ∷ 0 ∷ 0
    ∷ 0 ∷ 3 ∷ 0 ∷ 0
    ∷ 1 ∷ 1 ∷ 0 ∷ 0
    ∷ []

-- a both in the left branch of a both in the left branch of a both; each body is left's value
abbrev nested : List ℕ
nested =
    1 ∷ 0 ∷ 10
    ∷ 6 ∷ 0 ∷ 8 ∷ 9
    ∷ 6 ∷ 0 ∷ 6 ∷ 7
    ∷ 6 ∷ 0 ∷ 4 ∷ 5
    ∷ 0 ∷ 1 ∷ 0 ∷ 0
    ∷ 0 ∷ 2 ∷ 0 ∷ 0
    ∷ 1 ∷ 0 ∷ 0 ∷ 0
    ∷ 0 ∷ 3 ∷ 0 ∷ 0
    ∷ 1 ∷ 0 ∷ 0 ∷ 0
    ∷ 0 ∷ 4 ∷ 0 ∷ 0
    ∷ 1 ∷ 0 ∷ 0 ∷ 0
    ∷ []

-- let 1: if it is not zero, let what function 1 gives: function 2 of it; else 0. Function 1 gives 7, function 2 its argument
abbrev chain : List ℕ
chain =
    3 ∷ 0 ∷ 9 ∷ 0 ∷ 1 ∷ 1 ∷ 1
    ∷ 4 ∷ 0 ∷ 2 ∷ 0
    ∷ 0 ∷ 1 ∷ 0 ∷ 0
    ∷ 3 ∷ 0 ∷ 4 ∷ 8
    ∷ 1 ∷ 0 ∷ 0 ∷ 0
    ∷ 4 ∷ 0 ∷ 6 ∷ 0
    ∷ 5 ∷ 1 ∷ 0 ∷ 0
    ∷ 5 ∷ 2 ∷ 0 ∷ 0
    ∷ 1 ∷ 1 ∷ 0 ∷ 0
    ∷ 0 ∷ 0 ∷ 0 ∷ 0
    ∷ 0 ∷ 7 ∷ 0 ∷ 0
    ∷ 1 ∷ 0 ∷ 0 ∷ 0
    ∷ []

-- a stop at the root of another function
abbrev stop_in : ℕ → ℕ → ℕ → ℕ → Answer
stop_in function number transitions deepest = stopped number (record { function = function; node = 0 }) transitions deepest

-- machine, table, arguments, fuel, N, τ, frames, answer
unfoldable pub stop_examples : List Row
stop_examples =
    -- "fuel, then a free frame": the fuel is spent and the only frame occupied, at a both; with more fuel it is the frame
    row sequential_of adding [] 1 3 2 1 (stop 20 1 1 1)
    ∷ row sequential_of adding [] 2 3 2 1 (stop 21 1 1 1)
    ∷ row heartbeat_of adding [] 1 3 2 1 (stop 20 1 1 1)
    -- "A parallel fork looks only for its free frame": with no frame it is 21 though the fuel is spent; with one it forks, and 20 is told in
    -- its left branch
    ∷ row parallel_of adding [] 1 3 2 1 (stop 21 1 1 1)
    ∷ row parallel_of adding [] 1 3 2 2 (stop 20 2 1 2)
    -- "The node is the one being evaluated": a local, an arithmetic, a constant, a both, a choose, a let, a call of arity 0, the called
    -- body, a call with an argument, its body
    ∷ row sequential_of (operation 0) (7 ∷ 2 ∷ []) 1 3 2 256 (stop 20 1 1 1)
    ∷ row sequential_of binding (3 ∷ []) 3 3 2 256 (stop 20 2 3 1)
    ∷ row sequential_of choice (1 ∷ []) 3 3 2 256 (stop 20 2 3 1)
    ∷ row sequential_of table_a [] 1 3 2 256 (stop 20 1 1 1)
    ∷ row sequential_of chain [] 3 3 2 256 (stop 20 2 3 1)
    ∷ row sequential_of chain [] 6 3 2 256 (stop 20 4 6 1)
    ∷ row sequential_of chain [] 7 3 2 256 (stop 20 5 7 1)
    ∷ row sequential_of chain [] 8 3 2 256 (stop_in 1 20 8 1)
    ∷ row sequential_of chain [] 10 3 2 256 (stop 20 6 10 1)
    ∷ row sequential_of chain [] 13 3 2 256 (stop_in 2 20 13 1)
    ∷ row sequential_of chain [] 14 3 2 256 (value 7 14 0 14 14 1)
    -- "or that of the frame the value returns to": an arithmetic awaiting its left operand, its right one; a choose, a let; a call at its
    -- first, second and last argument; a both awaiting left, right
    ∷ row sequential_of binding (3 ∷ []) 5 3 2 256 (stop 20 2 5 1)
    ∷ row sequential_of binding (3 ∷ []) 7 3 2 256 (stop 20 2 7 1)
    ∷ row sequential_of choice (1 ∷ []) 2 3 2 256 (stop 20 0 2 1)
    ∷ row sequential_of binding (3 ∷ []) 2 3 2 256 (stop 20 0 2 1)
    ∷ row sequential_of calling (3 ∷ 10 ∷ 0 ∷ []) 2 3 2 256 (stop 20 0 2 1)
    ∷ row sequential_of calling (3 ∷ 10 ∷ 0 ∷ []) 4 3 2 256 (stop 20 0 4 1)
    ∷ row sequential_of calling (3 ∷ 10 ∷ 0 ∷ []) 6 3 2 256 (stop 20 0 6 1)
    ∷ row sequential_of forking (5 ∷ []) 2 3 2 256 (stop 20 0 2 1)
    ∷ row sequential_of forking (5 ∷ []) 4 3 2 256 (stop 20 0 4 1)
    -- both arrivals at a promoted frame "take no transition": 20 is told at the right branch, and at the body
    ∷ row parallel_of forking (5 ∷ []) 1 3 2 256 (stop 20 2 1 1)
    ∷ row parallel_of forking (5 ∷ []) 2 3 2 256 (stop 20 3 2 1)
    -- a promotion that is due comes before fuel, and "After a promotion the state is looked at afresh": with N 2 the left value returns to a
    -- frame that is promoted with the fuel spent, so that 20 is told at the right branch; with N 3 it is not due
    ∷ row heartbeat_of forking (5 ∷ []) 2 3 2 256 (stop 20 0 2 1)
    ∷ row heartbeat_of forking (5 ∷ []) 2 2 2 256 (stop 20 2 2 1)
    ∷ row heartbeat_of forking (5 ∷ []) 1 1 2 256 (stop 20 1 1 1)
    -- "the promoted frame stays occupied until its join": no frame is free for the left branch, nor for the right one; the body has it
    ∷ row heartbeat_of table_a [] 100 1 2 1 (stop 21 1 1 1)
    ∷ row heartbeat_of rightward [] 100 2 2 1 (stop 21 2 2 1)
    ∷ row parallel_of rightward [] 100 3 2 1 (stop 21 2 1 1)
    ∷ row sequential_of rightward [] 100 3 2 1 (stop 21 2 3 1)
    ∷ row heartbeat_of forking (5 ∷ []) 100 2 2 1 (value 4 8 1 10 10 1)
    ∷ row parallel_of forking (5 ∷ []) 100 3 2 1 (value 4 7 1 9 8 1)
    -- promotions in a row, the oldest first and N transitions apart: with N 2 at the second and the fourth transition, and the innermost both
    -- is not promoted; with N 1 each before its left branch begins
    ∷ row sequential_of nested [] 100 2 1 256 (value 1 16 0 16 16 3)
    ∷ row heartbeat_of nested [] 100 2 1 256 (value 1 12 2 14 12 3)
    ∷ row heartbeat_of nested [] 100 1 1 256 (value 1 10 3 13 10 3)
    -- credits rise with nothing to promote: a both that opens with N of them is promoted before its left branch begins
    ∷ row heartbeat_of adding [] 100 2 2 256 (value 4 8 1 10 9 2)
    ∷ []

abbrev pub StopExampleRuns : Type 0
StopExampleRuns = answered stop_examples ≡ told stop_examples
