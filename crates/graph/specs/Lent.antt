-- A RUN WITH A BUFFER LENT (02, P1): how it ends, the number of words, and the buffer afterwards, by the run's end without one, its graph and the number
-- of words lent. A refused call is no run, and "leaves the buffer as found".
use Rattle.std.specs.Prelude.{ℕ, ◌-◌, cond, List, ◌++◌, leb, length, replicate}
use Rattle.schedule.specs.Graph.{Graph}
use Rattle.schedule.specs.FrameMachine.{Place}
use Rattle.schedule.specs.Machine.{Ending, value, stop}
use Rattle.graph.specs.Words.{written}

-- Function 0 and node 0.
abbrev pub nowhere : Place
nowhere = record { function = 0; node = 0 }

-- 02: "Stopped: 25, with function 0, node 0 and the run's transitions, where a run ends in a value and its graph needs more words than lent; it
-- comes after every other stop."
unfoldable pub ending_with : (lent : ℕ) → Ending → Graph → Ending
ending_with lent (value v) g = cond (leb (length (written g)) lent) (value v) (stop 25 nowhere)
ending_with lent (stop i p) g = stop i p

-- 02: "The answer also gives the number of words written." After a stop, 25 too, it is 0.
unfoldable pub words_told : Ending → Graph → ℕ
words_told (value v) g = length (written g)
words_told (stop i p) g = 0

-- 02: "The words after the graph are zero, and all are zero after a stop."
unfoldable pub left_in : (lent : ℕ) → Ending → Graph → List ℕ
left_in lent (value v) g = written g ++ replicate (lent - length (written g)) 0
left_in lent (stop i p) g = replicate lent 0
