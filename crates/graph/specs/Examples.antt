-- SMALL GRAPHS WRITTEN OUT, and what a buffer holds after their runs (02, P1), worked by hand from its sentences. Proved in proofs/Examples.antt.
use Rattle.std.specs.Prelude.{ℕ, zero, suc, ◌≡◌, List, [], ◌∷◌}
use Rattle.schedule.specs.Graph.{Graph, empty, transition, fork}
use Rattle.schedule.specs.Machine.{Ending, value, stop}
use Rattle.graph.specs.Words.{written}
use Rattle.graph.specs.Lent.{nowhere, ending_with, words_told, left_in}

-- So many transitions.
unfoldable pub chain : ℕ → Graph
chain zero = empty
chain (suc k) = transition (chain k)

-- Table A's graph on heartbeat with N 3, and on parallel (crate graph_answers, specs/Examples.antt, has those runs).
abbrev beating : Graph
beating = transition (fork (chain 3) (chain 4) (chain 1))

abbrev paralleled : Graph
paralleled = transition (fork empty (transition (fork empty (chain 1) (chain 1))) (chain 1))

-- A graph and its words.
pub record Row : Type 0 where
  pub graph : Graph
  pub words : List ℕ

abbrev row : Graph → List ℕ → Row
row g ws = record { graph = g; words = ws }

unfoldable pub examples : List Row
examples =
    -- "Table A on heartbeat with N 3 gives 0 3 1 2 2 0 4 0 1 0 1."
    row beating (0 ∷ 3 ∷ 1 ∷ 2 ∷ 2 ∷ 0 ∷ 4 ∷ 0 ∷ 1 ∷ 0 ∷ 1 ∷ [])
    ∷ row paralleled (1 ∷ 9 ∷ 2 ∷ 1 ∷ 2 ∷ 2 ∷ 0 ∷ 1 ∷ 0 ∷ 1 ∷ 0 ∷ 1 ∷ 0 ∷ 1 ∷ 0 ∷ 1 ∷ [])
    -- no transition, and one stretch
    ∷ row empty []
    ∷ row (chain 11) (0 ∷ 11 ∷ [])
    -- a branch without transitions, and forks with none between them
    ∷ row (fork (chain 2) empty (chain 1)) (0 ∷ 2 ∷ 1 ∷ 0 ∷ 2 ∷ 0 ∷ 1 ∷ [])
    ∷ row (fork (fork empty (chain 1) empty) empty (chain 1)) (1 ∷ 2 ∷ 0 ∷ 0 ∷ 1 ∷ 1 ∷ 0 ∷ 2 ∷ 0 ∷ 1 ∷ [])
    ∷ []

-- A buffer's length, the end without it, and with it: the end, the number of words, the buffer. The graph is table A's on heartbeat, of 11 words.
pub record LentRow : Type 0 where
  pub lent : ℕ
  pub without : Ending
  pub with_it : Ending
  pub words : ℕ
  pub left : List ℕ

abbrev lent_row : ℕ → Ending → Ending → ℕ → List ℕ → LentRow
lent_row lent without with_it words left = record { lent = lent; without = without; with_it = with_it; words = words; left = left }

unfoldable pub lent_examples : List LentRow
lent_examples =
    -- it just fits; "The words after the graph are zero"
    lent_row 11 (value 4) (value 4) 11 (0 ∷ 3 ∷ 1 ∷ 2 ∷ 2 ∷ 0 ∷ 4 ∷ 0 ∷ 1 ∷ 0 ∷ 1 ∷ [])
    ∷ lent_row 13 (value 4) (value 4) 11 (0 ∷ 3 ∷ 1 ∷ 2 ∷ 2 ∷ 0 ∷ 4 ∷ 0 ∷ 1 ∷ 0 ∷ 1 ∷ 0 ∷ 0 ∷ [])
    -- "Stopped: 25"; "all are zero after a stop"
    ∷ lent_row 10 (value 4) (stop 25 nowhere) 0 (0 ∷ 0 ∷ 0 ∷ 0 ∷ 0 ∷ 0 ∷ 0 ∷ 0 ∷ 0 ∷ 0 ∷ [])
    ∷ lent_row 0 (value 4) (stop 25 nowhere) 0 []
    -- "it comes after every other stop"
    ∷ lent_row 3 (stop 20 nowhere) (stop 20 nowhere) 0 (0 ∷ 0 ∷ 0 ∷ [])
    ∷ lent_row 12 (stop 23 nowhere) (stop 23 nowhere) 0 (0 ∷ 0 ∷ 0 ∷ 0 ∷ 0 ∷ 0 ∷ 0 ∷ 0 ∷ 0 ∷ 0 ∷ 0 ∷ 0 ∷ [])
    ∷ []

-- What the definitions give, row by row.
unfoldable pub computed : List Row → List Row
computed [] = []
computed (r ∷ rest) = row r.graph (written r.graph) ∷ computed rest

abbrev lent_again : LentRow → Ending → LentRow
lent_again r z = lent_row r.lent r.without z (words_told z beating) (left_in r.lent z beating)

unfoldable pub computed_lent : List LentRow → List LentRow
computed_lent [] = []
computed_lent (r ∷ rest) = lent_again r (ending_with r.lent r.without beating) ∷ computed_lent rest

-- THEOREMS (proofs/Examples.antt, `worked` and `lent_worked`).
abbrev pub Worked : Type 0
Worked = computed examples ≡ examples

abbrev pub LentWorked : Type 0
LentWorked = computed_lent lent_examples ≡ lent_examples
