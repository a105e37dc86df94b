-- Stops of the three machines beside one another (02, P12): where the sequential run stops with 21 to 24 they agree, and their transitions differ; where
-- it stops with 20 nothing need be alike. Runs worked by hand. Proved in proofs/Settled.antt, `agreement_worked`, `not_at_20` and `not_equal`.
use Rattle.std.specs.Prelude.{ℕ, ◌≤◌, ◌≡◌, List, [], ◌∷◌, ◌++◌}
use Rattle.language.specs.declared.Stop.{Stop}
use Rattle.language.specs.declared.Answer.{Answer}
use Rattle.language.specs.declared.Answer.TheVariants.{Stopped}
use Rattle.language.specs.Answers.{Machine, stopped, sequential_of, parallel_of, heartbeat_of}
use Rattle.language.specs.Claim.{SameStop}
use Rattle.language.specs.Settled.{Row, row, value, stop, table_a, answered, told}
use Rattle.language.specs.Examples.{operation}
use Rattle.language.specs.ExampleStops.{adding}

-- both: the two arguments; the body is an operation on them
abbrev pub joined : ℕ → List ℕ
joined o =
    1 ∷ 2 ∷ 6
    ∷ 6 ∷ 0 ∷ 2 ∷ 3
    ∷ 1 ∷ 0 ∷ 0 ∷ 0
    ∷ 1 ∷ 1 ∷ 0 ∷ 0
    ∷ 2 ∷ o ∷ 5 ∷ 0
    ∷ 1 ∷ 2 ∷ 0 ∷ 0
    ∷ 1 ∷ 3 ∷ 0 ∷ 0
    ∷ []

-- both: 1 and 2; the body is left's value + (left's value + right's)
abbrev joined_twice : List ℕ
joined_twice =
    1 ∷ 0 ∷ 8
    ∷ 6 ∷ 0 ∷ 2 ∷ 3
    ∷ 0 ∷ 1 ∷ 0 ∷ 0
    ∷ 0 ∷ 2 ∷ 0 ∷ 0
    ∷ 2 ∷ 0 ∷ 5 ∷ 0
    ∷ 1 ∷ 0 ∷ 0 ∷ 0
    ∷ 2 ∷ 0 ∷ 7 ∷ 0
    ∷ 1 ∷ 0 ∷ 0 ∷ 0
    ∷ 1 ∷ 1 ∷ 0 ∷ 0
    ∷ []

-- both: left 1, right function 1 of the argument; the body is left's value. Function 1 divides 7 by its argument
abbrev dividing : List ℕ
dividing =
    2 ∷ 1 ∷ 5 ∷ 1 ∷ 3
    ∷ 6 ∷ 0 ∷ 2 ∷ 4
    ∷ 0 ∷ 1 ∷ 0 ∷ 0
    ∷ 5 ∷ 1 ∷ 0 ∷ 0
    ∷ 1 ∷ 0 ∷ 0 ∷ 0
    ∷ 1 ∷ 1 ∷ 0 ∷ 0
    ∷ 2 ∷ 3 ∷ 2 ∷ 0
    ∷ 0 ∷ 7 ∷ 0 ∷ 0
    ∷ 1 ∷ 0 ∷ 0 ∷ 0
    ∷ []

-- one input and the answers of the sequential, the parallel and the heartbeat machine
abbrev three : List ℕ → List ℕ → ℕ → ℕ → ℕ → ℕ → Answer → Answer → Answer → List Row
three table arguments fuel N τ frames s p h =
    row sequential_of table arguments fuel N τ frames s
    ∷ row parallel_of table arguments fuel N τ frames p
    ∷ row heartbeat_of table arguments fuel N τ frames h
    ∷ []

-- a stop at the root of function 1
abbrev in_function1 : ℕ → ℕ → ℕ → Answer
in_function1 number transitions deepest = stopped number (record { function = 1; node = 0 }) transitions deepest

-- table, arguments, fuel, N, τ, frames, the three answers
unfoldable pub agreement_examples : List Row
agreement_examples =
    -- a 21, 22, 23 and 24 in the body of a both. The heartbeat is spared both arrivals at the promoted frame, the parallel machine its opening too
    three joined_twice [] 100 1 2 1 (stop 21 5 8 1) (stop 21 5 5 1) (stop 21 5 6 1)
    ++ three (joined 0) (18446744073709551615 ∷ 1 ∷ []) 100 1 2 256 (stop 22 3 9 1) (stop 22 3 6 1) (stop 22 3 7 1)
    ++ three (joined 1) (0 ∷ 1 ∷ []) 100 1 2 256 (stop 23 3 9 1) (stop 23 3 6 1) (stop 23 3 7 1)
    ++ three (joined 3) (7 ∷ 0 ∷ []) 100 1 2 256 (stop 24 3 9 1) (stop 24 3 6 1) (stop 24 3 7 1)
    -- in the right branch, in another function, one arrival is behind
    ++ three dividing (0 ∷ []) 100 1 2 256 (in_function1 24 10 2) (in_function1 24 8 2) (in_function1 24 9 2)
    -- "may be fewer": with a large N the heartbeat's are the sequential ones, and without a both all are
    ++ three (joined 1) (0 ∷ 1 ∷ []) 100 10000 2 256 (stop 23 3 9 1) (stop 23 3 6 1) (stop 23 3 9 1)
    ++ three (operation 3) (7 ∷ 0 ∷ []) 100 1 2 256 (stop 24 0 4 1) (stop 24 0 4 1) (stop 24 0 4 1)
    -- a 20 where the others go on to a value; and where they stop with another number, the fuel being that of the sequential transitions above
    ++ three table_a [] 10 3 2 256 (stop 20 6 10 2) (value 4 5 2 9 7 2) (value 4 9 1 11 10 2)
    ++ three joined_twice [] 8 1 2 1 (stop 20 5 8 1) (stop 21 5 5 1) (stop 21 5 6 1)
    ++ three (joined 0) (18446744073709551615 ∷ 1 ∷ []) 9 1 2 256 (stop 20 3 9 1) (stop 22 3 6 1) (stop 22 3 7 1)
    ++ three (joined 1) (0 ∷ 1 ∷ []) 9 1 2 256 (stop 20 3 9 1) (stop 23 3 6 1) (stop 23 3 7 1)
    ++ three (joined 3) (7 ∷ 0 ∷ []) 9 1 2 256 (stop 20 3 9 1) (stop 24 3 6 1) (stop 24 3 7 1)
    -- one more of fuel, and they agree
    ++ three (joined 1) (0 ∷ 1 ∷ []) 10 1 2 256 (stop 23 3 9 1) (stop 23 3 6 1) (stop 23 3 7 1)
    -- a 20 of two machines and a value of the third; a 20 of all three, at three places; and with another depth
    ++ three table_a [] 8 3 2 256 (stop 20 5 8 2) (value 4 5 2 9 7 2) (stop 20 6 8 2)
    ++ three table_a [] 4 1 2 256 (stop 20 3 4 2) (stop 20 6 4 2) (stop 20 4 4 2)
    ++ three adding [] 1 3 2 2 (stop 20 1 1 1) (stop 20 2 1 2) (stop 20 1 1 1)

abbrev pub AgreementExampleRuns : Type 0
AgreementExampleRuns = answered agreement_examples ≡ told agreement_examples

-- The claim of a machine, were it extended to 20; and were "never more" "equal".
abbrev pub AtStop20 : Machine → Type 0
AtStop20 machine = (w arguments : List ℕ) (fuel N τ workspace : ℕ) (s : Stop) → sequential_of w arguments fuel N τ workspace ≡ Stopped s
    → s.number ≡ 20 → SameStop s (machine w arguments fuel N τ workspace)

abbrev pub EqualTransitions : Machine → Type 0
EqualTransitions machine = (w arguments : List ℕ) (fuel N τ workspace : ℕ) (s other : Stop) → sequential_of w arguments fuel N τ workspace ≡ Stopped s
    → 21 ≤ s.number → s.number ≤ 24 → machine w arguments fuel N τ workspace ≡ Stopped other → other.transitions ≡ s.transitions

-- THEOREMS (`not_at_20`, `not_equal`): both are false, of either machine.
abbrev pub NotAt20 : Type 0
NotAt20 = (AtStop20 parallel_of → ⊥) × (AtStop20 heartbeat_of → ⊥)

abbrev pub NotEqual : Type 0
NotEqual = (EqualTransitions parallel_of → ⊥) × (EqualTransitions heartbeat_of → ⊥)
