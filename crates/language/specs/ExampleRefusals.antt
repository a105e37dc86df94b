-- The refusals, 1 to 11 and 16 to 18: inputs worked by hand from document 01, "Turned away by the input", and from P4 of document 02. Proved
-- in proofs/Settled.antt, `refusals_worked`.
use Rattle.std.specs.Prelude.{ℕ, zero, suc, ◌+◌, ◌≡◌, List, [], ◌∷◌}
use Rattle.language.specs.declared.Answer.{Answer}
use Rattle.language.specs.declared.Answer.TheVariants.{Refused}
use Rattle.language.specs.Answers.{sequential_of}
use Rattle.language.specs.Settled.{Row, row, table_a, answered, told}

abbrev refused_at : ℕ → ℕ → ℕ → Answer
refused_at number function node = Refused (record { number = number; function = function; node = node })

-- "The answer is the number with function and node, both 0 for 1, 3 and 7 to 11"
abbrev refused : ℕ → Answer
refused number = refused_at number 0 0

-- so many lets, each the first child of the one before, and what follows: where the walk comes to it no second child has been looked for
unfoldable pub lets : ℕ → List ℕ → List ℕ
lets zero rest = rest
lets (suc n) rest = 4 ∷ 0 ∷ 0 ∷ 0 ∷ lets n rest

-- so many lets, each the second child of the one before, of which the first stands at a position, and what follows, with as many locals bound
unfoldable pub bindings : ℕ → ℕ → List ℕ → List ℕ
bindings zero at rest = rest
bindings (suc n) at rest = 4 ∷ 0 ∷ (at + 2) ∷ 0 ∷ 0 ∷ 1 ∷ 0 ∷ 0 ∷ bindings n (at + 2) rest

-- one function, of arity 0, with so many nodes
abbrev function : ℕ → List ℕ → List ℕ
function nodes body = 1 ∷ 0 ∷ nodes ∷ body

-- a table with no arguments, and with the faults of 7 to 11 too: "Numbers are tried in rising order"
abbrev at_fault : List ℕ → Answer → Row
at_fault table answer = row sequential_of table (1 ∷ []) 0 0 0 0 answer

-- machine, table, arguments, fuel, N, τ, frames, answer
unfoldable pub refusal_examples : List Row
refusal_examples =
    -- "No word, F not 1 to 64, or fewer than 1 + 2F words."
    at_fault [] (refused 1)
    ∷ at_fault (0 ∷ []) (refused 1)
    ∷ at_fault (65 ∷ []) (refused 1)
    ∷ at_fault (2 ∷ 0 ∷ 1 ∷ 0 ∷ []) (refused 1)
    -- "Arity above 3, node count 0, or a running sum of nodes above 4,000.", with "the function of the first bad entry, node 0"
    ∷ at_fault (2 ∷ 0 ∷ 1 ∷ 4 ∷ 1 ∷ []) (refused_at 2 1 0)
    ∷ at_fault (2 ∷ 0 ∷ 1 ∷ 0 ∷ 0 ∷ []) (refused_at 2 1 0)
    ∷ at_fault (2 ∷ 0 ∷ 4000 ∷ 0 ∷ 1 ∷ []) (refused_at 2 1 0)
    -- "Length not exact."
    ∷ at_fault (1 ∷ 0 ∷ 4000 ∷ []) (refused 3)
    ∷ at_fault (function 1 (0 ∷ 0 ∷ 0 ∷ 0 ∷ 0 ∷ [])) (refused 3)
    -- "Number 4 is left for an unknown tag, operation or function"
    ∷ at_fault (function 3 (2 ∷ 0 ∷ 2 ∷ 0 ∷ 0 ∷ 1 ∷ 0 ∷ 0 ∷ 7 ∷ 0 ∷ 0 ∷ 0 ∷ [])) (refused_at 4 0 2)
    ∷ at_fault (function 3 (2 ∷ 7 ∷ 2 ∷ 0 ∷ 0 ∷ 1 ∷ 0 ∷ 0 ∷ 0 ∷ 1 ∷ 0 ∷ 0 ∷ [])) (refused_at 4 0 0)
    ∷ at_fault (function 1 (5 ∷ 1 ∷ 0 ∷ 0 ∷ [])) (refused_at 4 0 0)
    -- "16, an unused word that is not 0": at a constant, a local, an arithmetic, a choose, a let, a call and a both
    ∷ at_fault (function 1 (0 ∷ 0 ∷ 0 ∷ 1 ∷ [])) (refused_at 16 0 0)
    ∷ at_fault (1 ∷ 1 ∷ 1 ∷ 1 ∷ 0 ∷ 1 ∷ 0 ∷ []) (refused_at 16 0 0)
    ∷ at_fault (function 3 (2 ∷ 0 ∷ 2 ∷ 1 ∷ 0 ∷ 1 ∷ 0 ∷ 0 ∷ 0 ∷ 1 ∷ 0 ∷ 0 ∷ [])) (refused_at 16 0 0)
    ∷ at_fault (function 2 (3 ∷ 1 ∷ 2 ∷ 3 ∷ 0 ∷ 1 ∷ 0 ∷ 0 ∷ [])) (refused_at 16 0 0)
    ∷ at_fault (function 2 (4 ∷ 0 ∷ 2 ∷ 1 ∷ 0 ∷ 1 ∷ 0 ∷ 0 ∷ [])) (refused_at 16 0 0)
    ∷ at_fault (1 ∷ 2 ∷ 3 ∷ 5 ∷ 0 ∷ 2 ∷ 1 ∷ 1 ∷ 0 ∷ 0 ∷ 0 ∷ 1 ∷ 1 ∷ 0 ∷ 0 ∷ []) (refused_at 16 0 0)
    ∷ at_fault (function 2 (6 ∷ 1 ∷ 2 ∷ 3 ∷ 0 ∷ 1 ∷ 0 ∷ 0 ∷ [])) (refused_at 16 0 0)
    -- "17, a wrong child position", "found when b or c is compared" and told at the parent; a fault in the child before it is met first
    ∷ at_fault (function 3 (2 ∷ 0 ∷ 1 ∷ 0 ∷ 0 ∷ 1 ∷ 0 ∷ 0 ∷ 0 ∷ 1 ∷ 0 ∷ 0 ∷ [])) (refused_at 17 0 0)
    ∷ at_fault (function 3 (2 ∷ 0 ∷ 1 ∷ 0 ∷ 1 ∷ 0 ∷ 0 ∷ 0 ∷ 0 ∷ 1 ∷ 0 ∷ 0 ∷ [])) (refused_at 5 0 1)
    ∷ at_fault (function 4 (3 ∷ 0 ∷ 2 ∷ 4 ∷ 0 ∷ 1 ∷ 0 ∷ 0 ∷ 0 ∷ 1 ∷ 0 ∷ 0 ∷ 0 ∷ 1 ∷ 0 ∷ 0 ∷ [])) (refused_at 17 0 0)
    -- "18, a body that ends early or runs on", told at that position; a wrong position is found before the child that is not there, and before
    -- "the running on after the root"
    ∷ at_fault (function 1 (2 ∷ 0 ∷ 2 ∷ 0 ∷ [])) (refused_at 18 0 1)
    ∷ at_fault (function 2 (0 ∷ 1 ∷ 0 ∷ 0 ∷ 0 ∷ 1 ∷ 0 ∷ 0 ∷ [])) (refused_at 18 0 1)
    ∷ at_fault (function 2 (2 ∷ 0 ∷ 5 ∷ 0 ∷ 0 ∷ 1 ∷ 0 ∷ 0 ∷ [])) (refused_at 17 0 0)
    ∷ at_fault (function 4 (2 ∷ 0 ∷ 3 ∷ 0 ∷ 0 ∷ 1 ∷ 0 ∷ 0 ∷ 0 ∷ 1 ∷ 0 ∷ 0 ∷ 0 ∷ 1 ∷ 0 ∷ 0 ∷ [])) (refused_at 17 0 0)
    -- "A slot not bound; a let or both that would bind more than 16 locals"; the second child of a let has one more
    ∷ at_fault (function 1 (1 ∷ 0 ∷ 0 ∷ 0 ∷ [])) (refused_at 5 0 0)
    ∷ at_fault (function 3 (4 ∷ 0 ∷ 2 ∷ 0 ∷ 0 ∷ 1 ∷ 0 ∷ 0 ∷ 1 ∷ 1 ∷ 0 ∷ 0 ∷ [])) (refused_at 5 0 2)
    ∷ at_fault (function 33 (bindings 16 0 (4 ∷ 0 ∷ 34 ∷ 0 ∷ []))) (refused_at 5 0 32)
    ∷ at_fault (function 31 (bindings 15 0 (6 ∷ 0 ∷ 32 ∷ 33 ∷ []))) (refused_at 5 0 30)
    -- "Level above 64.": the lets are levels 1 to 64
    ∷ at_fault (function 65 (lets 64 (0 ∷ 0 ∷ 0 ∷ 0 ∷ []))) (refused_at 6 0 64)
    -- "At a node an early end is found first, then 4, 16, 5 and 6": where the body ends another's node stands, with an unknown tag, an unused
    -- word or a slot that is not bound; or level 65 begins
    ∷ at_fault (2 ∷ 0 ∷ 1 ∷ 0 ∷ 1 ∷ 2 ∷ 0 ∷ 2 ∷ 0 ∷ 7 ∷ 0 ∷ 0 ∷ 0 ∷ []) (refused_at 18 0 1)
    ∷ at_fault (2 ∷ 0 ∷ 1 ∷ 0 ∷ 1 ∷ 2 ∷ 0 ∷ 2 ∷ 0 ∷ 0 ∷ 0 ∷ 0 ∷ 1 ∷ []) (refused_at 18 0 1)
    ∷ at_fault (2 ∷ 0 ∷ 1 ∷ 0 ∷ 1 ∷ 2 ∷ 0 ∷ 2 ∷ 0 ∷ 1 ∷ 0 ∷ 0 ∷ 0 ∷ []) (refused_at 18 0 1)
    ∷ at_fault (function 64 (lets 64 [])) (refused_at 18 0 64)
    -- 4 before 16: the unused c of an arithmetic whose operation is unknown, and the words of a call of no function, which it hides
    ∷ at_fault (function 3 (2 ∷ 7 ∷ 2 ∷ 1 ∷ 0 ∷ 1 ∷ 0 ∷ 0 ∷ 0 ∷ 1 ∷ 0 ∷ 0 ∷ [])) (refused_at 4 0 0)
    ∷ at_fault (function 1 (5 ∷ 1 ∷ 1 ∷ 1 ∷ [])) (refused_at 4 0 0)
    -- 16 before 5, and 4, 16 and 5 before 6
    ∷ at_fault (function 1 (1 ∷ 0 ∷ 1 ∷ 0 ∷ [])) (refused_at 16 0 0)
    ∷ at_fault (function 65 (lets 64 (7 ∷ 0 ∷ 0 ∷ 0 ∷ []))) (refused_at 4 0 64)
    ∷ at_fault (function 65 (lets 64 (0 ∷ 0 ∷ 0 ∷ 1 ∷ []))) (refused_at 16 0 64)
    ∷ at_fault (function 65 (lets 64 (1 ∷ 0 ∷ 0 ∷ 0 ∷ []))) (refused_at 5 0 64)
    -- 4, 16, 5 and 6 before 17: a wrong b is compared after the first child
    ∷ at_fault (function 3 (2 ∷ 7 ∷ 9 ∷ 0 ∷ 0 ∷ 1 ∷ 0 ∷ 0 ∷ 0 ∷ 1 ∷ 0 ∷ 0 ∷ [])) (refused_at 4 0 0)
    ∷ at_fault (function 3 (2 ∷ 0 ∷ 9 ∷ 1 ∷ 0 ∷ 1 ∷ 0 ∷ 0 ∷ 0 ∷ 1 ∷ 0 ∷ 0 ∷ [])) (refused_at 16 0 0)
    ∷ at_fault (function 35 (bindings 16 0 (4 ∷ 0 ∷ 9 ∷ 0 ∷ 0 ∷ 1 ∷ 0 ∷ 0 ∷ 0 ∷ 1 ∷ 0 ∷ 0 ∷ []))) (refused_at 5 0 32)
    ∷ at_fault (function 66 (lets 65 (0 ∷ 0 ∷ 0 ∷ 0 ∷ []))) (refused_at 6 0 64)
    -- 7 to 11, each with the faults of the higher numbers
    ∷ at_fault table_a (refused 7)
    ∷ row sequential_of table_a [] 0 0 0 0 (refused 8)
    ∷ row sequential_of table_a [] 100000001 0 0 0 (refused 8)
    ∷ row sequential_of table_a [] 100000000 0 0 0 (refused 9)
    ∷ row sequential_of table_a [] 100 10001 0 0 (refused 9)
    ∷ row sequential_of table_a [] 100 10000 0 0 (refused 10)
    ∷ row sequential_of table_a [] 100 3 10001 0 (refused 10)
    ∷ row sequential_of table_a [] 100 3 10000 0 (refused 11)
    ∷ row sequential_of table_a [] 100 3 2 4097 (refused 11)
    ∷ []

abbrev pub RefusalExampleRuns : Type 0
RefusalExampleRuns = answered refusal_examples ≡ told refusal_examples
