-- A node by its four words: 01's table of tags, and its list of operations.
use Rattle.std.specs.Prelude.{◌≡◌, ℕ, ◌+◌, ◌*◌, List, [], ◌∷◌, get_or, slice_get, Option, Some, None, Result, MatchResult}
use Rattle.std.specs.Option.{option_map_or}
use Rattle.table.specs.declared.Operation.{Operation}
use Rattle.table.specs.declared.UnknownOperation.{UnknownOperation}
use Rattle.table.specs.declared.Operation.TheVariants.{Add, Subtract, Multiply, Divide, Remainder, Less, Equal}
use Rattle.table.specs.declared.Node.{Node}
use Rattle.table.specs.declared.Node.TheVariants.{Constant, Local, Arithmetic, Choose, Let, Call, Both, Unknown}
use Rattle.table.specs.Words.{tag_at, a_at, b_at, c_at}

-- "Operations: 0 add, 1 subtract, 2 multiply, 3 divide, 4 remainder, 5 less, 6 equal", by number
abbrev pub operations : List Operation
operations = Add ∷ Subtract ∷ Multiply ∷ Divide ∷ Remainder ∷ Less ∷ Equal ∷ []

abbrev pub operation_of : ℕ → Option Operation
operation_of number = slice_get operations number

-- what a number is read as: its operation, or itself where it is of none
abbrev pub Decodes : ℕ → Result Operation UnknownOperation → Type 0
Decodes number r = MatchResult r (λ o. operation_of number ≡ Some o) (λ e. (operation_of number ≡ None) × (e.0 ≡ number))

-- b is the second operand's position
unfoldable pub arithmetic_of : ℕ → ℕ → Node
arithmetic_of operation b = option_map_or (λ o. Arithmetic o b) (operation_of operation) Unknown

-- the table of tags, by tag: constant, "a low and b high 32 bits"; local, "a = slot"; arithmetic, "a = operation"; choose; let;
-- call, "a = function"; both
abbrev pub tags : ℕ → ℕ → ℕ → List Node
tags a b c =
    Constant (a + 4294967296 * b)
    ∷ Local a
    ∷ arithmetic_of a b
    ∷ Choose b c
    ∷ Let b
    ∷ Call a b c
    ∷ Both b c
    ∷ []

unfoldable pub node_of : ℕ → ℕ → ℕ → ℕ → Node
node_of tag a b c = get_or (tags a b c) tag Unknown

abbrev pub node_at : List ℕ → ℕ → ℕ → Node
node_at w s p = node_of (tag_at w s p) (a_at w s p) (b_at w s p) (c_at w s p)
