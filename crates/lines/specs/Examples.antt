-- Lines of the breadth, worked out by hand, as rows of one table. That each is what the definitions write is proved in proofs/Examples.antt, `written`.
use Rattle.std.specs.Prelude.{ℕ, ◌≡◌, List, [], ◌∷◌}
use Prim.Native.String.{String}
use Rattle.lines.specs.Lines.{ascii, breadth_of, quotient_line}

-- A sequential work, a parallel span, and the line of their quotient.
pub record Row : Type 0 where
  pub work : ℕ
  pub span : ℕ
  pub line : String

unfoldable pub rows : List Row
rows =
    -- 02, P6: "Table A in the settled run then prints `breadth 1.57`": 1.571 and more
    record { work = 11; span = 7; line = "breadth 1.57\n" }
    -- "rounded down": 66.666 and more, and 1.999
    ∷ record { work = 200; span = 3; line = "breadth 66.66\n" }
    ∷ record { work = 1999; span = 1000; line = "breadth 1.99\n" }
    -- "with two decimals", zeros among them
    ∷ record { work = 21; span = 20; line = "breadth 1.05\n" }
    ∷ record { work = 3; span = 2; line = "breadth 1.50\n" }
    ∷ record { work = 12; span = 1; line = "breadth 12.00\n" }
    ∷ record { work = 100000000; span = 1; line = "breadth 100000000.00\n" }
    -- 1, and the next below it; less than a tenth, and than a hundredth
    ∷ record { work = 5; span = 5; line = "breadth 1.00\n" }
    ∷ record { work = 100; span = 101; line = "breadth 0.99\n" }
    ∷ record { work = 7; span = 100; line = "breadth 0.07\n" }
    ∷ record { work = 1; span = 101; line = "breadth 0.00\n" }
    -- a span of 0, which no value has
    ∷ record { work = 11; span = 0; line = "breadth 0.00\n" }
    ∷ []

-- What the definitions write, row by row, and what the rows tell.
unfoldable pub quotients : List Row → List (List ℕ)
quotients [] = []
quotients (r ∷ rest) = quotient_line (breadth_of r.work r.span) ∷ quotients rest

unfoldable pub told : List Row → List (List ℕ)
told [] = []
told (r ∷ rest) = ascii r.line ∷ told rest

-- THE CLAIM (proofs/Examples.antt, `written`)
abbrev pub ExampleBreadths : Type 0
ExampleBreadths = quotients rows ≡ told rows
