-- The report that document 01 prints, and further ones worked out by hand, as rows of one table. That each is what the definitions write is
-- proved in proofs/Examples.antt, `written`.
use Rattle.std.specs.Prelude.{ℕ, ◌/◌, ◌%◌, ◌≡◌, List, [], ◌∷◌, ◌++◌}
use Prim.Native.String.{String}
use Rattle.language.specs.Settled.{table_a, endless}
use Rattle.lines.specs.Lines.{ascii}
use Rattle.report.specs.Report.{report_of}

-- An input's bytes, and the report on it.
pub record Row : Type 0 where
  pub input : List ℕ
  pub report : String

-- "low byte first"
unfoldable pub bytes_of : List ℕ → List ℕ
bytes_of [] = []
bytes_of (n ∷ w) = (n % 256) ∷ (n / 256 % 256) ∷ (n / 65536 % 256) ∷ (n / 16777216) ∷ bytes_of w

-- a function of two arguments that gives one of them
unfoldable pub local : ℕ → List ℕ
local slot =
    1 ∷ 2 ∷ 1
    ∷ 1 ∷ slot ∷ 0 ∷ 0
    ∷ []

-- a both whose left takes 22 transitions (seven lets around a constant), whose right takes 13 (four), and whose body takes 1 (left's value)
unfoldable pub long : List ℕ
long =
    1 ∷ 0 ∷ 26
    ∷ 6 ∷ 0 ∷ 16 ∷ 25
    ∷ 4 ∷ 0 ∷ 3 ∷ 0 ∷ 0 ∷ 1 ∷ 0 ∷ 0
    ∷ 4 ∷ 0 ∷ 5 ∷ 0 ∷ 0 ∷ 1 ∷ 0 ∷ 0
    ∷ 4 ∷ 0 ∷ 7 ∷ 0 ∷ 0 ∷ 1 ∷ 0 ∷ 0
    ∷ 4 ∷ 0 ∷ 9 ∷ 0 ∷ 0 ∷ 1 ∷ 0 ∷ 0
    ∷ 4 ∷ 0 ∷ 11 ∷ 0 ∷ 0 ∷ 1 ∷ 0 ∷ 0
    ∷ 4 ∷ 0 ∷ 13 ∷ 0 ∷ 0 ∷ 1 ∷ 0 ∷ 0
    ∷ 4 ∷ 0 ∷ 15 ∷ 0 ∷ 0 ∷ 1 ∷ 0 ∷ 0
    ∷ 0 ∷ 6 ∷ 0 ∷ 0
    ∷ 4 ∷ 0 ∷ 18 ∷ 0 ∷ 0 ∷ 1 ∷ 0 ∷ 0
    ∷ 4 ∷ 0 ∷ 20 ∷ 0 ∷ 0 ∷ 1 ∷ 0 ∷ 0
    ∷ 4 ∷ 0 ∷ 22 ∷ 0 ∷ 0 ∷ 1 ∷ 0 ∷ 0
    ∷ 4 ∷ 0 ∷ 24 ∷ 0 ∷ 0 ∷ 1 ∷ 0 ∷ 0
    ∷ 0 ∷ 5 ∷ 0 ∷ 0
    ∷ 1 ∷ 0 ∷ 0 ∷ 0
    ∷ []

-- a function that calls itself and adds 1
unfoldable pub deeper : List ℕ
deeper =
    1 ∷ 0 ∷ 3
    ∷ 2 ∷ 0 ∷ 2 ∷ 0
    ∷ 5 ∷ 0 ∷ 0 ∷ 0
    ∷ 0 ∷ 1 ∷ 0 ∷ 0
    ∷ []

-- both: 1 and 2; the body calls function 1, which calls itself and adds 1
unfoldable pub after_fork_table : List ℕ
after_fork_table =
    2 ∷ 0 ∷ 4 ∷ 0 ∷ 3
    ∷ 6 ∷ 0 ∷ 2 ∷ 3
    ∷ 0 ∷ 1 ∷ 0 ∷ 0
    ∷ 0 ∷ 2 ∷ 0 ∷ 0
    ∷ 5 ∷ 1 ∷ 0 ∷ 0
    ∷ 2 ∷ 0 ∷ 2 ∷ 0
    ∷ 5 ∷ 1 ∷ 0 ∷ 0
    ∷ 0 ∷ 1 ∷ 0 ∷ 0
    ∷ []

-- fuel, N, τ and table A, with no arguments
unfoldable pub on_a : ℕ → ℕ → ℕ → List ℕ
on_a fuel N τ = bytes_of (fuel ∷ N ∷ τ ∷ 0 ∷ table_a)

unfoldable pub rows : List Row
rows =
    -- 01: "The report on words 100, 3, 2, 0 and then A"; 02, P6: "Table A in the settled run then prints `breadth 1.57`"; P7: "The report's value lines
    -- end with ` deep 2` for table A"
    record { input = on_a 100 3 2; report = "sequential value 4 work 11 span 11 forks 0 deep 2\nparallel value 4 work 9 span 7 forks 2 deep 2\nheartbeat value 4 work 11 span 10 forks 1 deep 2\nbreadth 1.57\n" }
    -- the house default for all three: no promotion in 20 · 50 transitions, and two forks at 50 each
    ∷ record { input = on_a 0 0 0; report = "sequential value 4 work 11 span 11 forks 0 deep 2\nparallel value 4 work 105 span 103 forks 2 deep 2\nheartbeat value 4 work 11 span 11 forks 0 deep 2\nbreadth 0.10\n" }
    -- 02, P2: "20 times the τ in use". With τ 1 the both is promoted after 20 transitions, with 3 left to make in its left branch: a span of
    -- 20 + 1 + 13 + 1. With τ 2 the run ends before N.
    ∷ record { input = bytes_of (0 ∷ 0 ∷ 1 ∷ 0 ∷ long); report = "sequential value 6 work 39 span 39 forks 0 deep 2\nparallel value 6 work 37 span 24 forks 1 deep 2\nheartbeat value 6 work 38 span 35 forks 1 deep 2\nbreadth 1.62\n" }
    ∷ record { input = bytes_of (0 ∷ 0 ∷ 2 ∷ 0 ∷ long); report = "sequential value 6 work 39 span 39 forks 0 deep 2\nparallel value 6 work 38 span 25 forks 1 deep 2\nheartbeat value 6 work 39 span 39 forks 0 deep 2\nbreadth 1.56\n" }
    -- 02, P6: "sequential work divided by parallel span, with two decimals, rounded down", with a zero in the first decimal (1.054), of exactly 1,
    -- and below 1 (0.975)
    ∷ record { input = bytes_of (0 ∷ 0 ∷ 14 ∷ 0 ∷ long); report = "sequential value 6 work 39 span 39 forks 0 deep 2\nparallel value 6 work 50 span 37 forks 1 deep 2\nheartbeat value 6 work 39 span 39 forks 0 deep 2\nbreadth 1.05\n" }
    ∷ record { input = bytes_of (0 ∷ 0 ∷ 16 ∷ 0 ∷ long); report = "sequential value 6 work 39 span 39 forks 0 deep 2\nparallel value 6 work 52 span 39 forks 1 deep 2\nheartbeat value 6 work 39 span 39 forks 0 deep 2\nbreadth 1.00\n" }
    ∷ record { input = bytes_of (0 ∷ 0 ∷ 17 ∷ 0 ∷ long); report = "sequential value 6 work 39 span 39 forks 0 deep 2\nparallel value 6 work 53 span 40 forks 1 deep 2\nheartbeat value 6 work 39 span 39 forks 0 deep 2\nbreadth 0.97\n" }
    -- "A τ above 500 is then refusal 9", also above 10,000, also where 20 · τ is 2^32 + 4 or above every word; with N written it is not
    ∷ record { input = on_a 0 0 500; report = "sequential value 4 work 11 span 11 forks 0 deep 2\nparallel value 4 work 1005 span 1003 forks 2 deep 2\nheartbeat value 4 work 11 span 11 forks 0 deep 2\nbreadth 0.01\n" }
    ∷ record { input = on_a 0 0 501; report = "refused 9 function 0 node 0\n" }
    ∷ record { input = on_a 0 0 10001; report = "refused 9 function 0 node 0\n" }
    ∷ record { input = on_a 0 0 214748365; report = "refused 9 function 0 node 0\n" }
    ∷ record { input = on_a 0 0 4294967295; report = "refused 9 function 0 node 0\n" }
    ∷ record { input = on_a 0 1000 501; report = "sequential value 4 work 11 span 11 forks 0 deep 2\nparallel value 4 work 1007 span 1005 forks 2 deep 2\nheartbeat value 4 work 11 span 11 forks 0 deep 2\nbreadth 0.01\n" }
    -- "unless an earlier check refuses"
    ∷ record { input = on_a 100000001 0 501; report = "refused 8 function 0 node 0\n" }
    -- 01's stop, as an example of its line; the others have fuel enough, and there is no breadth: "`none` unless both runs have values"
    ∷ record { input = on_a 10 3 2; report = "sequential stop 20 function 0 node 6 transitions 10 deep 2\nparallel value 4 work 9 span 7 forks 2 deep 2\nheartbeat value 4 work 11 span 10 forks 1 deep 2\nbreadth none\n" }
    -- a function that calls itself for ever: all three stop
    ∷ record { input = bytes_of (7 ∷ 3 ∷ 2 ∷ 0 ∷ endless); report = "sequential stop 20 function 0 node 0 transitions 7 deep 0\nparallel stop 20 function 0 node 0 transitions 7 deep 0\nheartbeat stop 20 function 0 node 0 transitions 7 deep 0\nbreadth none\n" }
    -- one that adds to what it gives, for ever: each call opens a frame, and all 256 are occupied at the stop
    ∷ record { input = bytes_of (0 ∷ 0 ∷ 0 ∷ 0 ∷ deeper); report = "sequential stop 21 function 0 node 0 transitions 512 deep 256\nparallel stop 21 function 0 node 0 transitions 512 deep 256\nheartbeat stop 21 function 0 node 0 transitions 512 deep 256\nbreadth none\n" }
    -- 02, P12: the others stop "with the same number, function and node. Their transitions may be fewer"; where the sequential machine has no fuel for
    -- the transition that stops, "nothing is claimed"
    ∷ record { input = bytes_of (519 ∷ 2 ∷ 2 ∷ 0 ∷ after_fork_table); report = "sequential stop 21 function 1 node 0 transitions 518 deep 256\nparallel stop 21 function 1 node 0 transitions 515 deep 256\nheartbeat stop 21 function 1 node 0 transitions 516 deep 256\nbreadth none\n" }
    ∷ record { input = bytes_of (518 ∷ 2 ∷ 2 ∷ 0 ∷ after_fork_table); report = "sequential stop 20 function 1 node 0 transitions 518 deep 256\nparallel stop 21 function 1 node 0 transitions 515 deep 256\nheartbeat stop 21 function 1 node 0 transitions 516 deep 256\nbreadth none\n" }
    -- two arguments, 5 + 2 · 2^32 and 640, "each argument as low then high word"
    ∷ record { input = bytes_of (0 ∷ 0 ∷ 0 ∷ 2 ∷ 5 ∷ 2 ∷ 640 ∷ 0 ∷ local 0); report = "sequential value 8589934597 work 1 span 1 forks 0 deep 0\nparallel value 8589934597 work 1 span 1 forks 0 deep 0\nheartbeat value 8589934597 work 1 span 1 forks 0 deep 0\nbreadth 1.00\n" }
    ∷ record { input = bytes_of (0 ∷ 0 ∷ 0 ∷ 2 ∷ 5 ∷ 2 ∷ 640 ∷ 0 ∷ local 1); report = "sequential value 640 work 1 span 1 forks 0 deep 0\nparallel value 640 work 1 span 1 forks 0 deep 0\nheartbeat value 640 work 1 span 1 forks 0 deep 0\nbreadth 1.00\n" }
    -- "N not 1 to 10,000"
    ∷ record { input = on_a 100 10001 2; report = "refused 9 function 0 node 0\n" }
    -- "too short for its first four words", "not whole words", "with more than 3 of them": refusal 1
    ∷ record { input = []; report = "refused 1 function 0 node 0\n" }
    ∷ record { input = on_a 100 3 2 ++ (0 ∷ []); report = "refused 1 function 0 node 0\n" }
    ∷ record { input = bytes_of (100 ∷ 3 ∷ 2 ∷ 4 ∷ table_a); report = "refused 1 function 0 node 0\n" }
    ∷ []

-- What the definitions write, row by row, with 256 frames of 32 words, and what the rows tell.
unfoldable pub reports : List Row → List (List ℕ)
reports [] = []
reports (r ∷ rest) = report_of r.input 8192 ∷ reports rest

unfoldable pub told : List Row → List (List ℕ)
told [] = []
told (r ∷ rest) = ascii r.report ∷ told rest

-- THE CLAIM (proofs/Examples.antt, `written`)
abbrev pub ExampleReports : Type 0
ExampleReports = reports rows ≡ told rows
