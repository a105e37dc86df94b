-- The check of a machine's input (01, "Turned away by the input", 1 to 11; 02, P4, 16 to 18). "All three machines check all eleven."
use Rattle.std.specs.Prelude.{ℕ, ◌/◌, ◌%◌, List, ◌&&◌, leb, eqb}
use Rattle.table.specs.Words.{arity_at}
use Rattle.table.specs.Read.{Reading, ◌then◌, unless, read_of}

-- n is least to most, both ends within; refused with the number, "both 0 for 1, 3 and 7 to 11", if it is not
unfoldable pub range_of : ℕ → ℕ → ℕ → ℕ → Reading
range_of n least most number = unless (leb least n && leb n most) number 0 0

-- "frames of 32 words": how many whole ones are in a workspace of so many words
abbrev pub frames_in : ℕ → ℕ
frames_in workspace = workspace / 32

-- "7. Argument count differs from the entry's arity."; "Function 0 is the entry."
unfoldable pub arguments_of : List ℕ → ℕ → Reading
arguments_of w arguments = unless (eqb arguments (arity_at w 0)) 7 0 0

-- "8. Fuel not 1 to 100,000,000."
abbrev pub fuel_of : ℕ → Reading
fuel_of fuel = range_of fuel 1 100000000 8

-- "9. N not 1 to 10,000."
abbrev pub period_of : ℕ → Reading
period_of N = range_of N 1 10000 9

-- "10. τ not 1 to 10,000."
abbrev pub tau_of : ℕ → Reading
tau_of τ = range_of τ 1 10000 10

-- "11. Workspace of 64-bit words not a whole number of frames of 32 words, or not 1 to 4,096 frames."
unfoldable pub workspace_of : ℕ → Reading
workspace_of workspace = unless (eqb (workspace % 32) 0) 11 0 0 then range_of (frames_in workspace) 1 4096 11

-- 8 to 11: those that need no table
unfoldable pub settings_of : ℕ → ℕ → ℕ → ℕ → Reading
settings_of fuel N τ workspace = fuel_of fuel then period_of N then tau_of τ then workspace_of workspace

-- THE CHECK, of a table, the number of arguments, fuel, N, τ and the workspace's length: "Numbers are tried in rising order"; the walk,
-- "with 16, 17 and 18 now in it and so before 7" (P4)
unfoldable pub checked_of : List ℕ → ℕ → ℕ → ℕ → ℕ → ℕ → Reading
checked_of w arguments fuel N τ workspace = read_of w then arguments_of w arguments then settings_of fuel N τ workspace
