-- 02's P4 as the machines tell it: their check is the one of before, with 4, 16, 17 and 18 all read as 4.
use Rattle.std.specs.Prelude.{ℕ, ◌≡◌, List}
use Rattle.table.specs.Read.{Reading, ◌then◌}
use Rattle.table.specs.Before.{read_before, read_as_four}
use Rattle.language.specs.Checks.{arguments_of, settings_of, checked_of}

-- the check with the reader of before P4
abbrev pub checked_before : List ℕ → ℕ → ℕ → ℕ → ℕ → ℕ → Reading
checked_before w arguments fuel N τ workspace = read_before w then arguments_of w arguments then settings_of fuel N τ workspace

-- THEOREM (`check_unchanged`, proofs/Unchanged.antt), for every input
abbrev pub CheckUnchanged : Type 0
CheckUnchanged = (w : List ℕ) (arguments fuel N τ workspace : ℕ) → read_as_four (checked_of w arguments fuel N τ workspace) ≡ checked_before w arguments fuel N τ workspace
