-- P4 changed numbers of the reader and nothing of 7 to 11.
use Prim.Native.Nat.{ℕ, ◌%◌}
use mathlib.Core.Path.{◌≡◌, refl}
use mathlib.Core.List.{List}
use mathlib.Core.Bool.{◌&&◌}
use lib.Dec.{leb, eqb}
use Rattle.table.specs.Words.{arity_at}
use Rattle.table.specs.Read.{◌then◌, unless, read_of}
use Rattle.table.specs.Before.{as_four, read_as_four}
use Rattle.table.proofs.Unchanged.{then_unchanged, unless_unchanged, unchanged}
use Rattle.language.specs.Checks.{range_of, frames_in, arguments_of, fuel_of, period_of, tau_of, workspace_of, settings_of, checked_of}
use Rattle.language.specs.Unchanged.{CheckUnchanged}

range_unchanged : (n least most number : ℕ) → as_four number ≡ number → read_as_four (range_of n least most number) ≡ range_of n least most number
unfolding range_of
range_unchanged n least most number e = unless_unchanged (leb least n && leb n most) number 0 0 e

arguments_unchanged : (w : List ℕ) (arguments : ℕ) → read_as_four (arguments_of w arguments) ≡ arguments_of w arguments
unfolding arguments_of
arguments_unchanged w arguments = unless_unchanged (eqb arguments (arity_at w 0)) 7 0 0 refl

workspace_unchanged : (workspace : ℕ) → read_as_four (workspace_of workspace) ≡ workspace_of workspace
unfolding workspace_of
workspace_unchanged workspace = rw (then_unchanged (unless (eqb (workspace % 32) 0) 11 0 0) (range_of (frames_in workspace) 1 4096 11), unless_unchanged (eqb (workspace % 32) 0) 11 0 0 refl, range_unchanged (frames_in workspace) 1 4096 11 refl)

settings_unchanged : (fuel N τ workspace : ℕ) → read_as_four (settings_of fuel N τ workspace) ≡ settings_of fuel N τ workspace
unfolding settings_of
settings_unchanged fuel N τ workspace = rw (then_unchanged (fuel_of fuel) (period_of N then tau_of τ then workspace_of workspace), then_unchanged (period_of N) (tau_of τ then workspace_of workspace), then_unchanged (tau_of τ) (workspace_of workspace), range_unchanged fuel 1 100000000 8 refl, range_unchanged N 1 10000 9 refl, range_unchanged τ 1 10000 10 refl, workspace_unchanged workspace)

pub check_unchanged : CheckUnchanged
unfolding checked_of
check_unchanged w arguments fuel N τ workspace = rw (then_unchanged (read_of w) (arguments_of w arguments then settings_of fuel N τ workspace), then_unchanged (arguments_of w arguments) (settings_of fuel N τ workspace), unchanged w, arguments_unchanged w arguments, settings_unchanged fuel N τ workspace)
