-- The house default: what its N buys, and which τ it serves.
use Prim.Native.Nat.{ℕ, ◌+◌, ◌*◌, ◌≤◌, ◌<◌}
use mathlib.Core.Path.{◌≡◌, refl}
use mathlib.Core.List.{List}
use native.Mathlib.Omega.{arith}
use native.Mathlib.Nat.{mul-add, add-mul, mul_left_comm, mul_assoc, mul-le-mul_left, mul-le-mul_right, le_of_mul-le-mul_left}
use lib.ListN.{length}
use borrow.Author.Tests.{le-leb, lt-leb}
use Rattle.std.specs.Prelude.{Ok, Err}
use Rattle.table.specs.Read.{Reading, ◌then◌}
use Rattle.schedule.specs.Machine.{Schedule, sequential}
use Rattle.language.specs.declared.Counts.{Counts}
use Rattle.language.specs.declared.Answer.{Answer}
use Rattle.language.specs.declared.Answer.TheVariants.{Value}
use Rattle.language.specs.Checks.{range_of, settings_of, checked_of}
use Rattle.language.specs.Admitted.{Admitted}
use Rattle.language.specs.Answers.{after_check, run_of, answer_of}
use Rattle.language.specs.House.{house_period, HouseOverhead, HouseRefused}
use Rattle.language.proofs.Admission.{checked_iff}
use Rattle.language.proofs.Claim.{claim}

-- The work bound with an N of at least k · τ: the overhead is at most the k-th part of the sequential work.
pub overhead_by : (k N τ x y : ℕ) → 1 ≤ N → k * τ ≤ N → N * x ≤ (N + τ) * y → k * x ≤ (k + 1) * y
overhead_by k N τ x y positive far bound = le_of_mul-le-mul_left {k = N} times_N positive
  where
    times_N : N * (k * x) ≤ N * ((k + 1) * y)
    times_N =
        omega (
          arith,
          mul_left_comm N k x,
          mul-le-mul_left k bound,
          add-mul N τ y,
          mul-add k (N * y) (τ * y),
          mul_assoc k τ y,
          mul-le-mul_right y far,
          add-mul k 1 y,
          mul-add N (k * y) (1 * y),
          mul_left_comm N k y,
        )

-- a value answers an input that was admitted
value_accepted : (r : Reading) (x : Answer) (v : ℕ) (a : Counts) → after_check r x ≡ Value v a → r ≡ Ok tt
unfolding after_check
value_accepted (Ok _) x v a e = refl
value_accepted (Err r) x v a e = absurd cc

pub value_admitted : (m : Schedule) (w arguments : List ℕ) (fuel N τ workspace v : ℕ) (a : Counts)
    → answer_of m w arguments fuel N τ workspace ≡ Value v a → Admitted w (length arguments) fuel N τ workspace
unfolding answer_of
value_admitted m w arguments fuel N τ workspace v a e =
    (checked_iff w (length arguments) fuel N τ workspace).0 (value_accepted _ (run_of m w arguments fuel τ workspace) v a e)

-- THE THEOREM: N by default holds the overhead to at most 5 percent
pub house_overhead : HouseOverhead
house_overhead w arguments fuel τ workspace = record {
  at_a_value = λ v a e.
      let admitted = value_admitted sequential w arguments fuel (house_period τ) τ workspace v a e in
      let four = (claim w arguments fuel (house_period τ) τ workspace).at_a_value v a e in
      let far : 20 * τ ≤ house_period τ = omega arith in
      let bound = overhead_by 20 (house_period τ) τ four.h.work.0 a.work.0 admitted.period.least far four.work_bound in
      record { h = four.h; heartbeat_value = four.heartbeat_value; overhead = omega (arith, bound) };
}

-- and a τ above 500 is refused by 9, unless an earlier check refuses
pub house_refused : HouseRefused
unfolding checked_of settings_of range_of ◌then◌
house_refused w arguments fuel τ workspace h =
    let least : 1 ≤ house_period τ = omega arith in
    let most : 10000 < house_period τ = omega arith in
    rw (le-leb 1 (house_period τ) least, lt-leb (house_period τ) 10000 most)
