-- The span and the work of every value.
use Prim.Native.Nat.{ℕ}
use mathlib.Core.Path.{◌≡◌, refl, ap}
use mathlib.Core.List.{List}
use native.Mathlib.Omega.{arith}
use lib.ListN.{length}
use Rattle.std.specs.Prelude.{Ok, Err}
use Rattle.table.specs.Read.{Reading}
use Rattle.schedule.specs.Graph.{Graph, work, span}
use Rattle.schedule.specs.Algebra.{graphs}
use Rattle.schedule.specs.Machine as machine
use Rattle.schedule.specs.Machine.{value, stop, Result, ended, ongoing, Schedule, sequential}
use Rattle.schedule.specs.Runs.{outcome}
use Rattle.schedule.specs.Values.{AtValue}
use Rattle.schedule.proofs.WorkCount.{sequential_chain}
use Rattle.schedule.proofs.Values.{at_every_value}
use Rattle.language.specs.declared.Counts.{Counts}
use Rattle.language.specs.declared.Answer.TheVariants.{Value}
use Rattle.language.specs.Language.{language}
use Rattle.language.specs.Checks.{frames_in, checked_of}
use Rattle.language.specs.Answers.{entry_code, counts_of, told_by, after_check, run_of, answer_of}
use Rattle.language.specs.Values.{SpansPositive, SequentialWork}
use Rattle.language.proofs.House.{value_admitted}

-- A value tells of a run that ended in it, with these counts.
pub record Ran (m : Schedule) (w arguments : List ℕ) (fuel τ workspace v : ℕ) (a : Counts) : Type 0 where
  pub g : Graph
  pub t : machine.RunCounts
  pub is : outcome graphs (language w) fuel (frames_in workspace) m (entry_code arguments) ≡ ended (value v) g t
  pub counted : counts_of t.transitions t.forks (work τ g) (span τ g) t.deepest ≡ a
  known : AtValue fuel τ g t

module _ (m : Schedule) (w arguments : List ℕ) (fuel τ workspace v : ℕ) (a : Counts) where
  ran_so : (o : Result graphs (language w)) → outcome graphs (language w) fuel (frames_in workspace) m (entry_code arguments) ≡ o
      → told_by τ o ≡ Value v a → Ran m w arguments fuel τ workspace v a
  unfolding told_by
  ran_so (ended (value u) g t) e q =
      let same : u ≡ v = cc in
      let counted : counts_of t.transitions t.forks (work τ g) (span τ g) t.deepest ≡ a = cc in
      record {
        g = g;
        t = t;
        is = rw (← same) e;
        counted = counted;
        known = at_every_value (language w) fuel (frames_in workspace) τ m (entry_code arguments) u g t e;
      }
  ran_so (ended (stop i p) g t) e q = let no : ◌≡◌ {A = ℕ} 0 1 = cc in absurd (omega arith)
  ran_so (ongoing s) e q = let no : ◌≡◌ {A = ℕ} 0 1 = cc in absurd (omega arith)

  checked_so : (r : Reading) → after_check r (run_of m w arguments fuel τ workspace) ≡ Value v a → Ran m w arguments fuel τ workspace v a
  unfolding after_check run_of
  checked_so (Ok _) q = ran_so _ refl q
  checked_so (Err r) q = absurd cc

  pub value_ran : (N : ℕ) → answer_of m w arguments fuel N τ workspace ≡ Value v a → Ran m w arguments fuel τ workspace v a
  unfolding answer_of
  value_ran N e = checked_so (checked_of w (length arguments) fuel N τ workspace) e

pub spans_positive : SpansPositive
spans_positive m w arguments fuel N τ workspace v a e =
    let r = value_ran m w arguments fuel τ workspace v a N e in
    omega (arith, ap (λ (x : Counts). x.span.0) r.counted, r.known.span_positive)

pub sequential_work : SequentialWork
sequential_work w arguments fuel N τ workspace v a e =
    let r = value_ran sequential w arguments fuel τ workspace v a N e in
    let chain = sequential_chain (language w) fuel (frames_in workspace) τ (entry_code arguments) (value v) r.g r.t r.is in
    let admitted = value_admitted sequential w arguments fuel N τ workspace v a e in
    omega (arith, ap (λ (x : Counts). x.work.0) r.counted, chain.work_is, r.known.within_fuel, admitted.fuel.most)
