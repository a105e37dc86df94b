-- A call is served or it is not, by its two tests; its machine by the number and by the name; and what `Called` says of each.
-- Assumes nothing.
use mathlib.Core.Path.{◌≡◌, refl, sym, ◌∙◌}
use Prim.Native.Nat.{ℕ, ◌<◌, ◌≤◌}
use mathlib.Core.Bool.{Bool, true, false, cond, ◌&&◌}
use mathlib.Core.List.{List}
use native.Mathlib.Omega.{arith}
use lib.ListN.{length}
use lib.Dec.{eqb, leb}
use borrow.Author.Tests.{le-leb, lt-leb}
use Rattle.std.specs.Prelude.{Result, Ok, Err}
use Rattle.std.specs.Result.{result_ok}
use Rattle.schedule.specs.Machine.{sequential, parallel, heartbeat}
use Rattle.language.specs.declared.Answer.{Answer}
use Rattle.language.specs.Answers.{answer_of, sequential_of, parallel_of, heartbeat_of}
use Rattle.machine.specs.declared.Schedule.{Schedule}
use Rattle.machine.specs.declared.Schedule.TheVariants.{Sequential, Parallel, Heartbeat}
use Rattle.machine.specs.declared.UnknownSchedule.{UnknownSchedule}
use Rattle.machine.specs.Schedules.{schedule_of, number_of, Names}
use Rattle.machine.specs.Workspace.{left_by}
use Rattle.capi.specs.Words.{answer_words, written}
use Rattle.capi.specs.Calls.{answer_by, served, Serves, Called}
use Rattle.capi.specs.Graphs.{schedule_by}

pub unknown : (machine room : ℕ) → 2 < machine → served machine room ≡ false
unfolding served
unknown machine room h = rw (lt-leb machine 2 h)

pub cramped : (machine room : ℕ) → room < 8 → served machine room ≡ false
unfolding served
cramped machine room h = rw (lt-leb 8 room h) (on (leb machine 2))
  where
    on : (x : Bool) → x && false ≡ false
    on true = refl
    on false = refl

pub serving : (machine room : ℕ) → machine ≤ 2 → 8 ≤ room → served machine room ≡ true
unfolding served
serving machine room h k = rw (le-leb machine 2 h, le-leb 8 room k)

module _ (machine room : ℕ) {answer : Bool} (is : answer ≡ served machine room) where
  pub refuses : answer ≡ false → served machine room ≡ false
  refuses h = sym is ∙ h

  pub accepts : answer ≡ true → served machine room ≡ true
  accepts h = sym is ∙ h

-- a number that names a schedule, or none
pub names : (machine room : ℕ) (r : Result Schedule UnknownSchedule) → 8 ≤ room → Names machine r → Serves machine room (result_ok r)
names machine room (Ok schedule) h e = (serving machine room (rw e at (few schedule)) h, e)
  where
    few : (x : Schedule) → number_of x ≤ 2
    few Sequential = omega arith
    few Parallel = omega arith
    few Heartbeat = omega arith
names machine room (Err other) h e = unknown machine room e.1

-- A MACHINE BY ITS NUMBER has the schedule of the number
pub by_number : (machine : ℕ) (w arguments : List ℕ) (fuel N τ workspace : ℕ)
    → answer_by machine w arguments fuel N τ workspace ≡ answer_of (schedule_by machine N) w arguments fuel N τ workspace
unfolding answer_by schedule_by
by_number machine w arguments fuel N τ workspace = on (eqb machine 0) (eqb machine 1)
  where
    on : (x y : Bool) → cond x (sequential_of w arguments fuel N τ workspace)
        (cond y (parallel_of w arguments fuel N τ workspace) (heartbeat_of w arguments fuel N τ workspace))
        ≡ answer_of (cond x sequential (cond y parallel (heartbeat N))) w arguments fuel N τ workspace
    on true y = refl
    on false true = refl
    on false false = refl

-- which is that of its name
pub by_name : (schedule : Schedule) (machine N : ℕ) → number_of schedule ≡ machine → schedule_of schedule N ≡ schedule_by machine N
unfolding schedule_by
by_name schedule machine N e = rw (← e) (on schedule)
  where
    on : (x : Schedule) → schedule_of x N ≡ schedule_by (number_of x) N
    on Sequential = refl
    on Parallel = refl
    on Heartbeat = refl

module _ (machine : ℕ) (w arguments : List ℕ) (fuel N τ : ℕ) (ws out : List ℕ) where
  pub turned_away : served machine (length out) ≡ false → Called machine w arguments fuel N τ ws out ws out 1
  turned_away h = record { returned = rw h; workspace = rw h; answer = rw h }

  pub told : (r : Answer) (ws' out' : List ℕ) → served machine (length out) ≡ true → r ≡ answer_by machine w arguments fuel N τ (length ws)
      → ws' ≡ left_by r ws → out' ≡ written out (answer_words r) → Called machine w arguments fuel N τ ws out ws' out' 0
  told r ws' out' h a left wrote = record {
    returned = rw h;
    workspace = rw (h, ← a) left;
    answer = rw (h, ← a) wrote;
  }

  -- by the name of the machine
  pub told_by_name : (schedule : Schedule) (r : Answer) (ws' out' : List ℕ) → (served machine (length out) ≡ true) × (number_of schedule ≡ machine)
      → r ≡ answer_of (schedule_of schedule N) w arguments fuel N τ (length ws) → ws' ≡ left_by r ws → out' ≡ written out (answer_words r)
      → Called machine w arguments fuel N τ ws out ws' out' 0
  told_by_name schedule r ws' out' h a left wrote =
      told r ws' out' h.0 (a ∙ rw (by_name schedule machine N h.1) (sym (by_number machine w arguments fuel N τ (length ws)))) left wrote
