-- Every run comes to its end, whatever the frame machine and the schedule: each step uses up some of a measure of the state.
use Prim.Native.Nat.{ℕ, ◌+◌, ◌*◌, ◌≤◌, ◌<◌}
use mathlib.Core.Path.{◌≡◌, refl}
use mathlib.Core.Bool.{Bool, true}
use native.Mathlib.Omega.{arith}
use lib.ListN.{length}
use Rattle.schedule.specs.Algebra.{CostAlgebra}
use Rattle.schedule.specs.FrameMachine.{Control, evaluate, return, FrameMachine}
use Rattle.schedule.specs.Machine.{Stack, promotable, Ending, RunCounts, State, state, Result, Schedule, promoted_at_birth, after_promotion, step, start}
use Rattle.schedule.specs.Runs.{run, moves, outcome, EndsIn, NeverUnfinished}
use Rattle.schedule.specs.Bounds.{total, plain_lefts, returning, measure, measure_of}
use Rattle.schedule.proofs.Moves.{due_promotable, Move, goes_on, opens, closes, keeps_frame, forks, turns, joins, forks_freely, turns_freely, joins_freely, View, is_value, is_halt, is_step, Step, moves_on, promotes, step_view}
use Rattle.schedule.proofs.Runs.{Falls, at_end, onward, ends}
use Rattle.schedule.proofs.Stacks.{length_promote, total_promote}

pub returning_le : {Code : Type 0} (c : Control Code) → returning c ≤ 1
unfolding returning
returning_le (evaluate c) = omega arith
returning_le (return v) = omega arith

module _ (K : CostAlgebra) (M : FrameMachine) (fuel frames : ℕ) where
  -- What the tests of fuel and of frames keep.
  unfoldable pub Fits : State K M → Type 0
  Fits (state c S n g t) = (t.transitions ≤ fuel) × (length S ≤ frames)

  abbrev pub Falling : State K M → State K M → Type 0
  Falling s u = Fits u × (measure_of K M fuel frames u < measure_of K M fuel frames s)

  -- EVERY STEP uses some of the measure up.
  pub move_falls : {born : Bool} {s u : State K M} → Move K M fuel frames born s u → Fits s → Falling s u
  unfolding Fits measure_of measure returning total plain_lefts
  move_falls (goes_on {d = d} e l) i = omega (arith, returning_le d)
  move_falls (opens e l r) i = omega arith
  move_falls (closes {d = d} e l) i = omega (arith, returning_le d)
  move_falls (keeps_frame e l) i = omega arith
  move_falls (forks e l r) i = omega arith
  move_falls (turns l) i = omega arith
  move_falls (joins l) i = omega arith
  move_falls (forks_freely e r) i = omega arith
  move_falls turns_freely i = omega arith
  move_falls joins_freely i = omega arith

  pub promotion_falls : (c : Control M.Code) (S : Stack K M) (n : ℕ) (g : K.Cost) (t : RunCounts) → promotable S ≡ true
      → Fits (state c S n g t) → Falling (state c S n g t) (after_promotion K M c S n g t)
  unfolding Fits measure_of measure plain_lefts
  promotion_falls c S n g t able i =
      omega (arith, length_promote g S, total_promote plain_lefts 0 1 g (λ b. refl) (λ b. refl) S able)

  abbrev Inv : ℕ → State K M → Type 0
  Inv k s = Fits s × (measure_of K M fuel frames s ≤ k)

  module _ (m : Schedule) where
    pub step_falls : {s u : State K M} → Step K M fuel frames m s u → Fits s → Falling s u
    step_falls (moves_on q mv) i = move_falls mv i
    step_falls (promotes {c = c} {S = S} {n = n} {g = g} {t = t} h) i = promotion_falls c S n g t (due_promotable m n (promotable S) h) i

    viewed : {s : State K M} {o : Result K M} (k : ℕ) → View K M fuel frames (promoted_at_birth m) (Step K M fuel frames m) s o → Inv k s
        → Falls Inv k o
    viewed k is_value i = at_end
    viewed k (is_halt h) i = at_end
    viewed k (is_step {u = u} x) i = let f = step_falls x i.0 in onward (measure_of K M fuel frames u) (f.0, omega arith) (omega arith)

    -- With more moves too.
    pub finishes_with : (gas : ℕ) (c : M.Code) → moves fuel frames ≤ gas
        → (z : Ending) × EndsIn (run (step K M fuel frames m) gas (start K M c)) z
    unfolding start Fits measure_of measure returning total
    finishes_with gas c h =
        let once : (k : ℕ) (s : State K M) → Inv k s → Falls Inv k (step K M fuel frames m s)
        = λ k s. viewed k (step_view K M fuel frames m s) in
        ends (step K M fuel frames m) Inv once gas (5 * fuel + frames) (start K M c) (omega arith) (omega arith)

pub finishes : NeverUnfinished
unfolding outcome
finishes K M fuel frames m c = finishes_with K M fuel frames m (moves fuel frames) c (omega arith)
