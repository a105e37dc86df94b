-- The depth of a run: within the frames, all of them at a stop 21, and all that the run needs.
use Prim.Native.Nat.{ℕ, suc, ◌≤◌}
use mathlib.Core.Path.{◌≡◌, refl, sym, ◌∙◌}
use mathlib.Core.Bool.{Bool, true, false}
use mathlib.Core.List.{[]}
use native.Mathlib.Omega.{arith}
use lib.ListN.{length}
use Rattle.schedule.specs.Algebra.{CostAlgebra}
use Rattle.schedule.specs.FrameMachine.{Place, return, FrameMachine}
use Rattle.schedule.specs.Machine.{promotable, Ending, value, stop, RunCounts, State, state, ended, Schedule, promoted_at_birth, promotion_due, move, step, start}
use Rattle.schedule.specs.Runs.{and_then, run, moves, outcome}
use Rattle.schedule.specs.Depth.{DepthWithin, NoOwn21, FullAt21, FramesEnough}
use Rattle.schedule.proofs.Moves.{due_promotable, Move, goes_on, opens, closes, keeps_frame, forks, turns, joins, forks_freely, turns_freely, joins_freely, Halt, no_fuel, is_stuck, at_code, at_frame, no_frame, no_fork_frame, Step, moves_on, promotes, quiet_is, step_is, Way, to_value, to_halt, via, way}
use Rattle.schedule.proofs.Runs.{same_end}
use Rattle.schedule.proofs.Stacks.{length_promote}
use Rattle.schedule.proofs.Finish.{finishes}

module _ (K : CostAlgebra) (M : FrameMachine) (fuel frames : ℕ) where
  -- The depth counts the frames of the stack, and there are enough of them.
  unfoldable Deep : State K M → Type 0
  Deep (state c S n g t) = (length S ≤ t.deepest) × (t.deepest ≤ frames)

  unfoldable depth_of : State K M → ℕ
  depth_of (state c S n g t) = t.deepest

  deep_move : {born : Bool} {s u : State K M} → Move K M fuel frames born s u → Deep s → Deep u × (depth_of s ≤ depth_of u)
  unfolding Deep depth_of
  deep_move (goes_on e l) d = omega arith
  deep_move (opens e l r) d = omega arith
  deep_move (closes e l) d = omega arith
  deep_move (keeps_frame e l) d = omega arith
  deep_move (forks e l r) d = omega arith
  deep_move (turns l) d = omega arith
  deep_move (joins l) d = omega arith
  deep_move (forks_freely e r) d = omega arith
  deep_move turns_freely d = omega arith
  deep_move joins_freely d = omega arith

  module _ (m : Schedule) where
    deep_step : {s u : State K M} → Step K M fuel frames m s u → Deep s → Deep u × (depth_of s ≤ depth_of u)
    unfolding Deep depth_of
    deep_step (moves_on q mv) d = deep_move mv d
    deep_step (promotes {S = S} {g = g} h) d = omega (arith, length_promote g S)

    -- At the end.
    record AtEnd (z : Ending) (t : RunCounts) : Type 0 where
      within : t.deepest ≤ frames
      full : (p : Place) → NoOwn21 M → z ≡ stop 21 p → frames ≤ t.deepest

    full_at : {s : State K M} {i : ℕ} {p : Place} → NoOwn21 M → Halt K M fuel frames (promoted_at_birth m) s i p → i ≡ 21 → Deep s
        → frames ≤ depth_of s
    unfolding Deep depth_of
    full_at own (no_fuel l) e d = absurd (omega arith)
    full_at own (is_stuck (at_code {c = c} x l)) e d = absurd (own.at_code c (rw e at x))
    full_at own (is_stuck (at_frame {f = f} {v = v} x l)) e d = absurd (own.at_frame f v (rw e at x))
    full_at own (is_stuck (no_frame x l r)) e d = omega arith
    full_at own (is_stuck (no_fork_frame x l r)) e d = omega arith

    deep_way : {z : Ending} {g : K.Cost} {t : RunCounts} {s : State K M} → Way K M fuel frames m z g t s → Deep s
        → AtEnd z t × (depth_of s ≤ t.deepest)
    unfolding Deep depth_of
    deep_way (to_value e) d =
        (record { within = d.1; full = λ p own q. let no : ◌≡◌ {A = ℕ} 0 1 = cc in absurd (omega arith) }, omega arith)
    deep_way (to_halt {i = i} e h) d =
        (record { within = d.1; full = λ p own q. let is : i ≡ 21 = cc in full_at own h is d }, omega arith)
    deep_way (via x w) d = let a = deep_step x d in let b = deep_way w a.0 in (b.0, omega arith)

    -- THE SAME STEPS with another number of frames, where that is not below the depth.
    module _ (others : ℕ) where
      refit : {born : Bool} {s u : State K M} → Move K M fuel frames born s u → depth_of u ≤ others → Move K M fuel others born s u
      unfolding depth_of
      refit (goes_on e l) h = goes_on e l
      refit (opens {S = S} e l r) h = opens {S = S} e l (omega arith)
      refit (closes e l) h = closes e l
      refit (keeps_frame e l) h = keeps_frame e l
      refit (forks {S = S} e l r) h = forks {S = S} e l (omega arith)
      refit (turns l) h = turns l
      refit (joins l) h = joins l
      refit (forks_freely {S = S} e r) h = forks_freely {S = S} e (omega arith)
      refit turns_freely h = turns_freely
      refit joins_freely h = joins_freely

      refit_step : {s u : State K M} → Step K M fuel frames m s u → depth_of u ≤ others → Step K M fuel others m s u
      refit_step (moves_on q mv) h = moves_on q (refit mv h)
      refit_step (promotes q) h = promotes q

      -- A value that returns to no frame ends the run, whatever is due.
      at_empty : (v n : ℕ) (g : K.Cost) (t : RunCounts) → step K M fuel others m (state (return v) [] n g t) ≡ ended (value v) g t
      unfolding move promotable
      at_empty v n g t = quiet_is K M fuel others m (return v) [] n g t (on (promotion_due m n false) refl)
        where
          on : (q : Bool) → promotion_due m n false ≡ q → q ≡ false
          on true h = sym (due_promotable m n false h)
          on false h = refl

      again : {v : ℕ} {g : K.Cost} {t : RunCounts} {s : State K M} → Way K M fuel frames m (value v) g t s → Deep s → t.deepest ≤ others
          → (gas : ℕ) × (run (step K M fuel others m) gas s ≡ ended (value v) g t)
      unfolding run and_then
      again {v} {g} {t} (to_value {v = u} {n = n} e) d h =
          let is : u ≡ v = cc in (1, rw (is, at_empty v n g t))
      again (to_halt e x) d h = let no : ◌≡◌ {A = ℕ} 0 1 = cc in absurd (omega arith)
      again (via x w) d h =
          let a = deep_step x d in
          let b = deep_way w a.0 in
          let r = again w a.0 h in
          (suc r.0, rw (step_is K M fuel others m (refit_step x (omega (arith, b.1)))) r.1)

begins : (K : CostAlgebra) (M : FrameMachine) (fuel frames : ℕ) (c : M.Code) → Deep K M fuel frames (start K M c)
unfolding Deep start
begins K M fuel frames c = omega arith

module _ (K : CostAlgebra) (M : FrameMachine) (fuel frames : ℕ) (m : Schedule) (c : M.Code) {z : Ending} {g : K.Cost} {t : RunCounts}
    (e : outcome K M fuel frames m c ≡ ended z g t) where
  went : Way K M fuel frames m z g t (start K M c)
  unfolding outcome
  went = way K M fuel frames m (moves fuel frames) (start K M c) z g t e

  at_its_end : AtEnd K M fuel frames m z t
  at_its_end = (deep_way K M fuel frames m went (begins K M fuel frames c)).0

pub depth_within : DepthWithin
depth_within K M fuel frames m c z g t e = (at_its_end K M fuel frames m c e).within

pub full_at_21 : FullAt21
full_at_21 K M fuel frames m c p g t own e = let a = at_its_end K M fuel frames m c e in omega (arith, a.within, a.full p own refl)

pub frames_enough : FramesEnough
unfolding outcome
frames_enough K M fuel frames others m c v g t e h =
    let r = again K M fuel frames m others (went K M fuel frames m c e) (begins K M fuel frames c) (omega (arith, h)) in
    let s = finishes K M fuel others m c in
    s.1.is ∙ same_end (step K M fuel others m) (moves fuel others) r.0 (start K M c) s.1.is r.1
