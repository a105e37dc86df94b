-- The laws that the loop of a machine in code cites: every step keeps the bounds and makes the measure smaller, by schedule and by flags.
use Prim.Native.Nat.{ℕ, ◌+◌, ◌*◌, ◌≤◌, ◌<◌}
use mathlib.Core.Path.{◌≡◌, refl}
use mathlib.Core.Bool.{Bool, true, false, cond, ◌&&◌}
use native.Mathlib.Omega.{arith}
use lib.Dec.{leb}
use borrow.Author.Tests.{lt-leb}
use Rattle.schedule.specs.Algebra.{spans}
use Rattle.schedule.specs.FrameMachine.{Control, FrameMachine}
use Rattle.schedule.specs.Machine.{Stack, promotable, RunCounts, State, state, Result, ongoing, Schedule, sequential, parallel, heartbeat, promoted_at_birth, promotion_due, after_promotion, move, step, start}
use Rattle.schedule.specs.Bounds.{total, returning, step_by, Flags, measure, measure_of, kept_spans, BoundedState, Advances}
use Rattle.schedule.proofs.Moves.{and_true, due_promotable, Move, goes_on, opens, closes, keeps_frame, forks, turns, joins, forks_freely, turns_freely, joins_freely, View, is_value, is_halt, is_step, Step, moves_on, promotes, move_view, step_view}
use Rattle.schedule.proofs.Stacks.{total_promote}
use Rattle.schedule.proofs.Finish.{Fits, Falling, move_falls, promotion_falls}

module _ (τ : ℕ) (M : FrameMachine) (fuel frames : ℕ) where
  abbrev Numbers : Type 0
  Numbers = State (spans τ) M

  abbrev Sound : Numbers → Type 0
  Sound s = BoundedState τ M fuel frames s

  abbrev left : Numbers → ℕ
  left s = measure_of (spans τ) M fuel frames s

  fits : (s : Numbers) → Sound s → Fits (spans τ) M fuel frames s
  unfolding BoundedState Fits
  fits (state c S n g t) b = (b.within_fuel, b.within_frames)

  module _ (small : τ ≤ 10000) where
    -- A fork is paid for by the measure, which falls.
    bounded_move : {born : Bool} {s u : Numbers} → Move (spans τ) M fuel frames born s u
        → Falling (spans τ) M fuel frames s u → Sound s → Sound u
    unfolding BoundedState Fits measure_of total kept_spans
    bounded_move (goes_on e l) f b = omega arith
    bounded_move (opens e l r) f b = omega arith
    bounded_move (closes e l) f b = omega arith
    bounded_move (keeps_frame e l) f b = omega arith
    bounded_move (forks e l r) f b = omega arith
    bounded_move (turns l) f b = omega arith
    bounded_move (joins l) f b = omega arith
    bounded_move (forks_freely e r) f b = omega arith
    bounded_move turns_freely f b = omega arith
    bounded_move joins_freely f b = omega arith

    bounded_promotion : (c : Control M.Code) (S : Stack (spans τ) M) (n g : ℕ) (t : RunCounts) → promotable S ≡ true
        → Falling (spans τ) M fuel frames (state c S n g t) (after_promotion (spans τ) M c S n g t)
        → Sound (state c S n g t) → Sound (after_promotion (spans τ) M c S n g t)
    unfolding BoundedState Fits measure_of kept_spans
    bounded_promotion c S n g t able f b = omega (arith, total_promote kept_spans (10000 + g) 0 g (λ b. refl) (λ b. refl) S able)

    move_advances : {born : Bool} {s u : Numbers} → Move (spans τ) M fuel frames born s u → Sound s → Sound u × (left u < left s)
    move_advances mv b = let f = move_falls (spans τ) M fuel frames mv (fits _ b) in (bounded_move mv f b, f.1)

    promotion_advances : (c : Control M.Code) (S : Stack (spans τ) M) (n g : ℕ) (t : RunCounts) → promotable S ≡ true
        → Sound (state c S n g t)
        → Sound (after_promotion (spans τ) M c S n g t) × (left (after_promotion (spans τ) M c S n g t) < left (state c S n g t))
    promotion_advances c S n g t able b =
        let f = promotion_falls (spans τ) M fuel frames c S n g t able (fits _ b) in
        (bounded_promotion c S n g t able f b, f.1)

    viewed : {born : Bool} {R : Numbers → Numbers → Type 0} {s : Numbers} {o : Result (spans τ) M}
        → View (spans τ) M fuel frames born R s o
        → ((u : Numbers) → R s u → Sound u × (left u < left s)) → Advances τ M fuel frames (left s) o
    unfolding Advances
    viewed is_value f = tt
    viewed (is_halt h) f = tt
    viewed (is_step {u = u} x) f = f u x

    -- By schedule.
    pub step_advances : (m : Schedule) (s : State (spans τ) M) → BoundedState τ M fuel frames s
        → Advances τ M fuel frames (measure_of (spans τ) M fuel frames s) (step (spans τ) M fuel frames m s)
    step_advances m s b = viewed (step_view (spans τ) M fuel frames m s) (λ u x. on x b)
      where
        on : {s u : Numbers} → Step (spans τ) M fuel frames m s u → Sound s → Sound u × (left u < left s)
        on (moves_on q mv) b = move_advances mv b
        on (promotes {c = c} {S = S} {n = n} {g = g} {t = t} h) b = promotion_advances c S n g t (due_promotable m n (promotable S) h) b

    -- By flags.
    pub step_by_advances : (born : Bool) (N : ℕ) (s : State (spans τ) M) → BoundedState τ M fuel frames s
        → Advances τ M fuel frames (measure_of (spans τ) M fuel frames s) (step_by (spans τ) M fuel frames born N s)
    unfolding step_by Advances
    step_by_advances born N (state c S n g t) b = on (leb N n && promotable S) refl
      where
        on : (q : Bool) → (leb N n && promotable S) ≡ q
            → Advances τ M fuel frames (left (state c S n g t))
            (cond q (ongoing (after_promotion (spans τ) M c S n g t)) (move (spans τ) M fuel frames born (state c S n g t)))
        on true e = promotion_advances c S n g t (and_true (leb N n) (promotable S) e).1 b
        on false e = viewed (move_view (spans τ) M fuel frames born (state c S n g t)) (λ u mv. move_advances mv b)

  pub start_bounded : (c : M.Code) → BoundedState τ M fuel frames (start (spans τ) M c)
  unfolding BoundedState start total measure returning
  start_bounded c = omega arith

  pub start_measure : (c : M.Code) → measure_of (spans τ) M fuel frames (start (spans τ) M c) ≡ 5 * fuel + frames
  unfolding start total measure_of measure returning
  start_measure c = omega arith

  -- A period that no credits reach is none.
  never_due : (born : Bool) (N : ℕ) (s : Numbers) → fuel < N → Sound s
      → move (spans τ) M fuel frames born s ≡ step_by (spans τ) M fuel frames born N s
  unfolding step_by BoundedState
  never_due born N (state c S n g t) h b = let x : leb N n ≡ false = lt-leb N n (omega arith) in rw x

  -- The flags of a schedule are its step.
  pub flags_are : (m : Schedule) (born : Bool) (N : ℕ) → Flags fuel m born N → (s : State (spans τ) M) → BoundedState τ M fuel frames s
      → step (spans τ) M fuel frames m s ≡ step_by (spans τ) M fuel frames born N s
  unfolding step promoted_at_birth promotion_due Flags step_by
  flags_are sequential born N h (state c S n g t) b = rw h.0 (never_due false N (state c S n g t) h.1 b)
  flags_are parallel born N h (state c S n g t) b = rw h.0 (never_due true N (state c S n g t) h.1 b)
  flags_are (heartbeat period) born N h (state c S n g t) b = rw (h.0, h.1)
