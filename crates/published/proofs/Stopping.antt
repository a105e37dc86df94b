-- The stops beside the three figures as one family over the schedule, as `Eval` is of the judgments (Schedules.antt). A parallel fork and a promotion are
-- one thing here: a control and a stack are split into a left machine, a fork and what lies below it. Letters as in specs/Stops.antt.
use mathlib.Core.Path.{◌≡◌, ap}
use mathlib.Core.List.{[], ◌∷◌, ◌++◌}
use mathlib.Core.Bool.{true, false, ◌&&◌}
use Prim.Native.Nat.{ℕ, ◌+◌, ◌≤◌, max}
use native.Mathlib.Omega.{arith}
use lib.ListN.{length, length-append}
use Rattle.schedule.specs.FrameMachine.{Place, Control, evaluate, open_fork, FrameMachine}
use Rattle.schedule.specs.Machine.{Schedule, promoted_at_birth, promotion_due}
use Rattle.published.specs.CostGraph.{CostGraph, ◌·◌, ◌∥◌}
use Rattle.published.specs.Judgments.{awaiting_left, PlainStack, can_promote, Transition, forks_at}
use Rattle.published.specs.Resources.{fork_frames}
use Rattle.published.specs.Stops.{NoneFree, Halts}
use Rattle.published.proofs.Schedules.{Eval, by_fork, by_promotion, tall}

-- The machine c with the stack S splits: d with the stack N runs on the left, then the right branch of b, then its body with the stack Y.
pub data Splits (M : FrameMachine) (m : Schedule) : Control M.Code → PlainStack M → ℕ → Control M.Code → PlainStack M → M.Fork
    → PlainStack M → Type 0 where
  at_birth : {c d : M.Code} {b : M.Fork} {S : PlainStack M} {n : ℕ} → promoted_at_birth m ≡ true → M.next c ≡ open_fork b d
      → Splits M m (evaluate c) S n (evaluate d) [] b S
  at_promotion : {c : Control M.Code} {b : M.Fork} {S newer older : PlainStack M} {n : ℕ} → S ≡ newer ++ (awaiting_left b ∷ older)
      → promotion_due m n true ≡ true → can_promote older ≡ false → Splits M m c S n c newer b older

-- PARPAIR and HBPROMOTE as one.
pub split_eval : {M : FrameMachine} {m : Schedule} {c d : Control M.Code} {S N Y : PlainStack M} {b : M.Fork} {n u w v : ℕ}
    {g1 g2 g3 : CostGraph} {k1 k2 k3 p1 p2 p3 : ℕ} → Splits M m c S n d N b Y
    → Eval M m d N 0 u g1 k1 p1 → Eval M m (evaluate (M.right b)) [] 0 w g2 k2 p2 → Eval M m (evaluate (M.body b u w)) Y 0 v g3 k3 p3
    → Eval M m c S n v (g1 ∥ g2 · g3) (k1 + k2 + k3) (fork_frames (length Y) p1 p2 p3)
split_eval (at_birth q e) e1 e2 e3 = by_fork q e e1 e2 e3
split_eval (at_promotion s q o) e1 e2 e3 = by_promotion s q o e1 e2 e3

pub data Stops (M : FrameMachine) (m : Schedule) : ℕ → ℕ → Control M.Code → PlainStack M → ℕ → ℕ → Place → ℕ → ℕ → Type 0 where
  by_halt : {fuel frames : ℕ} {c : Control M.Code} {S : PlainStack M} {n i : ℕ} {p : Place} → promotion_due m n (can_promote S) ≡ false
      → promoted_at_birth m && forks_at M c ≡ false → Halts M fuel frames c S i p → Stops M m fuel frames c S n i p 0 (length S)
  by_no_frame : {fuel frames : ℕ} {c d : M.Code} {b : M.Fork} {S : PlainStack M} {n : ℕ} → promoted_at_birth m ≡ true
      → M.next c ≡ open_fork b d → NoneFree M frames S → Stops M m fuel frames (evaluate c) S n 21 (M.code_place c) 0
      (length S)
  after_step : {fuel frames : ℕ} {c d : Control M.Code} {S T : PlainStack M} {n i : ℕ} {p : Place} {k h : ℕ}
      → promotion_due m n (can_promote S) ≡ false → promoted_at_birth m && forks_at M c ≡ false → Transition M c S d T
      → Stops M m fuel frames d T (n + 1) i p k h → length T ≤ frames
      → Stops M m (fuel + 1) frames c S n i p (k + 1) (max (length S) h)
  in_left : {fuel free : ℕ} {c d : Control M.Code} {S N Y : PlainStack M} {b : M.Fork} {n i : ℕ} {p : Place} {k h : ℕ}
      → Splits M m c S n d N b Y → Stops M m fuel free d N 0 i p k h → Stops M m fuel (length Y + 1 + free) c S n i p k (length Y + 1 + h)
  in_right : {fuel free : ℕ} {c d : Control M.Code} {S N Y : PlainStack M} {b : M.Fork} {n u : ℕ} {g : CostGraph} {k1 p1 : ℕ}
      {i : ℕ} {p : Place} {k h : ℕ}
      → Splits M m c S n d N b Y → Eval M m d N 0 u g k1 p1 → Stops M m fuel free (evaluate (M.right b)) [] 0 i p k h → p1 ≤ free
      → Stops M m (k1 + fuel) (length Y + 1 + free) c S n i p (k1 + k) (length Y + 1 + max p1 h)
  in_body : {fuel frames : ℕ} {c d : Control M.Code} {S N Y : PlainStack M} {b : M.Fork} {n u w : ℕ} {g1 g2 : CostGraph}
      {k1 p1 k2 p2 : ℕ} {i : ℕ} {p : Place} {k h : ℕ}
      → Splits M m c S n d N b Y → Eval M m d N 0 u g1 k1 p1 → Eval M m (evaluate (M.right b)) [] 0 w g2 k2 p2
      → Stops M m fuel frames (evaluate (M.body b u w)) Y 0 i p k h → length Y + 1 + p1 ≤ frames → length Y + 1 + p2 ≤ frames
      → Stops M m (k1 + k2 + fuel) frames c S n i p (k1 + k2 + k) (fork_frames (length Y) p1 p2 h)

-- Fuel, frames, transitions and depth are numbers, in whatever way a rule writes them.
pub at_limits : {M : FrameMachine} {m : Schedule} {fuel fuel' frames frames' : ℕ} {c : Control M.Code} {S : PlainStack M} {n i : ℕ} {p : Place}
    {k k' h h' : ℕ} → Stops M m fuel frames c S n i p k h → fuel ≡ fuel' → frames ≡ frames' → k ≡ k' → h ≡ h'
    → Stops M m fuel' frames' c S n i p k' h'
at_limits a f r e d = rw (f, r, e, d) at a

-- As `tall` (Schedules.antt): a stop's depth is at least the frames of its stack.
split_tall : {M : FrameMachine} {m : Schedule} {c d : Control M.Code} {S N Y : PlainStack M} {b : M.Fork} {n : ℕ} → Splits M m c S n d N b Y
    → length S ≤ length N + 1 + length Y
split_tall (at_birth q e) = omega arith
split_tall (at_promotion {b = b} {newer = N} {older = Y} s q o) = omega (arith, ap length s, length-append N (awaiting_left b ∷ Y))

pub stop_tall : {M : FrameMachine} {m : Schedule} {fuel frames : ℕ} {c : Control M.Code} {S : PlainStack M} {n i : ℕ} {p : Place} {k h : ℕ}
    → Stops M m fuel frames c S n i p k h → length S ≤ h
stop_tall (by_halt q f x) = omega arith
stop_tall (by_no_frame q e l) = omega arith
stop_tall (after_step q f x a l) = omega arith
stop_tall (in_left x a) = omega (arith, split_tall x, stop_tall a)
stop_tall (in_right x e1 a h1) = omega (arith, split_tall x, tall e1)
stop_tall (in_body x e1 e2 a h1 h2) = omega (arith, split_tall x, tall e1)
