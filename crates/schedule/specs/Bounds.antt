-- What code that keeps spans in words may rely on at every state, and the measure of its loop. The laws are in proofs/Bounds.antt: every step
-- keeps the bounds and makes the measure smaller.
use Rattle.std.specs.Prelude.{ℕ, ◌+◌, ◌*◌, ◌-◌, ◌≤◌, ◌<◌, ◌≡◌, Bool, true, false, cond, ◌&&◌, List, [], ◌∷◌, leb, length}
use Rattle.schedule.specs.Algebra.{CostAlgebra, spans}
use Rattle.schedule.specs.FrameMachine.{Control, evaluate, return, FrameMachine}
use Rattle.schedule.specs.Machine.{Slot, ordinary, plain_left, plain_right, promoted_left, promoted_right, Stack, promotable, RunCounts, State, state, Result, ended, ongoing, Schedule, sequential, parallel, heartbeat, after_promotion, move}

-- The sum over a stack of a number for each of its frames.
unfoldable pub total : {Cost Frame Fork : Type 0} → (Slot Cost Frame Fork → ℕ) → List (Slot Cost Frame Fork) → ℕ
total f [] = 0
total f (s ∷ S) = f s + total f S

-- A plain frame that awaits its left counts 1.
unfoldable pub plain_lefts : {Cost Frame Fork : Type 0} → Slot Cost Frame Fork → ℕ
plain_lefts (ordinary f) = 0
plain_lefts (plain_left b) = 1
plain_lefts (plain_right b v) = 0
plain_lefts (promoted_left g b) = 0
plain_lefts (promoted_right g l b v) = 0

-- A returning value counts 1.
unfoldable pub returning : {Code : Type 0} → Control Code → ℕ
returning (evaluate c) = 0
returning (return v) = 1

-- A schedule by two flags, as code has it: is a fork promoted at its birth, and the period. A period above the fuel is never reached.
unfoldable pub step_by : (K : CostAlgebra) (M : FrameMachine) (fuel frames : ℕ) → Bool → ℕ → State K M → Result K M
step_by K M fuel frames born N (state c S n g t) =
    cond (leb N n && promotable S) (ongoing (after_promotion K M c S n g t)) (move K M fuel frames born (state c S n g t))

-- The flags that a schedule has.
unfoldable pub Flags : ℕ → Schedule → Bool → ℕ → Type 0
Flags fuel sequential born N = (born ≡ false) × (fuel < N)
Flags fuel parallel born N = (born ≡ true) × (fuel < N)
Flags fuel (heartbeat period) born N = (born ≡ false) × (N ≡ period)

module _ (K : CostAlgebra) (M : FrameMachine) (fuel frames : ℕ) where
  -- THE MEASURE, from the transitions made. Every step of every schedule makes it smaller. A transition uses up 5, and gives back at most 2 for a
  -- returning value and 1 for a closed frame. An arrival at a promoted frame uses up the 2, and a join gives back its frame. A promotion uses
  -- up a plain frame, and a free fork a free one. At the start it is 5 * fuel + frames.
  unfoldable pub measure : Control M.Code → Stack K M → ℕ → ℕ
  measure c S made = 5 * (fuel - made) + (frames - length S) + 2 * returning c + total plain_lefts S

  unfoldable pub measure_of : State K M → ℕ
  measure_of (state c S n g t) = measure c S t.transitions

-- The spans that a promoted frame keeps, with the most that τ adds at its join. 01 has τ at most 10,000.
unfoldable pub kept_spans : {Frame Fork : Type 0} → Slot ℕ Frame Fork → ℕ
kept_spans (ordinary f) = 0
kept_spans (plain_left b) = 0
kept_spans (plain_right b v) = 0
kept_spans (promoted_left g b) = 10000 + g
kept_spans (promoted_right g l b v) = 10000 + g + l

-- What every step keeps, where τ is at most 10,000. With fuel at most 100,000,000 and 4,096 frames no sum of counts passes 2 ^ 60, so
-- that code need not test its sums.
pub record Bounded (τ : ℕ) (M : FrameMachine) (fuel frames : ℕ) (c : Control M.Code) (S : Stack (spans τ) M) (n g : ℕ) (t : RunCounts)
    : Type 0 where
  pub within_fuel : t.transitions ≤ fuel
  pub within_frames : length S ≤ frames
  pub depth : t.deepest ≤ frames
  pub credits : n ≤ t.transitions
  pub spanned : n ≤ g
  pub costs : total kept_spans S + g ≤ t.transitions + 10000 * t.forks
  pub forks : t.forks + measure (spans τ) M fuel frames c S t.transitions ≤ 5 * fuel + frames

unfoldable pub BoundedState : (τ : ℕ) (M : FrameMachine) (fuel frames : ℕ) → State (spans τ) M → Type 0
BoundedState τ M fuel frames (state c S n g t) = Bounded τ M fuel frames c S n g t

-- A step has ended, or leads to a bounded state of a smaller measure.
unfoldable pub Advances : (τ : ℕ) (M : FrameMachine) (fuel frames : ℕ) → ℕ → Result (spans τ) M → Type 0
Advances τ M fuel frames k (ended z g t) = Unit {0}
Advances τ M fuel frames k (ongoing s) = BoundedState τ M fuel frames s × (measure_of (spans τ) M fuel frames s < k)
