-- The work of a run is its transitions and τ for each of its forks, whatever the schedule.
use Prim.Native.Nat.{ℕ, ◌+◌, ◌*◌}
use mathlib.Core.Path.{◌≡◌, refl, sym}
use mathlib.Core.Bool.{Bool, false, true≢false}
use mathlib.Core.List.{List, [], ◌∷◌}
use native.Mathlib.Nat.{mul-suc}
use native.Mathlib.Omega.{arith}
use Rattle.schedule.specs.Graph.{Graph, transition, work, span}
use Rattle.schedule.specs.Algebra.{graphs}
use Rattle.schedule.specs.FrameMachine.{FrameMachine}
use Rattle.schedule.specs.Machine.{Slot, ordinary, plain_left, plain_right, promoted_left, promoted_right, promotable, Ending, value, RunCounts, State, state, Schedule, sequential, promoted_at_birth, promotion_due, start}
use Rattle.schedule.specs.Runs.{moves, outcome}
use Rattle.schedule.specs.Bounds.{total}
use Rattle.schedule.specs.Demand.{WorkCounted, Chain, SequentialChain}
use Rattle.schedule.proofs.Moves.{due_promotable, Move, goes_on, opens, closes, keeps_frame, forks, turns, joins, forks_freely, turns_freely, joins_freely, Step, moves_on, promotes, Way, to_value, to_halt, via, way, at_value}
use Rattle.schedule.proofs.Stacks.{total_promote}

-- The work of the graphs that a frame keeps, and its fork's.
unfoldable pub kept_work : {Frame Fork : Type 0} → ℕ → Slot Graph Frame Fork → ℕ
kept_work τ (ordinary f) = 0
kept_work τ (plain_left b) = 0
kept_work τ (plain_right b v) = 0
kept_work τ (promoted_left g b) = work τ g + τ
kept_work τ (promoted_right g l b v) = work τ g + work τ l + τ

module _ (M : FrameMachine) (fuel frames τ : ℕ) where
  unfoldable pub Counted : State graphs M → Type 0
  Counted (state c S n g t) = work τ g + total (kept_work τ) S ≡ t.transitions + τ * t.forks

  counted_move : {born : Bool} {s u : State graphs M} → Move graphs M fuel frames born s u → Counted s → Counted u
  unfolding Counted work total kept_work
  counted_move (goes_on e l) i = omega arith
  counted_move (opens e l r) i = omega arith
  counted_move (closes e l) i = omega arith
  counted_move (keeps_frame e l) i = omega arith
  counted_move (forks e l r) i = omega arith
  counted_move (turns l) i = omega arith
  counted_move (joins l) i = omega arith
  counted_move (forks_freely {t = t} e r) i = omega (arith, mul-suc τ t.forks)
  counted_move turns_freely i = omega arith
  counted_move joins_freely i = omega arith

  pub counted_step : (m : Schedule) (s u : State graphs M) → Step graphs M fuel frames m s u → Counted s → Counted u
  unfolding Counted work kept_work
  counted_step m s u (moves_on q mv) i = counted_move mv i
  counted_step m s u (promotes {S = S} {n = n} {g = g} {t = t} h) i =
      let able = due_promotable m n (promotable S) h in
      omega (arith, mul-suc τ t.forks, total_promote (kept_work τ) (work τ g + τ) 0 g (λ b. refl) (λ b. refl) S able)

pub work_counted : WorkCounted
unfolding outcome start Counted work total
work_counted M fuel frames τ m c v g t e =
    let w = way graphs M fuel frames m (moves fuel frames) (start graphs M c) (value v) g t e in
    omega (arith, (at_value graphs M fuel frames m (Counted M fuel frames τ) (counted_step M fuel frames τ m) w (omega arith)).1)

-- A sequential run has no promoted frame, and its graph is a chain.
unfoldable pub AllPlain : {Cost Frame Fork : Type 0} → List (Slot Cost Frame Fork) → Type 0
AllPlain [] = Unit {0}
AllPlain (ordinary f ∷ S) = AllPlain S
AllPlain (plain_left b ∷ S) = AllPlain S
AllPlain (plain_right b v ∷ S) = AllPlain S
AllPlain (promoted_left g b ∷ S) = ⊥
AllPlain (promoted_right g l b v ∷ S) = ⊥

module _ (M : FrameMachine) (fuel frames τ : ℕ) where
  unfoldable ChainState : State graphs M → Type 0
  ChainState (state c S n g t) = AllPlain S × Chain τ g t

  one_more : {g : Graph} {t u : RunCounts} → u.transitions ≡ t.transitions + 1 → u.forks ≡ t.forks → Chain τ g t
      → Chain τ (transition g) u
  unfolding work span
  one_more e f i = record { work_is = omega arith; span_is = omega arith; forks_are = omega arith }

  chain_move : {s u : State graphs M} → Move graphs M fuel frames false s u → ChainState s → ChainState u
  unfolding ChainState AllPlain
  chain_move (goes_on e l) i = (i.0, one_more refl refl i.1)
  chain_move (opens e l r) i = (i.0, one_more refl refl i.1)
  chain_move (closes e l) i = (i.0, one_more refl refl i.1)
  chain_move (keeps_frame e l) i = (i.0, one_more refl refl i.1)
  chain_move (forks e l r) i = (i.0, one_more refl refl i.1)
  chain_move (turns l) i = (i.0, one_more refl refl i.1)
  chain_move (joins l) i = (i.0, one_more refl refl i.1)
  chain_move turns_freely i = absurd i.0
  chain_move joins_freely i = absurd i.0

  chain_way : {z : Ending} {g : Graph} {t : RunCounts} {s : State graphs M} → Way graphs M fuel frames sequential z g t s → ChainState s
      → Chain τ g t
  unfolding ChainState promoted_at_birth promotion_due
  chain_way (to_value e) i = i.1
  chain_way (to_halt e h) i = i.1
  chain_way (via (moves_on q mv) w) i = chain_way w (chain_move mv i)
  chain_way (via (promotes h) w) i = absurd (true≢false (sym h))

pub sequential_chain : SequentialChain
unfolding outcome start ChainState AllPlain work span
sequential_chain M fuel frames τ c z g t e =
    let w = way graphs M fuel frames sequential (moves fuel frames) (start graphs M c) z g t e in
    chain_way M fuel frames τ w (tt, record { work_is = refl; span_is = refl; forks_are = refl })
