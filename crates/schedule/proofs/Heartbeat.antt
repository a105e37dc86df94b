-- What the heartbeat's steps keep: the plain frames above the promoted ones, the credits, and the potential below its bound.
use Prim.Native.Nat.{ℕ, ◌+◌, ◌*◌, ◌≤◌, ◌<◌, min}
use mathlib.Core.Path.{◌≡◌, refl}
use mathlib.Core.Bool.{true, false}
use native.Mathlib.Nat.{mul-suc, le_trans}
use native.Mathlib.Omega.{arith}
use lib.Dec.{leb}
use borrow.Author.Tests.{leb-true, leb-false}
use Rattle.schedule.specs.Graph.{Graph, span}
use Rattle.schedule.specs.Algebra.{CostAlgebra, graphs}
use Rattle.schedule.specs.FrameMachine.{Control, FrameMachine}
use Rattle.schedule.specs.Machine.{Stack, promotable, RunCounts, State, state, heartbeat, promoted_at_birth, promotion_due, after_promotion, after_join}
use Rattle.schedule.proofs.Moves.{and_true, and_false, Move, goes_on, opens, closes, keeps_frame, forks, turns, joins, turns_freely, joins_freely, Step, moves_on, promotes}
use Rattle.schedule.proofs.Stacks.{Layered, layered_promote}
use Rattle.schedule.proofs.ToCome.{ToCome, before, before_step}
use Rattle.schedule.proofs.Potential.{Φ, Ψ, Ψ-transition, Ψ-fork, Ψ-turn, Ψ-join, Ψ-free-turn, Ψ-free-join, Ψ-promote}

-- A stack as promotions of the oldest leave it.
unfoldable pub LayeredState : (K : CostAlgebra) (M : FrameMachine) → State K M → Type 0
LayeredState K M (state c S n g t) = Layered S

-- 01: "Several promotions in a row are possible only with N transitions between them in a machine."
unfoldable pub Paid : (K : CostAlgebra) (M : FrameMachine) → ℕ → State K M → Type 0
Paid K M N (state c S n g t) = N * t.forks + n ≤ t.transitions

module _ (K : CostAlgebra) (M : FrameMachine) (fuel frames : ℕ) where
  pub layered_move : {s u : State K M} → Move K M fuel frames false s u → LayeredState K M s → LayeredState K M u
  unfolding LayeredState Layered
  layered_move (goes_on e l) i = i
  layered_move (opens e l r) i = i
  layered_move (closes e l) i = i
  layered_move (keeps_frame e l) i = i
  layered_move (forks e l r) i = i
  layered_move (turns l) i = i
  layered_move (joins l) i = i
  layered_move turns_freely i = i
  layered_move joins_freely i = i.1

  pub layered_promoted : (c : Control M.Code) (S : Stack K M) (n : ℕ) (g : K.Cost) (t : RunCounts) → promotable S ≡ true
      → LayeredState K M (state c S n g t) → LayeredState K M (after_promotion K M c S n g t)
  unfolding LayeredState
  layered_promoted c S n g t able i = layered_promote g S able i

  pub paid_move : (N : ℕ) {s u : State K M} → Move K M fuel frames false s u → Paid K M N s → Paid K M N u
  unfolding Paid
  paid_move N (goes_on e l) i = omega arith
  paid_move N (opens e l r) i = omega arith
  paid_move N (closes e l) i = omega arith
  paid_move N (keeps_frame e l) i = omega arith
  paid_move N (forks e l r) i = omega arith
  paid_move N (turns l) i = omega arith
  paid_move N (joins l) i = omega arith
  paid_move N turns_freely i = omega arith
  paid_move N joins_freely i = omega arith

  pub paid_promotion : (N : ℕ) (c : Control M.Code) (S : Stack K M) (n : ℕ) (g : K.Cost) (t : RunCounts) → N ≤ n
      → Paid K M N (state c S n g t) → Paid K M N (after_promotion K M c S n g t)
  unfolding Paid
  paid_promotion N c S n g t h i = omega (arith, mul-suc N t.forks)

abbrev graph_of : (M : FrameMachine) → State graphs M → Graph
graph_of M (state c S n g t) = g

-- The potential of a state. `hand` tells what is in hand from the credits.
unfoldable pub potential : (M : FrameMachine) → ℕ → ℕ → (ℕ → ℕ) → State graphs M → ToCome → ℕ
potential M τ G hand (state c S n g t) y = Ψ τ G (hand n) g y.here S y.ahead

-- What a transition must find in hand, and leave there: below G where a promotion is open, one more after it, and some after any.
unfoldable pub InHand : (K : CostAlgebra) (M : FrameMachine) → ℕ → (ℕ → ℕ) → (ℕ → ℕ) → State K M → Type 0
InHand K M G hand hand' (state c S n g t) =
    (promotable S ≡ true → hand n < G) × (promotable S ≡ true → hand' (n + 1) ≡ hand n + 1) × (1 ≤ hand' (n + 1))

module _ (M : FrameMachine) (fuel frames τ G : ℕ) (τ-positive : 1 ≤ τ) where
  -- NO MOVE RAISES IT. The hand before and after the move may differ in more than credits: the lateness of a runtime goes in there.
  pub move_pays : (hand hand' : ℕ → ℕ) {s u : State graphs M} (mv : Move graphs M fuel frames false s u) (y : ToCome)
      → LayeredState graphs M s → InHand graphs M G hand hand' s
      → potential M τ G hand' u y ≤ potential M τ G hand s (before graphs M fuel frames τ mv y)
  unfolding potential before LayeredState Layered InHand Φ promotable span
  move_pays hand hand' (goes_on {S = S} {n = n} {g = g} e l) y o h =
      Ψ-transition τ G τ-positive (hand n) (hand' (n + 1)) y.here g S y.ahead h.1
  move_pays hand hand' (opens {S = S} {n = n} {g = g} e l r) y o h =
      Ψ-transition τ G τ-positive (hand n) (hand' (n + 1)) y.here g S y.ahead h.1
  move_pays hand hand' (closes {S = S} {n = n} {g = g} e l) y o h =
      Ψ-transition τ G τ-positive (hand n) (hand' (n + 1)) y.here g S y.ahead h.1
  move_pays hand hand' (keeps_frame {S = S} {n = n} {g = g} e l) y o h =
      Ψ-transition τ G τ-positive (hand n) (hand' (n + 1)) y.here g S y.ahead h.1
  move_pays hand hand' (forks {b = b} {S = S} {n = n} {g = g} e l r) y o h =
      Ψ-fork τ G τ-positive (hand n) (hand' (n + 1)) y.here g b S y.ahead h.1 h.2
  move_pays hand hand' (turns {b = b} {v = v} {S = S} {n = n} {g = g} l) y o h =
      Ψ-turn τ G τ-positive (hand n) (hand' (n + 1)) y.here v g b S y.ahead (λ e. h.1 refl) (h.0 refl)
  move_pays hand hand' (joins {b = b} {w = w} {S = S} {n = n} {g = g} l) y o h =
      Ψ-join τ G τ-positive (hand n) (hand' (n + 1)) y.here w g b S y.ahead h.1
  move_pays hand hand' (turns_freely {b = b} {v = v} {h = k} {S = S} {n = n} {g = g}) y o h =
      Ψ-free-turn τ G τ-positive (hand n) (hand' 0) y.here v g k b S y.ahead
  move_pays hand hand' (joins_freely {b = b} {v = v} {w = w} {h = k} {l = i} {S = S} {n = n} {g = g} {t = t}) y o h =
      let j = graph_of M (after_join graphs M b w v k i S n g t) in
      Ψ-free-join τ G τ-positive (hand n) (hand' 0) y.here w g k i j b S y.ahead o.0 (omega arith)

  -- Nor does a promotion, with at most G in hand.
  pub promotion_pays : (hand hand' : ℕ → ℕ) (c : Control M.Code) (S : Stack graphs M) (n : ℕ) (g : Graph) (t : RunCounts) (y : ToCome)
      → promotable S ≡ true → hand n ≤ G
      → potential M τ G hand' (after_promotion graphs M c S n g t) y ≤ potential M τ G hand (state c S n g t) y
  unfolding potential
  promotion_pays hand hand' c S n g t y able h = Ψ-promote τ G τ-positive (hand n) _ y.here g S y.ahead able h

-- All three, for the heartbeat of period N: in hand are its credits, up to N.
pub record Beating (M : FrameMachine) (N τ bound : ℕ) (s : State graphs M) (y : ToCome) : Type 0 where
  pub layered : LayeredState graphs M s
  pub paid : Paid graphs M N s
  pub below : potential M τ N (λ n. min n N) s y ≤ bound

module _ (M : FrameMachine) (fuel frames N τ bound : ℕ) (N-positive : 1 ≤ N) (τ-positive : 1 ≤ τ) where
  abbrev hand : ℕ → ℕ
  hand n = min n N

  pub beating_kept : (s u : State graphs M) (x : Step graphs M fuel frames (heartbeat N) s u) (y : ToCome)
      → Beating M N τ bound s (before_step graphs M fuel frames τ (heartbeat N) x y) → Beating M N τ bound u y
  unfolding promotion_due promoted_at_birth before_step InHand
  beating_kept s u (moves_on {S = S} {n = n} q mv) y i =
      let low : promotable S ≡ true → n < N = λ e. leb-false N n (and_false (leb N n) (promotable S) q e) in
      let pays = move_pays M fuel frames τ N τ-positive hand hand mv y i.layered
      (λ e. omega (arith, low e), λ e. omega (arith, low e), omega arith) in
      record {
        layered = layered_move graphs M fuel frames mv i.layered;
        paid = paid_move graphs M fuel frames N mv i.paid;
        below = le_trans pays i.below;
      }
  beating_kept s u (promotes {c = c} {S = S} {n = n} {g = g} {t = t} h) y i =
      let due = and_true (leb N n) (promotable S) h in
      let pays = promotion_pays M fuel frames τ N τ-positive hand hand c S n g t y due.1 (omega arith) in
      record {
        layered = layered_promoted graphs M fuel frames c S n g t due.1 i.layered;
        paid = paid_promotion graphs M fuel frames N c S n g t (leb-true N n due.0) i.paid;
        below = le_trans pays i.below;
      }
