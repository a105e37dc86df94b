-- Within any fuel and frames a machine comes to its value or stops: of the rules alone, with no flat machine. By induction on fuel and frames together: a
-- step uses up fuel; the branches of a fork have fewer frames; and its body has less fuel, since a branch that starts at a node makes a transition.
use mathlib.Core.Path.{◌≡◌, refl, ap}
use mathlib.Core.List.{[], ◌∷◌}
use mathlib.Core.Bool.{Bool, true, false, ◌&&◌}
use mathlib.Core.Logic.{◌⊎◌, inl, inr}
use Prim.Native.Nat.{ℕ, zero, suc, ◌+◌, ◌-◌, ◌≤◌, ◌<◌, max}
use native.Mathlib.Numerals.{add-one}
use native.Mathlib.Omega.{arith}
use lib.Dec.{ltb}
use lib.ListN.{length, length-append}
use borrow.Author.Tests.{ltb-true, ltb-false}
use Rattle.schedule.specs.FrameMachine.{Place, Control, evaluate, return, Next, go_on, open_frame, open_fork, stuck, Arrival, close, keep, fail, FrameMachine}
use Rattle.schedule.specs.Machine.{Schedule, promoted_at_birth, promotion_due}
use Rattle.schedule.proofs.Moves.{due_promotable}
use Rattle.published.specs.CostGraph.{CostGraph, 𝟎, 𝟏, ◌·◌, ◌∥◌}
use Rattle.published.specs.Judgments.{ordinary_frame, awaiting_left, awaiting_right, PlainStack, can_promote, Transition, continue, open_ordinary, open_both, close_ordinary, keep_ordinary, turn, join, is_fork, forks_at}
use Rattle.published.specs.Resources.{fork_frames}
use Rattle.published.specs.Stops.{at_node, at_ordinary, at_left, at_right, NoneFree, Halts, fuel_spent, no_free_frame, no_frame_to_fork, stuck_at_node, fails_at_frame}
use Rattle.published.proofs.Schedules.{Eval, by_value, by_step, by_fork, by_promotion}
use Rattle.published.proofs.FromRun.{and_no, Cut, cut}
use Rattle.published.proofs.Stopping.{Splits, at_birth, at_promotion, split_eval, Stops, by_halt, by_no_frame, after_step, in_left, in_right, in_body, at_limits}

-- What starts at a node makes a transition before its value.
moves_first : {M : FrameMachine} {m : Schedule} {c : Control M.Code} {S : PlainStack M} {n v : ℕ} {g : CostGraph} {k p : ℕ} {d : M.Code}
    → Eval M m c S n v g k p → c ≡ evaluate d → 0 < k
moves_first by_value e = let no : ◌≡◌ {A = ℕ} 0 1 = cc in absurd (omega arith)
moves_first (by_step q f x a) e = omega arith
moves_first (by_fork q h e1 e2 e3) e = omega (arith, moves_first e1 refl)
moves_first (by_promotion s q o e1 e2 e3) e = omega (arith, moves_first e1 e)

module _ (M : FrameMachine) (m : Schedule) where
  pub record Valued (fuel frames : ℕ) (c : Control M.Code) (S : PlainStack M) (n : ℕ) : Type 0 where
    pub v : ℕ
    pub g : CostGraph
    pub k : ℕ
    pub p : ℕ
    pub eval : Eval M m c S n v g k p
    pub fits : k ≤ fuel
    pub holds : p ≤ frames

  pub record Stopped (fuel frames : ℕ) (c : Control M.Code) (S : PlainStack M) (n : ℕ) : Type 0 where
    pub i : ℕ
    pub p : Place
    pub k : ℕ
    pub h : ℕ
    pub stops : Stops M m fuel frames c S n i p k h

  abbrev pub Comes : ℕ → ℕ → Control M.Code → PlainStack M → ℕ → Type 0
  Comes fuel frames c S n = Valued fuel frames c S n ⊎ Stopped fuel frames c S n

  abbrev Below : ℕ → Type 0
  Below a = (fuel frames : ℕ) (c : Control M.Code) (S : PlainStack M) (n : ℕ) → fuel + frames < a → length S ≤ frames
      → Comes fuel frames c S n

  at_end : {fuel frames : ℕ} {v n : ℕ} → Comes fuel frames (return v) [] n
  at_end {v = v} = inl (record { v = v; g = 𝟎; k = 0; p = 0; eval = by_value; fits = omega arith; holds = omega arith })

  halted : {fuel frames : ℕ} {c : Control M.Code} {S : PlainStack M} {n i : ℕ} {p : Place} → promotion_due m n (can_promote S) ≡ false
      → promoted_at_birth m && forks_at M c ≡ false → Halts M fuel frames c S i p → Comes fuel frames c S n
  halted {S = S} q f x = inr (record { i = _; p = _; k = 0; h = length S; stops = by_halt q f x })

  -- LEFT, RIGHT AND BODY of a split.
  module _ (a : ℕ) (ih : Below a) {c d : Control M.Code} {S N Y : PlainStack M} {b : M.Fork} {n : ℕ} (x : Splits M m c S n d N b Y)
      (fuel frames free : ℕ) (e : frames ≡ length Y + 1 + free) (le : fuel + frames < suc a) where
    body_comes : (y : Valued fuel free d N 0) (z : Valued (fuel - y.k) free (evaluate (M.right b)) [] 0)
        → Comes (fuel - y.k - z.k) frames (evaluate (M.body b y.v z.v)) Y 0 → Comes fuel frames c S n
    body_comes y z (inl r) =
        inl (record {
          v = r.v;
          g = y.g ∥ z.g · r.g;
          k = y.k + z.k + r.k;
          p = fork_frames (length Y) y.p z.p r.p;
          eval = split_eval x y.eval z.eval r.eval;
          fits = omega arith;
          holds = omega arith;
        })
    body_comes y z (inr r) =
        inr (record {
          i = r.i;
          p = r.p;
          k = y.k + z.k + r.k;
          h = fork_frames (length Y) y.p z.p r.h;
          stops = at_limits (in_body x y.eval z.eval r.stops (omega arith) (omega arith)) (omega arith) refl refl refl;
        })

    right_comes : (y : Valued fuel free d N 0) → Comes (fuel - y.k) free (evaluate (M.right b)) [] 0 → Comes fuel frames c S n
    right_comes y (inl r) =
        let l = moves_first r.eval refl in
        body_comes y r (ih (fuel - y.k - r.k) frames (evaluate (M.body b y.v r.v)) Y 0 (omega arith) (omega arith))
    right_comes y (inr r) =
        inr (record {
          i = r.i;
          p = r.p;
          k = y.k + r.k;
          h = length Y + 1 + max y.p r.h;
          stops = at_limits (in_right x y.eval r.stops y.holds) (omega arith) (omega arith) refl refl;
        })

    left_comes : Comes fuel free d N 0 → Comes fuel frames c S n
    left_comes (inl r) = right_comes r (ih (fuel - r.k) free (evaluate (M.right b)) [] 0 (omega arith) (omega arith))
    left_comes (inr r) =
        inr (record {
          i = r.i;
          p = r.p;
          k = r.k;
          h = length Y + 1 + r.h;
          stops = at_limits (in_left x r.stops) refl (omega arith) refl refl;
        })

    split_comes : length N ≤ free → Comes fuel frames c S n
    split_comes l = left_comes (ih fuel free d N 0 (omega arith) l)

  none_free : (frames : ℕ) (S : PlainStack M) → ltb (length S) frames ≡ false → NoneFree M frames S
  none_free frames S h = omega (arith, ltb-false (length S) frames h)

  -- A STEP.
  step_comes : {fuel frames : ℕ} {c d : Control M.Code} {S T : PlainStack M} {n : ℕ} → promotion_due m n (can_promote S) ≡ false
      → promoted_at_birth m && forks_at M c ≡ false → Transition M c S d T → length S ≤ frames → length T ≤ frames
      → Comes fuel frames d T (n + 1) → Comes (fuel + 1) frames c S n
  step_comes {S = S} q f x ls lt (inl r) =
      inl (record {
        v = r.v;
        g = 𝟏 · r.g;
        k = r.k + 1;
        p = max (length S) r.p;
        eval = by_step q f x r.eval;
        fits = omega arith;
        holds = omega arith;
      })
  step_comes {S = S} q f x ls lt (inr r) =
      inr (record { i = r.i; p = r.p; k = r.k + 1; h = max (length S) r.h; stops = after_step q f x r.stops lt })

  -- With no fuel.
  spent : (frames : ℕ) (c : Control M.Code) (S : PlainStack M) (n : ℕ) → promotion_due m n (can_promote S) ≡ false
      → promoted_at_birth m && forks_at M c ≡ false → Comes 0 frames c S n
  spent frames (evaluate c) S n q f = halted q f (fuel_spent (omega arith) at_node)
  spent frames (return v) [] n q f = at_end
  spent frames (return v) (ordinary_frame e ∷ S) n q f = halted q f (fuel_spent (omega arith) at_ordinary)
  spent frames (return v) (awaiting_left b ∷ S) n q f = halted q f (fuel_spent (omega arith) at_left)
  spent frames (return v) (awaiting_right b w ∷ S) n q f = halted q f (fuel_spent (omega arith) at_right)

  -- With fuel for a step.
  module _ (a : ℕ) (ih : Below a) (fuel frames : ℕ) (n : ℕ) (le : fuel + 1 + frames < suc a) where
    stepped : {c d : Control M.Code} {S T : PlainStack M} → promotion_due m n (can_promote S) ≡ false
        → promoted_at_birth m && forks_at M c ≡ false → Transition M c S d T → length S ≤ frames → length T ≤ frames
        → Comes (fuel + 1) frames c S n
    stepped {d = d} {T = T} q f x ls lt = step_comes q f x ls lt (ih fuel frames d T (n + 1) (omega arith) lt)

    at_code : (c : M.Code) (S : PlainStack M) (o : Next M.Code M.Frame M.Fork) → M.next c ≡ o
        → promotion_due m n (can_promote S) ≡ false → promoted_at_birth m && forks_at M (evaluate c) ≡ false → length S ≤ frames
        → Comes (fuel + 1) frames (evaluate c) S n
    at_code c S (go_on d) e q f ls = stepped q f (continue e) ls ls
    at_code c S (open_frame g d) e q f ls = on (ltb (length S) frames) refl
      where
        on : (z : Bool) → ltb (length S) frames ≡ z → Comes (fuel + 1) frames (evaluate c) S n
        on true h = let l = ltb-true (length S) frames h in stepped q f (open_ordinary e) ls (omega arith)
        on false h = halted q f (no_free_frame {S = S} (omega arith) e (none_free frames S h))
    at_code c S (open_fork b d) e q f ls = on (ltb (length S) frames) refl
      where
        on : (z : Bool) → ltb (length S) frames ≡ z → Comes (fuel + 1) frames (evaluate c) S n
        on true h = let l = ltb-true (length S) frames h in stepped q f (open_both e) ls (omega arith)
        on false h = halted q f (no_frame_to_fork {S = S} (omega arith) e (none_free frames S h))
    at_code c S (stuck i) e q f ls = halted q f (stuck_at_node (omega arith) e)

    at_frame : (g : M.Frame) (v : ℕ) (S : PlainStack M) (o : Arrival M.Code M.Frame) → M.arrive g v ≡ o
        → promotion_due m n (can_promote (ordinary_frame g ∷ S)) ≡ false → promoted_at_birth m && forks_at M (return v) ≡ false
        → suc (length S) ≤ frames → Comes (fuel + 1) frames (return v) (ordinary_frame g ∷ S) n
    at_frame g v S (close d) e q f ls = stepped q f (close_ordinary e) ls (omega arith)
    at_frame g v S (keep g' d) e q f ls = stepped q f (keep_ordinary e) ls ls
    at_frame g v S (fail i) e q f ls = halted q f (fails_at_frame (omega arith) e)

    fueled : (c : Control M.Code) (S : PlainStack M) → promotion_due m n (can_promote S) ≡ false
        → promoted_at_birth m && forks_at M c ≡ false → length S ≤ frames → Comes (fuel + 1) frames c S n
    fueled (evaluate c) S q f ls = at_code c S (M.next c) refl q f ls
    fueled (return v) [] q f ls = at_end
    fueled (return v) (ordinary_frame g ∷ S) q f ls = at_frame g v S (M.arrive g v) refl q f ls
    fueled (return v) (awaiting_left b ∷ S) q f ls = stepped q f turn ls ls
    fueled (return v) (awaiting_right b w ∷ S) q f ls = stepped q f join ls (omega arith)

  module _ (a : ℕ) (ih : Below a) (frames : ℕ) (n : ℕ) where
    -- Neither a fork that is promoted at its birth nor a promotion.
    quietly : (fuel : ℕ) → fuel + frames < suc a → (c : Control M.Code) (S : PlainStack M) → promotion_due m n (can_promote S) ≡ false
        → promoted_at_birth m && forks_at M c ≡ false → length S ≤ frames → Comes fuel frames c S n
    quietly zero le c S q f ls = spent frames c S n q f
    quietly (suc fuel) le c S q f ls = rw (add-one fuel) at (fueled a ih fuel frames n (omega arith) c S q f ls)

    module _ (fuel : ℕ) (le : fuel + frames < suc a) where
      -- A fork that is promoted at its birth.
      forked : (c d : M.Code) (b : M.Fork) (S : PlainStack M) → promoted_at_birth m ≡ true → M.next c ≡ open_fork b d
          → length S ≤ frames → Comes fuel frames (evaluate c) S n
      forked c d b S q e ls = on (ltb (length S) frames) refl
        where
          on : (z : Bool) → ltb (length S) frames ≡ z → Comes fuel frames (evaluate c) S n
          on true h =
              let l = ltb-true (length S) frames h in
              split_comes a ih (at_birth q e) fuel frames (frames - (length S + 1)) (omega arith) le (omega arith)
          on false h = inr (record { i = 21; p = M.code_place c; k = 0; h = length S; stops = by_no_frame q e (none_free frames S h) })

      born_at : (c : M.Code) (S : PlainStack M) (o : Next M.Code M.Frame M.Fork) → M.next c ≡ o
          → promotion_due m n (can_promote S) ≡ false → promoted_at_birth m ≡ true → length S ≤ frames → Comes fuel frames (evaluate c) S n
      unfolding forks_at is_fork
      born_at c S (go_on d) e q h ls = quietly fuel le (evaluate c) S q (rw e (and_no (promoted_at_birth m))) ls
      born_at c S (open_frame g d) e q h ls = quietly fuel le (evaluate c) S q (rw e (and_no (promoted_at_birth m))) ls
      born_at c S (open_fork b d) e q h ls = forked c d b S h e ls
      born_at c S (stuck i) e q h ls = quietly fuel le (evaluate c) S q (rw e (and_no (promoted_at_birth m))) ls

      unpromoted : (c : Control M.Code) (S : PlainStack M) → promotion_due m n (can_promote S) ≡ false → length S ≤ frames
          → Comes fuel frames c S n
      unfolding forks_at
      unpromoted (evaluate c) S q ls = on (promoted_at_birth m) refl
        where
          on : (z : Bool) → promoted_at_birth m ≡ z → Comes fuel frames (evaluate c) S n
          on true h = born_at c S (M.next c) refl q h ls
          on false h = quietly fuel le (evaluate c) S q (rw h refl) ls
      unpromoted (return v) S q ls = quietly fuel le (return v) S q (and_no (promoted_at_birth m)) ls

      promoted : (c : Control M.Code) (S : PlainStack M) → promotion_due m n true ≡ true → Cut S → length S ≤ frames
          → Comes fuel frames c S n
      promoted c S q x ls =
          let ln = length-append x.newer (awaiting_left x.b ∷ x.older) in
          let l = ap length x.is in
          split_comes a ih (at_promotion {c = c} {b = x.b} {newer = x.newer} {older = x.older} x.is q x.last) fuel frames
          (frames - (length x.older + 1)) (omega arith) le (omega arith)

      comes_at : (c : Control M.Code) (S : PlainStack M) → length S ≤ frames → Comes fuel frames c S n
      comes_at c S ls = on (promotion_due m n (can_promote S)) refl
        where
          on : (z : Bool) → promotion_due m n (can_promote S) ≡ z → Comes fuel frames c S n
          on true h = let l = due_promotable m n (can_promote S) h in promoted c S (rw l at h) (cut S l) ls
          on false h = unpromoted c S h ls

  below : (a : ℕ) → Below a
  below zero fuel frames c S n le ls = absurd (omega arith)
  below (suc a) fuel frames c S n le ls = comes_at a (below a) frames n fuel le c S ls

  pub comes : (fuel frames : ℕ) (c : Control M.Code) (S : PlainStack M) (n : ℕ) → length S ≤ frames → Comes fuel frames c S n
  comes fuel frames c S n = below (suc (fuel + frames)) fuel frames c S n (omega arith)
