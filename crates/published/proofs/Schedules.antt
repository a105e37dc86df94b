-- The three judgments as one family over the schedule, which carries every proof; and a transition of the paper on the flat machine. A machine's own
-- stack is a list of plain frames, laid above a flat stack that holds nothing to promote. Letters as in specs/Judgments.antt; k transitions, p frames,
-- R the rest of the flat stack, h a graph of the flat machine, t its counts.
use mathlib.Core.Path.{◌≡◌, refl, ap, sym}
use mathlib.Core.List.{List, [], ◌∷◌, ◌++◌}
use mathlib.Core.Bool.{Bool, true, false, true≢false, ◌&&◌}
use Prim.Native.Nat.{ℕ, ◌+◌, ◌≤◌, ◌<◌, max}
use native.Mathlib.Omega.{arith}
use lib.Dec.{leb}
use lib.ListN.{length, length-append}
use Rattle.schedule.specs.Graph.{Graph, transition}
use Rattle.schedule.specs.Algebra.{graphs}
use Rattle.schedule.specs.FrameMachine.{Control, evaluate, return, open_fork, FrameMachine}
use Rattle.schedule.specs.Machine.{Slot, ordinary, plain_left, plain_right, promoted_left, promoted_right, Stack, promotable, promote, RunCounts, tick, deeper, state, ongoing, Schedule, sequential, parallel, heartbeat, promoted_at_birth, promotion_due, move}
use Rattle.schedule.proofs.Moves.{goes_on, opens, closes, keeps_frame, forks, turns, joins, move_is}
use Rattle.published.specs.CostGraph.{CostGraph, 𝟎, 𝟏, ◌·◌, ◌∥◌}
use Rattle.published.specs.Judgments.{PlainFrame, ordinary_frame, awaiting_left, awaiting_right, PlainStack, can_promote, Transition, continue, open_ordinary, open_both, close_ordinary, keep_ordinary, turn, join, is_fork, forks_at}
use Rattle.published.specs.Resources.{fork_frames}

-- The three figures as one: what the schedule says decides between a step, a fork and a promotion. Transitions and frames are indices.
pub data Eval (M : FrameMachine) (m : Schedule) : Control M.Code → PlainStack M → ℕ → ℕ → CostGraph → ℕ → ℕ → Type 0 where
  by_value : {v n : ℕ} → Eval M m (return v) [] n v 𝟎 0 0
  by_step : {c d : Control M.Code} {S T : PlainStack M} {n v : ℕ} {g : CostGraph} {k p : ℕ} → promotion_due m n (can_promote S) ≡ false
      → promoted_at_birth m && forks_at M c ≡ false → Transition M c S d T
      → Eval M m d T (n + 1) v g k p → Eval M m c S n v (𝟏 · g) (k + 1) (max (length S) p)
  by_fork : {c d : M.Code} {b : M.Fork} {S : PlainStack M} {n u w v : ℕ} {g1 g2 g3 : CostGraph} {k1 k2 k3 p1 p2 p3 : ℕ}
      → promoted_at_birth m ≡ true → M.next c ≡ open_fork b d
      → Eval M m (evaluate d) [] 0 u g1 k1 p1 → Eval M m (evaluate (M.right b)) [] 0 w g2 k2 p2
      → Eval M m (evaluate (M.body b u w)) S 0 v g3 k3 p3
      → Eval M m (evaluate c) S n v (g1 ∥ g2 · g3) (k1 + k2 + k3) (fork_frames (length S) p1 p2 p3)
  by_promotion : {c : Control M.Code} {b : M.Fork} {S newer older : PlainStack M} {n u w v : ℕ} {g1 g2 g3 : CostGraph}
      {k1 k2 k3 p1 p2 p3 : ℕ} → S ≡ newer ++ (awaiting_left b ∷ older) → promotion_due m n true ≡ true → can_promote older ≡ false
      → Eval M m c newer 0 u g1 k1 p1 → Eval M m (evaluate (M.right b)) [] 0 w g2 k2 p2
      → Eval M m (evaluate (M.body b u w)) older 0 v g3 k3 p3
      → Eval M m c S n v (g1 ∥ g2 · g3) (k1 + k2 + k3) (fork_frames (length older) p1 p2 p3)

-- A machine's own stack, above the rest of the flat machine's.
infixr 64 ◌⊕◌
abbrev pub ◌⊕◌ : {Frame Fork : Type 0} → List (PlainFrame Frame Fork) → List (Slot Graph Frame Fork) → List (Slot Graph Frame Fork)
[] ⊕ R = R
(ordinary_frame f ∷ S) ⊕ R = ordinary f ∷ (S ⊕ R)
(awaiting_left b ∷ S) ⊕ R = plain_left b ∷ (S ⊕ R)
(awaiting_right b w ∷ S) ⊕ R = plain_right b w ∷ (S ⊕ R)

module _ {Frame Fork : Type 0} where
  -- The running machine's own.
  unfoldable pub own : List (Slot Graph Frame Fork) → List (PlainFrame Frame Fork)
  own [] = []
  own (ordinary f ∷ S) = ordinary_frame f ∷ own S
  own (plain_left b ∷ S) = awaiting_left b ∷ own S
  own (plain_right b w ∷ S) = awaiting_right b w ∷ own S
  own (promoted_left g b ∷ S) = []
  own (promoted_right g l b w ∷ S) = []

  pub own_over : (S : List (PlainFrame Frame Fork)) → own (S ⊕ []) ≡ S
  unfolding own
  own_over [] = refl
  own_over (ordinary_frame f ∷ S) = rw (own_over S)
  own_over (awaiting_left b ∷ S) = rw (own_over S)
  own_over (awaiting_right b w ∷ S) = rw (own_over S)

  pub length_over : (S : List (PlainFrame Frame Fork)) (R : List (Slot Graph Frame Fork)) → length (S ⊕ R) ≡ length S + length R
  length_over [] R = omega arith
  length_over (ordinary_frame f ∷ S) R = omega (arith, length_over S R)
  length_over (awaiting_left b ∷ S) R = omega (arith, length_over S R)
  length_over (awaiting_right b w ∷ S) R = omega (arith, length_over S R)

  pub promotable_over : (S : List (PlainFrame Frame Fork)) (R : List (Slot Graph Frame Fork)) → promotable R ≡ false
      → promotable (S ⊕ R) ≡ can_promote S
  unfolding promotable can_promote
  promotable_over [] R h = h
  promotable_over (ordinary_frame f ∷ S) R h = promotable_over S R h
  promotable_over (awaiting_left b ∷ S) R h = refl
  promotable_over (awaiting_right b w ∷ S) R h = promotable_over S R h

  pub promotable_has : (N : List (PlainFrame Frame Fork)) (X : List (Slot Graph Frame Fork)) (b : Fork)
      → promotable (N ⊕ (plain_left b ∷ X)) ≡ true
  unfolding promotable
  promotable_has [] X b = refl
  promotable_has (ordinary_frame f ∷ S) X b = promotable_has S X b
  promotable_has (awaiting_left a ∷ S) X b = refl
  promotable_has (awaiting_right a w ∷ S) X b = promotable_has S X b

  pub can_promote_has : (N Y : List (PlainFrame Frame Fork)) (b : Fork) → can_promote (N ++ (awaiting_left b ∷ Y)) ≡ true
  unfolding can_promote
  can_promote_has [] Y b = refl
  can_promote_has (ordinary_frame f ∷ S) Y b = can_promote_has S Y b
  can_promote_has (awaiting_left a ∷ S) Y b = refl
  can_promote_has (awaiting_right a w ∷ S) Y b = can_promote_has S Y b

  pub promote_over : (g : Graph) (N : List (PlainFrame Frame Fork)) (X : List (Slot Graph Frame Fork)) (b : Fork) → promotable X ≡ false
      → promote g (N ⊕ (plain_left b ∷ X)) ≡ N ⊕ (promoted_left g b ∷ X)
  unfolding promote
  promote_over g [] X b h = rw h
  promote_over g (ordinary_frame f ∷ S) X b h = rw (promote_over g S X b h)
  promote_over g (awaiting_left a ∷ S) X b h = rw (promotable_has S X b, promote_over g S X b h)
  promote_over g (awaiting_right a w ∷ S) X b h = rw (promote_over g S X b h)

  pub over_app : (N S : List (PlainFrame Frame Fork)) (R : List (Slot Graph Frame Fork)) → (N ++ S) ⊕ R ≡ N ⊕ (S ⊕ R)
  over_app [] S R = refl
  over_app (ordinary_frame f ∷ N) S R = rw (over_app N S R)
  over_app (awaiting_left b ∷ N) S R = rw (over_app N S R)
  over_app (awaiting_right b w ∷ N) S R = rw (over_app N S R)

-- What every schedule says.
pub quiet : (m : Schedule) (n : ℕ) → promotion_due m n false ≡ false
unfolding promotion_due
quiet sequential n = refl
quiet parallel n = refl
quiet (heartbeat N) n = at (leb N n)
  where
    at : (q : Bool) → q && false ≡ false
    at true = refl
    at false = refl

pub born_quiet : (m : Schedule) (n : ℕ) (l : Bool) → promoted_at_birth m ≡ true → promotion_due m n l ≡ false
unfolding promoted_at_birth promotion_due
born_quiet sequential n l e = refl
born_quiet parallel n l e = refl
born_quiet (heartbeat N) n l e = absurd (true≢false (sym e))

-- A derivation holds at least the frames of its stack.
pub tall : {M : FrameMachine} {m : Schedule} {c : Control M.Code} {S : PlainStack M} {n v : ℕ} {g : CostGraph} {k p : ℕ}
    → Eval M m c S n v g k p → length S ≤ p
tall by_value = omega arith
tall (by_step q f t e) = omega arith
tall (by_fork b h e1 e2 e3) = omega arith
tall (by_promotion {b = b} {newer = N} {older = Y} s q h e1 e2 e3) =
    omega (arith, tall e1, ap length s, length-append N (awaiting_left b ∷ Y))

-- The flat machine on a machine's own stack.
module _ (M : FrameMachine) (fuel frames : ℕ) where
  -- A transition of the machine with stack S, above R.
  pub record Ticked (q : Bool) (c : Control M.Code) (S : PlainStack M) (d : Control M.Code) (T : PlainStack M) (R : Stack graphs M)
      (n : ℕ) (h : Graph) (t : RunCounts) : Type 0 where
    pub t' : RunCounts
    pub goes : move graphs M fuel frames q (state c (S ⊕ R) n h t) ≡ ongoing (state d (T ⊕ R) (n + 1) (transition h) t')
    pub transitions : t'.transitions ≡ t.transitions + 1
    pub forks : t'.forks ≡ t.forks
    pub deepest : t'.deepest ≡ max t.deepest (length T + length R)

  pub ticked : {c d : Control M.Code} {S T : PlainStack M} (q : Bool) → q && forks_at M c ≡ false → Transition M c S d T
      → (R : Stack graphs M) (n : ℕ) (h : Graph) (t : RunCounts)
      → t.transitions < fuel → length T + length R ≤ frames → length S + length R ≤ t.deepest → Ticked q c S d T R n h t
  unfolding forks_at is_fork
  ticked q f (continue e) R n h t l r p =
      record { t' = tick t; goes = move_is graphs M fuel frames (goes_on e l); transitions = refl; forks = refl; deepest = omega arith }
  ticked q f (open_ordinary {S = S} e) R n h t l r p =
      let o = length_over S R in
      record {
        t' = tick (deeper (length (S ⊕ R) + 1) t);
        goes = move_is graphs M fuel frames (opens e l (omega arith));
        transitions = refl;
        forks = refl;
        deepest = omega arith;
      }
  ticked true f (open_both e) R n h t l r p = absurd (true≢false (rw e at f))
  ticked false f (open_both {S = S} e) R n h t l r p =
      let o = length_over S R in
      record {
        t' = tick (deeper (length (S ⊕ R) + 1) t);
        goes = move_is graphs M fuel frames (forks e l (omega arith));
        transitions = refl;
        forks = refl;
        deepest = omega arith;
      }
  ticked q f (close_ordinary e) R n h t l r p =
      record { t' = tick t; goes = move_is graphs M fuel frames (closes e l); transitions = refl; forks = refl; deepest = omega arith }
  ticked q f (keep_ordinary e) R n h t l r p =
      record { t' = tick t; goes = move_is graphs M fuel frames (keeps_frame e l); transitions = refl; forks = refl; deepest = omega arith }
  ticked q f turn R n h t l r p =
      record { t' = tick t; goes = move_is graphs M fuel frames (turns l); transitions = refl; forks = refl; deepest = omega arith }
  ticked q f join R n h t l r p =
      record { t' = tick t; goes = move_is graphs M fuel frames (joins l); transitions = refl; forks = refl; deepest = omega arith }
