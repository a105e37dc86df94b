-- From a derivation to the flat machine's run: over any stack that holds nothing to promote, after any graph and counts, within the limits. By
-- induction on the derivation.
use mathlib.Core.Path.{◌≡◌, refl, ap, ◌∙◌}
use mathlib.Core.List.{[], ◌∷◌, ◌++◌}
use mathlib.Core.Bool.{true, false, ◌&&◌}
use Prim.Native.Nat.{ℕ, suc, ◌+◌, ◌≤◌, ◌<◌, max}
use native.Mathlib.Omega.{arith}
use lib.ListN.{length, length-append}
use Rattle.schedule.specs.Graph.{Graph, empty, transition, fork}
use Rattle.schedule.specs.Algebra.{graphs}
use Rattle.schedule.specs.FrameMachine.{Control, evaluate, return, open_fork, FrameMachine}
use Rattle.schedule.specs.Machine.{plain_left, promoted_left, promoted_right, Stack, promotable, promote, RunCounts, split, deeper, State, state, Result, ongoing, Schedule, promoted_at_birth, promotion_due, move, step}
use Rattle.schedule.specs.Runs.{and_then, run}
use Rattle.schedule.proofs.Moves.{forks_freely, move_is, quiet_is, promotes, step_is}
use Rattle.published.specs.CostGraph.{CostGraph, 𝟏, ◌·◌, fork_count}
use Rattle.published.specs.Judgments.{awaiting_left, PlainStack, can_promote, Transition, forks_at}
use Rattle.published.specs.Resources.{fork_frames}
use Rattle.published.proofs.CostGraph.{◌▹◌}
use Rattle.published.proofs.Schedules.{Eval, by_value, by_step, by_fork, by_promotion, ◌⊕◌, length_over, promotable_over, promotable_has, promote_over, over_app, quiet, born_quiet, tall, ticked}

module _ (M : FrameMachine) (fuel frames : ℕ) (m : Schedule) where
  pub data Leads : State graphs M → State graphs M → Type 0 where
    stay : {s : State graphs M} → Leads s s
    on : {s u w : State graphs M} → step graphs M fuel frames m s ≡ ongoing u → Leads u w → Leads s w

  pub onto : {s u w : State graphs M} → Leads s u → Leads u w → Leads s w
  onto stay b = b
  onto (on e a) b = on e (onto a b)

  pub ends_as : {s u : State graphs M} → Leads s u → (j : ℕ) (o : Result graphs M) → run (step graphs M fuel frames m) j u ≡ o
      → (i : ℕ) × (run (step graphs M fuel frames m) i s ≡ o)
  unfolding run and_then
  ends_as stay j o e = (j, e)
  ends_as (on h a) j o e = let r = ends_as a j o e in (suc r.0, rw h r.1)

  -- The machine came to its value, above R.
  pub record Lands (s : State graphs M) (v : ℕ) (R : Stack graphs M) (g : Graph) (t : RunCounts) (k f p : ℕ) : Type 0 where
    pub n : ℕ
    pub t' : RunCounts
    pub goes : Leads s (state (return v) R n g t')
    pub transitions : t'.transitions ≡ t.transitions + k
    pub forks : t'.forks ≡ t.forks + f
    pub deepest : t'.deepest ≡ max t.deepest p

  -- What a derivation promises: over any stack R with nothing to promote, after any graph h and counts t, within the limits.
  pub record Comes (c : Control M.Code) (S : PlainStack M) (n v : ℕ) (g : CostGraph) (k p : ℕ) : Type 0 where
    pub to : (R : Stack graphs M) → promotable R ≡ false → (h : Graph) (t : RunCounts) → t.transitions + k ≤ fuel → length R + p ≤ frames
        → length S + length R ≤ t.deepest
        → Lands (state c (S ⊕ R) n h t) v R (h ▹ g) t k (fork_count g) (length R + p)

  pub step_quiet : (c : Control M.Code) (S : Stack graphs M) (n : ℕ) (h : Graph) (t : RunCounts) (u : Result graphs M)
      → promotion_due m n (promotable S) ≡ false → move graphs M fuel frames (promoted_at_birth m) (state c S n h t) ≡ u
      → step graphs M fuel frames m (state c S n h t) ≡ u
  step_quiet c S n h t u q e = quiet_is graphs M fuel frames m c S n h t q ∙ e

  step_loud : (c : Control M.Code) (S : Stack graphs M) (n : ℕ) (h : Graph) (t : RunCounts) → promotion_due m n (promotable S) ≡ true
      → step graphs M fuel frames m (state c S n h t) ≡ ongoing (state c (promote h S) 0 empty (split t))
  step_loud c S n h t q = step_is graphs M fuel frames m (promotes q)

  pub arrive_left : (v : ℕ) (X : Stack graphs M) (n : ℕ) (h g : Graph) (b : M.Fork) (t : RunCounts)
      → step graphs M fuel frames m (state (return v) (promoted_left h b ∷ X) n g t) ≡ ongoing
      (state (evaluate (M.right b)) (promoted_right h g b v ∷ X) 0 empty t)
  unfolding promotable move
  arrive_left v X n h g b t = step_quiet (return v) (promoted_left h b ∷ X) n g t _ (quiet m n) refl

  pub arrive_right : (v w : ℕ) (X : Stack graphs M) (n : ℕ) (h l g : Graph) (b : M.Fork) (t : RunCounts)
      → step graphs M fuel frames m (state (return v) (promoted_right h l b w ∷ X) n g t) ≡ ongoing
      (state (evaluate (M.body b w v)) X 0 (fork h l g) t)
  unfolding promotable move
  arrive_right v w X n h l g b t = step_quiet (return v) (promoted_right h l b w ∷ X) n g t _ (quiet m n) refl

  and_left : {s : State graphs M} {u w : ℕ} {h g G : Graph} {b : M.Fork} {X Z : Stack graphs M} {t : RunCounts} {k f p k2 f2 p2 : ℕ}
      (a : Lands s u (promoted_left h b ∷ X) g t k f p)
      → Lands (state (evaluate (M.right b)) (promoted_right h g b u ∷ X) 0 empty a.t') w Z G a.t' k2 f2 p2
      → Lands s w Z G t (k + k2) (f + f2) (max p p2)
  and_left {u = u} {h = h} {g = g} {b = b} {X = X} a c =
      record {
        n = c.n;
        t' = c.t';
        goes = onto a.goes (on (arrive_left u X a.n h g b a.t') c.goes);
        transitions = omega arith;
        forks = omega arith;
        deepest = omega arith;
      }

  and_rite : {s : State graphs M} {u w v : ℕ} {h l g G : Graph} {b : M.Fork} {X Z : Stack graphs M} {t : RunCounts} {k f p k2 f2 p2 : ℕ}
      (a : Lands s w (promoted_right h l b u ∷ X) g t k f p)
      → Lands (state (evaluate (M.body b u w)) X 0 (fork h l g) a.t') v Z G a.t' k2 f2 p2
      → Lands s v Z G t (k + k2) (f + f2) (max p p2)
  and_rite {u = u} {w = w} {h = h} {l = l} {g = g} {b = b} {X = X} a c =
      record {
        n = c.n;
        t' = c.t';
        goes = onto a.goes (on (arrive_right w u X a.n h l g b a.t') c.goes);
        transitions = omega arith;
        forks = omega arith;
        deepest = omega arith;
      }

  anew : {s : State graphs M} {v : ℕ} {g : Graph} {Z : Stack graphs M} {t : RunCounts} {k f p k2 f2 p2 : ℕ} → Lands s v Z g t k f p → k ≡ k2
      → f ≡ f2 → p ≡ p2 → Lands s v Z g t k2 f2 p2
  anew a x y z = record { n = a.n; t' = a.t'; goes = a.goes; transitions = omega arith; forks = omega arith; deepest = omega arith }

  -- Left, right and body, from a promoted frame on.
  module _ {c : Control M.Code} {b : M.Fork} {N Y : PlainStack M} {u w v : ℕ} {g1 g2 g3 : CostGraph} {k1 k2 k3 p1 p2 p3 : ℕ}
      (s1 : Comes c N 0 u g1 k1 p1) (s2 : Comes (evaluate (M.right b)) [] 0 w g2 k2 p2)
      (s3 : Comes (evaluate (M.body b u w)) Y 0 v g3 k3 p3)
      (R : Stack graphs M) (hr : promotable R ≡ false) (h : Graph) (t : RunCounts) (fits : t.transitions + (k1 + k2 + k3) ≤ fuel)
      (holds : length R + fork_frames (length Y) p1 p2 p3 ≤ frames) (dp : length N + suc (length Y + length R) ≤ t.deepest) where
    third : {q : ℕ} → q ≡ suc (length R + length Y) + max p1 p2
        → Lands (state c (N ⊕ (promoted_left h b ∷ (Y ⊕ R))) 0 empty t) w (promoted_right h (empty ▹ g1) b u ∷ (Y ⊕ R)) (empty ▹ g2) t
        (k1 + k2) (fork_count g1 + fork_count g2) q
        → Lands (state c (N ⊕ (promoted_left h b ∷ (Y ⊕ R))) 0 empty t) v R (fork h (empty ▹ g1) (empty ▹ g2) ▹ g3) t (k1 + k2 + k3)
        (fork_count g1 + fork_count g2 + fork_count g3) (length R + fork_frames (length Y) p1 p2 p3)
    third e a = anew (and_rite a (s3.to R hr (fork h (empty ▹ g1) (empty ▹ g2)) a.t' (omega arith) (omega arith) (omega arith))) refl
        refl (omega arith)

    second : Lands (state c (N ⊕ (promoted_left h b ∷ (Y ⊕ R))) 0 empty t) u (promoted_left h b ∷ (Y ⊕ R)) (empty ▹ g1) t k1 (fork_count g1)
        (suc (length (Y ⊕ R)) + p1)
        → Lands (state c (N ⊕ (promoted_left h b ∷ (Y ⊕ R))) 0 empty t) v R (fork h (empty ▹ g1) (empty ▹ g2) ▹ g3) t (k1 + k2 + k3)
        (fork_count g1 + fork_count g2 + fork_count g3) (length R + fork_frames (length Y) p1 p2 p3)
    unfolding promotable
    second a = let ly = length_over Y R in
        third (omega arith) (and_left a
        (s2.to (promoted_right h (empty ▹ g1) b u ∷ (Y ⊕ R)) refl empty a.t' (omega arith) (omega arith) (omega arith)))

    both_land : Lands (state c (N ⊕ (promoted_left h b ∷ (Y ⊕ R))) 0 empty t) v R (fork h (empty ▹ g1) (empty ▹ g2) ▹ g3) t (k1 + k2 + k3)
        (fork_count g1 + fork_count g2 + fork_count g3) (length R + fork_frames (length Y) p1 p2 p3)
    unfolding promotable
    both_land = let ly = length_over Y R in
        second (s1.to (promoted_left h b ∷ (Y ⊕ R)) refl empty t (omega arith) (omega arith) (omega arith))

  -- One step, then on.
  first : {s u : State graphs M} {v : ℕ} {g : Graph} {Z : Stack graphs M} {t i : RunCounts} {k f p k2 f2 p2 : ℕ}
      → step graphs M fuel frames m s ≡ ongoing u → Lands u v Z g i k f p
      → i.transitions + k ≡ t.transitions + k2 → i.forks + f ≡ t.forks + f2 → max i.deepest p ≡ max t.deepest p2
      → Lands s v Z g t k2 f2 p2
  first e a x y z = record {
    n = a.n;
    t' = a.t';
    goes = on e a.goes;
    transitions = omega arith;
    forks = omega arith;
    deepest = omega arith;
  }

  -- A step first.
  step_land : {c d : Control M.Code} {S T : PlainStack M} {n v : ℕ} {g : CostGraph} {k p : ℕ} → promotion_due m n (can_promote S) ≡ false
      → promoted_at_birth m && forks_at M c ≡ false → Transition M c S d T
      → length T ≤ p → Comes d T (n + 1) v g k p → Comes c S n v (𝟏 · g) (k + 1) (max (length S) p)
  unfolding ◌▹◌ fork_count
  step_land {c} {d} {S} {T} {n} {v} {g} q f x tl s = record {
    to = λ R hr h t l r dp.
        let a = ticked M fuel frames (promoted_at_birth m) f x R n h t (omega arith) (omega arith) dp in
        first (step_quiet c (S ⊕ R) n h t _ (rw (promotable_over S R hr) q) a.goes)
        (s.to R hr (transition h) a.t' (omega arith) (omega arith) (omega arith)) (omega arith) (omega arith) (omega arith);
  }

  pub fork_move : (c d : M.Code) (b : M.Fork) (X : Stack graphs M) (n : ℕ) (h : Graph) (t : RunCounts) → promoted_at_birth m ≡ true
      → M.next c ≡ open_fork b d → length X < frames
      → step graphs M fuel frames m (state (evaluate c) X n h t) ≡ ongoing
      (state (evaluate d) (promoted_left h b ∷ X) 0 empty (deeper (length X + 1) (split t)))
  fork_move c d b X n h t bn e l =
      step_quiet (evaluate c) X n h t _ (born_quiet m n (promotable X) bn) (rw bn (move_is graphs M fuel frames (forks_freely e l)))

  pub promote_move : (c : Control M.Code) (b : M.Fork) (S N Y : PlainStack M) (R : Stack graphs M) (n : ℕ) (h : Graph) (t : RunCounts)
      → S ≡ N ++ (awaiting_left b ∷ Y) → promotion_due m n true ≡ true → can_promote Y ≡ false → promotable R ≡ false
      → step graphs M fuel frames m (state c (S ⊕ R) n h t) ≡ ongoing (state c (N ⊕ (promoted_left h b ∷ (Y ⊕ R))) 0 empty (split t))
  promote_move c b S N Y R n h t s q o hr =
      rw (s, over_app N (awaiting_left b ∷ Y) R)
      (step_loud c (N ⊕ (plain_left b ∷ (Y ⊕ R))) n h t (rw (promotable_has N (Y ⊕ R) b) q) ∙ rw
      (promote_over h N (Y ⊕ R) b (promotable_over Y R hr ∙ o)))

  pub lands : {c : Control M.Code} {S : PlainStack M} {n v : ℕ} {g : CostGraph} {k p : ℕ} → Eval M m c S n v g k p → Comes c S n v g k p
  unfolding ◌▹◌ fork_count
  lands (by_value {v = v} {n = n}) =
      record {
        to = λ R hr h t l r d. record
            { n = n; t' = t; goes = stay; transitions = omega arith; forks = omega arith; deepest = omega arith };
      }
  lands (by_step q f x e) = step_land q f x (tall e) (lands e)
  lands (by_fork {c = c} {d = d} {b = b} {S = S} {n = n} bn e e1 e2 e3) = record {
    to = λ R hr h t l r dp.
        let le = length_over S R in
        first (fork_move c d b (S ⊕ R) n h t bn e (omega arith))
        (both_land {N = []} (lands e1) (lands e2) (lands e3) R hr h (deeper (length (S ⊕ R) + 1) (split t)) (omega arith) (omega arith)
        (omega arith))
        (omega arith) (omega arith) (omega arith);
  }
  lands (by_promotion {c = c} {b = b} {S = S} {newer = N} {older = Y} {n = n} s q o e1 e2 e3) = record {
    to = λ R hr h t l r dp.
        let ln = length-append N (awaiting_left b ∷ Y) in
        let ls = ap length s in
        first (promote_move c b S N Y R n h t s q o hr)
        (both_land (lands e1) (lands e2) (lands e3) R hr h (split t) (omega arith) (omega arith) (omega arith))
        (omega arith) (omega arith) (omega arith);
  }
