-- From a derivation of a stop to the flat machine's run: over any stack that holds nothing to promote, after any graph and counts. By induction on the
-- derivation. Letters as in Schedules.antt; `deep` the most frames that were occupied at once.
use mathlib.Core.Path.{◌≡◌, refl, ap, ◌∙◌}
use mathlib.Core.List.{[], ◌∷◌}
use mathlib.Core.Bool.{Bool, true, false, true≢false, ◌&&◌}
use Prim.Native.Nat.{ℕ, suc, ◌+◌, ◌≤◌, ◌<◌, max}
use native.Mathlib.Omega.{arith}
use lib.ListN.{length, length-append}
use borrow.Author.Tests.{le-ltb}
use Rattle.schedule.specs.Graph.{Graph, empty, transition, fork}
use Rattle.schedule.specs.Algebra.{graphs}
use Rattle.schedule.specs.FrameMachine.{Place, Control, evaluate, Next, go_on, open_frame, open_fork, stuck, Arrival, close, keep, fail, FrameMachine}
use Rattle.schedule.specs.Machine.{promoted_left, promoted_right, Stack, promotable, stop, RunCounts, split, deeper, State, state, Result, ended, ongoing, Schedule, promoted_at_birth, promotion_due, with_fuel, evaluated, arrived, move, step}
use Rattle.schedule.specs.Runs.{and_then, run}
use Rattle.schedule.proofs.Moves.{at_code, at_frame, no_frame, no_fork_frame, stuck_is}
use Rattle.published.specs.CostGraph.{CostGraph}
use Rattle.published.specs.Judgments.{awaiting_left, PlainStack, can_promote, Transition, is_fork, forks_at}
use Rattle.published.specs.Resources.{fork_frames}
use Rattle.published.specs.Stops.{Awaits, at_node, at_ordinary, at_left, at_right, Halts, fuel_spent, no_free_frame, no_frame_to_fork, stuck_at_node, fails_at_frame}
use Rattle.published.proofs.CostGraph.{◌▹◌}
use Rattle.published.proofs.Schedules.{Eval, ◌⊕◌, length_over, promotable_over, born_quiet, tall, ticked}
use Rattle.published.proofs.FromDerivation.{Leads, stay, on, onto, ends_as, Lands, lands, step_quiet, arrive_left, arrive_right, fork_move, promote_move}
use Rattle.published.proofs.Stopping.{Splits, at_birth, at_promotion, Stops, by_halt, by_no_frame, after_step, in_left, in_right, in_body, stop_tall}

module _ (M : FrameMachine) (fuel frames : ℕ) where
  -- Where the fuel is spent, a transition stops.
  spent : (p : Place) (g : Graph) (t : RunCounts) (o : Result graphs M) → fuel ≤ t.transitions
      → with_fuel graphs M fuel frames p g t o ≡ ended (stop 20 p) g t
  unfolding with_fuel
  spent p g t o h = rw (le-ltb t.transitions fuel h)

  spent_at_node : (q : Bool) (p : Place) (o : Next M.Code M.Frame M.Fork) → q && is_fork M o ≡ false
      → (S : Stack graphs M) (n : ℕ) (g : Graph) (t : RunCounts) → fuel ≤ t.transitions
      → evaluated graphs M fuel frames q p o S n g t ≡ ended (stop 20 p) g t
  unfolding evaluated is_fork
  spent_at_node q p (go_on d) f S n g t h = spent p g t _ h
  spent_at_node q p (open_frame e d) f S n g t h = spent p g t _ h
  spent_at_node true p (open_fork b d) f S n g t h = absurd (true≢false f)
  spent_at_node false p (open_fork b d) f S n g t h = spent p g t _ h
  spent_at_node q p (stuck i) f S n g t h = spent p g t _ h

  spent_at_frame : (p : Place) (o : Arrival M.Code M.Frame) (S : Stack graphs M) (n : ℕ) (g : Graph) (t : RunCounts)
      → fuel ≤ t.transitions → arrived graphs M fuel frames p o S n g t ≡ ended (stop 20 p) g t
  unfolding arrived
  spent_at_frame p (close d) S n g t h = spent p g t _ h
  spent_at_frame p (keep f d) S n g t h = spent p g t _ h
  spent_at_frame p (fail i) S n g t h = spent p g t _ h

  spent_at : {c : Control M.Code} {S : PlainStack M} {p : Place} (q : Bool) → q && forks_at M c ≡ false → Awaits M c S p
      → (R : Stack graphs M) (n : ℕ) (h : Graph) (t : RunCounts) → fuel ≤ t.transitions
      → move graphs M fuel frames q (state c (S ⊕ R) n h t) ≡ ended (stop 20 p) h t
  unfolding move forks_at
  spent_at q f (at_node {c = c} {S = S}) R n h t l = spent_at_node q (M.code_place c) (M.next c) f (S ⊕ R) n h t l
  spent_at q f (at_ordinary {f = e} {v = v} {S = S}) R n h t l = spent_at_frame (M.frame_place e) (M.arrive e v) (S ⊕ R) n h t l
  spent_at q f (at_left {b = b}) R n h t l = spent (M.fork_place b) h t _ l
  spent_at q f (at_right {b = b}) R n h t l = spent (M.fork_place b) h t _ l

  -- A transition that cannot be taken, above R.
  halts_at : {left own : ℕ} {c : Control M.Code} {S : PlainStack M} {i : ℕ} {p : Place} (q : Bool) → q && forks_at M c ≡ false
      → Halts M left own c S i p → (R : Stack graphs M) (n : ℕ) (h : Graph) (t : RunCounts)
      → t.transitions + left ≡ fuel → length R + own ≡ frames
      → move graphs M fuel frames q (state c (S ⊕ R) n h t) ≡ ended (stop i p) h t
  halts_at q f (fuel_spent e a) R n h t l r = spent_at q f a R n h t (omega arith)
  halts_at q f (no_free_frame {S = S} o e z) R n h t l r =
      let ls = length_over S R in stuck_is graphs M fuel frames (no_frame e (omega arith) (omega arith))
  halts_at q f (no_frame_to_fork {S = S} o e z) R n h t l r =
      let ls = length_over S R in stuck_is graphs M fuel frames (no_fork_frame e (λ b. omega arith) (omega arith))
  halts_at q f (stuck_at_node o e) R n h t l r = stuck_is graphs M fuel frames (at_code e (omega arith))
  halts_at q f (fails_at_frame o e) R n h t l r = stuck_is graphs M fuel frames (at_frame e (omega arith))

module _ (M : FrameMachine) (fuel frames : ℕ) (m : Schedule) where
  -- The run from s ends in a stop, after k transitions and with `deep` frames at the deepest, in all.
  pub record Halted (s : State graphs M) (i : ℕ) (p : Place) (k deep : ℕ) : Type 0 where
    pub j : ℕ
    pub g : Graph
    pub t : RunCounts
    pub goes : run (step graphs M fuel frames m) j s ≡ ended (stop i p) g t
    pub transitions : t.transitions ≡ k
    pub deepest : t.deepest ≡ deep

  at_once : {s : State graphs M} {i : ℕ} {p : Place} (h : Graph) (t : RunCounts) → step graphs M fuel frames m s ≡ ended (stop i p) h t
      → Halted s i p t.transitions t.deepest
  unfolding run and_then
  at_once h t e = record { j = 1; g = h; t = t; goes = rw e; transitions = refl; deepest = refl }

  -- After other steps.
  later : {s u : State graphs M} {i : ℕ} {p : Place} {k k' deep deep' : ℕ} → Leads M fuel frames m s u → Halted u i p k deep → k ≡ k'
      → deep ≡ deep' → Halted s i p k' deep'
  later a b e d =
      let r = ends_as M fuel frames m a b.j _ b.goes in
      record { j = r.0; g = b.g; t = b.t; goes = r.1; transitions = b.transitions ∙ e; deepest = b.deepest ∙ d }

  one : {s u : State graphs M} → step graphs M fuel frames m s ≡ ongoing u → Leads M fuel frames m s u
  one e = on e stay

  -- The change to the right branch, and the join, after a value.
  then_right : {s : State graphs M} {u : ℕ} {h g : Graph} {b : M.Fork} {X : Stack graphs M} {t : RunCounts} {k f p : ℕ}
      (a : Lands M fuel frames m s u (promoted_left h b ∷ X) g t k f p)
      → Leads M fuel frames m s (state (evaluate (M.right b)) (promoted_right h g b u ∷ X) 0 empty a.t')
  then_right {u = u} {h = h} {g = g} {b = b} {X = X} a =
      onto M fuel frames m a.goes (one (arrive_left M fuel frames m u X a.n h g b a.t'))

  then_body : {s : State graphs M} {u w : ℕ} {h l g : Graph} {b : M.Fork} {X : Stack graphs M} {t : RunCounts} {k f p : ℕ}
      (a : Lands M fuel frames m s w (promoted_right h l b u ∷ X) g t k f p)
      → Leads M fuel frames m s (state (evaluate (M.body b u w)) X 0 (fork h l g) a.t')
  then_body {u = u} {w = w} {h = h} {l = l} {g = g} {b = b} {X = X} a =
      onto M fuel frames m a.goes (one (arrive_right M fuel frames m w u X a.n h l g b a.t'))

  -- What a derivation promises.
  pub record Halting (left own : ℕ) (c : Control M.Code) (S : PlainStack M) (n i : ℕ) (p : Place) (k deep : ℕ) : Type 0 where
    pub to : (R : Stack graphs M) → promotable R ≡ false → (h : Graph) (t : RunCounts) → t.transitions + left ≡ fuel → length R + own ≡ frames
        → length S + length R ≤ t.deepest
        → Halted (state c (S ⊕ R) n h t) i p (t.transitions + k) (max t.deepest (length R + deep))

  -- The state after a split.
  pub record Split (c d : Control M.Code) (S N Y : PlainStack M) (b : M.Fork) (n : ℕ) (R : Stack graphs M) (h : Graph) (t : RunCounts)
      : Type 0 where
    pub t' : RunCounts
    pub goes : step graphs M fuel frames m (state c (S ⊕ R) n h t) ≡ ongoing (state d (N ⊕ (promoted_left h b ∷ (Y ⊕ R))) 0 empty t')
    pub transitions : t'.transitions ≡ t.transitions
    pub deepest : t'.deepest ≡ max t.deepest (length N + suc (length Y + length R))

  splits_at : {c d : Control M.Code} {S N Y : PlainStack M} {b : M.Fork} {n : ℕ} → Splits M m c S n d N b Y
      → (R : Stack graphs M) → promotable R ≡ false → (h : Graph) (t : RunCounts) → length R + length Y < frames
      → length S + length R ≤ t.deepest → Split c d S N Y b n R h t
  splits_at (at_birth {c = c} {d = d} {b = b} {S = S} {n = n} q e) R hr h t r dp =
      let ls = length_over S R in
      record {
        t' = deeper (length (S ⊕ R) + 1) (split t);
        goes = fork_move M fuel frames m c d b (S ⊕ R) n h t q e (omega arith);
        transitions = refl;
        deepest = omega arith;
      }
  splits_at (at_promotion {c = c} {b = b} {S = S} {newer = N} {older = Y} {n = n} s q o) R hr h t r dp =
      let ln = length-append N (awaiting_left b ∷ Y) in
      let ls = ap length s in
      record {
        t' = split t;
        goes = promote_move M fuel frames m c b S N Y R n h t s q o hr;
        transitions = refl;
        deepest = omega arith;
      }

  module _ {c d : Control M.Code} {S N Y : PlainStack M} {b : M.Fork} {n : ℕ} (x : Splits M m c S n d N b Y)
      (R : Stack graphs M) (hr : promotable R ≡ false) (h : Graph) (t : RunCounts) (r : length R + length Y < frames)
      (dp : length S + length R ≤ t.deepest) where
    abbrev s0 : State graphs M
    s0 = state c (S ⊕ R) n h t

    abbrev above : Stack graphs M
    above = promoted_left h b ∷ (Y ⊕ R)

    abbrev first : Split c d S N Y b n R h t
    first = splits_at x R hr h t r dp

    left_halts : {left free i : ℕ} {p : Place} {k deep : ℕ} → Halting left free d N 0 i p k deep → length N ≤ deep
        → t.transitions + left ≡ fuel → length R + (length Y + 1 + free) ≡ frames
        → Halted s0 i p (t.transitions + k) (max t.deepest (length R + (length Y + 1 + deep)))
    unfolding promotable
    left_halts a ln l z =
        let ly = length_over Y R in
        let f = first in
        later (one f.goes) (a.to above refl empty f.t' (omega arith) (omega arith) (omega arith)) (omega arith) (omega arith)

    -- The left machine comes to its value, and the right one starts.
    record Turned (u : ℕ) (g : CostGraph) (k1 p1 : ℕ) : Type 0 where
      t' : RunCounts
      goes : Leads M fuel frames m s0 (state (evaluate (M.right b)) (promoted_right h (empty ▹ g) b u ∷ (Y ⊕ R)) 0 empty t')
      transitions : t'.transitions ≡ t.transitions + k1
      deepest : t'.deepest ≡ max t.deepest (suc (length Y + length R) + p1)

    turned : {u : ℕ} {g : CostGraph} {k1 p1 : ℕ} → Eval M m d N 0 u g k1 p1 → length R + (length Y + 1 + p1) ≤ frames
        → t.transitions + k1 ≤ fuel → Turned u g k1 p1
    unfolding promotable
    turned {u} {g} {k1} {p1} e hp l =
        let ly = length_over Y R in
        let ln = tall e in
        let f = first in
        let a = (lands M fuel frames m e).to above refl empty f.t' (omega arith) (omega arith) (omega arith) in
        record {
          t' = a.t';
          goes = on f.goes (then_right a);
          transitions = omega arith;
          deepest = omega arith;
        }

    right_halts : {u : ℕ} {g : CostGraph} {k1 p1 left free i : ℕ} {p : Place} {k deep : ℕ} → Eval M m d N 0 u g k1 p1 → p1 ≤ free
        → Halting left free (evaluate (M.right b)) [] 0 i p k deep → t.transitions + (k1 + left) ≡ fuel
        → length R + (length Y + 1 + free) ≡ frames
        → Halted s0 i p (t.transitions + (k1 + k)) (max t.deepest (length R + (length Y + 1 + max p1 deep)))
    unfolding promotable
    right_halts {u} {g} e hp a l z =
        let ly = length_over Y R in
        let f = turned e (omega arith) (omega arith) in
        later f.goes
        (a.to (promoted_right h (empty ▹ g) b u ∷ (Y ⊕ R)) refl empty f.t' (omega arith) (omega arith) (omega arith)) (omega arith)
        (omega arith)

    body_halts : {u w : ℕ} {g1 g2 : CostGraph} {k1 p1 k2 p2 left own i : ℕ} {p : Place} {k deep : ℕ} → Eval M m d N 0 u g1 k1 p1
        → length Y + 1 + p1 ≤ own → Eval M m (evaluate (M.right b)) [] 0 w g2 k2 p2 → length Y + 1 + p2 ≤ own
        → Halting left own (evaluate (M.body b u w)) Y 0 i p k deep → t.transitions + (k1 + k2 + left) ≡ fuel → length R + own ≡ frames
        → Halted s0 i p (t.transitions + (k1 + k2 + k)) (max t.deepest (length R + fork_frames (length Y) p1 p2 deep))
    unfolding promotable
    body_halts {u} {w} {g1} {g2} e1 h1 e2 h2 a l o =
        let ly = length_over Y R in
        let f = turned e1 (omega arith) (omega arith) in
        let z = (lands M fuel frames m e2).to (promoted_right h (empty ▹ g1) b u ∷ (Y ⊕ R)) refl empty f.t' (omega arith) (omega arith)
        (omega arith) in
        later (onto M fuel frames m f.goes (then_body z))
        (a.to R hr (fork h (empty ▹ g1) (empty ▹ g2)) z.t' (omega arith) (omega arith) (omega arith)) (omega arith) (omega arith)

  step_halts : {left own : ℕ} {c d : Control M.Code} {S T : PlainStack M} {n i : ℕ} {p : Place} {k deep : ℕ}
      → promotion_due m n (can_promote S) ≡ false → promoted_at_birth m && forks_at M c ≡ false → Transition M c S d T → length T ≤ own
      → length T ≤ deep → Halting left own d T (n + 1) i p k deep → Halting (left + 1) own c S n i p (k + 1) (max (length S) deep)
  step_halts {c = c} {S = S} {n = n} q f x lt td a = record {
    to = λ R hr h t l r dp.
        let z = ticked M fuel frames (promoted_at_birth m) f x R n h t (omega arith) (omega arith) dp in
        later (one (step_quiet M fuel frames m c (S ⊕ R) n h t _ (rw (promotable_over S R hr) q) z.goes))
        (a.to R hr (transition h) z.t' (omega arith) (omega arith) (omega arith)) (omega arith) (omega arith);
  }

  pub halting : {left own : ℕ} {c : Control M.Code} {S : PlainStack M} {n i : ℕ} {p : Place} {k deep : ℕ}
      → Stops M m left own c S n i p k deep → Halting left own c S n i p k deep
  halting (by_halt {c = c} {S = S} {n = n} q f x) = record {
    to = λ R hr h t l r dp.
        later stay (at_once h t (step_quiet M fuel frames m c (S ⊕ R) n h t _ (rw (promotable_over S R hr) q)
        (halts_at M fuel frames (promoted_at_birth m) f x R n h t l r))) (omega arith) (omega arith);
  }
  halting (by_no_frame {c = c} {S = S} {n = n} q e z) = record {
    to = λ R hr h t l r dp.
        let ls = length_over S R in
        later stay (at_once h t (step_quiet M fuel frames m (evaluate c) (S ⊕ R) n h t _ (born_quiet m n (promotable (S ⊕ R)) q)
        (rw q (stuck_is graphs M fuel frames (no_fork_frame e (λ w. absurd (true≢false w)) (omega arith)))))) (omega arith) (omega arith);
  }
  halting (after_step q f x a lt) = step_halts q f x lt (stop_tall a) (halting a)
  halting (in_left x a) = record { to = λ R hr h t l r dp. left_halts x R hr h t (omega arith) dp (halting a) (stop_tall a) l r }
  halting (in_right x e1 a h1) = record { to = λ R hr h t l r dp. right_halts x R hr h t (omega arith) dp e1 h1 (halting a) l r }
  halting (in_body x e1 e2 a h1 h2) = record { to = λ R hr h t l r dp. body_halts x R hr h t (omega arith) dp e1 h1 e2 h2 (halting a) l r }
