-- From the flat machine's run to a derivation: where the run ends, the machine with the stack S above R came to its value, and its part of the run is
-- a derivation. By strong induction on the moves.
use mathlib.Core.Path.{◌≡◌, refl, ap, sym, ◌∙◌}
use mathlib.Core.List.{List, [], ◌∷◌, ◌++◌}
use mathlib.Core.Bool.{Bool, true, false, true≢false, ◌&&◌}
use Prim.Native.Nat.{ℕ, zero, suc, ◌+◌, ◌≤◌, ◌<◌, max}
use native.Mathlib.Omega.{arith}
use lib.ListN.{length, length-append}
use Rattle.schedule.specs.Graph.{Graph, empty, transition, fork}
use Rattle.schedule.specs.Algebra.{graphs}
use Rattle.schedule.specs.FrameMachine.{Control, evaluate, return, open_fork, FrameMachine}
use Rattle.schedule.specs.Machine.{ordinary, plain_left, plain_right, promoted_left, promoted_right, Stack, promotable, value, RunCounts, tick, split, deeper, State, state, Result, ended, ongoing, Schedule, promoted_at_birth, promotion_due, move, step}
use Rattle.schedule.specs.Runs.{and_then, run}
use Rattle.schedule.proofs.Moves.{due_promotable, goes_on, opens, closes, keeps_frame, forks, turns, joins, forks_freely, MoveView, is_halt, is_step, move_view}
use Rattle.published.specs.CostGraph.{CostGraph, 𝟎, 𝟏, ◌·◌, ◌∥◌, fork_count}
use Rattle.published.specs.Judgments.{PlainFrame, ordinary_frame, awaiting_left, awaiting_right, PlainStack, can_promote, Transition, continue, open_ordinary, open_both, close_ordinary, keep_ordinary, turn, join, is_fork, forks_at}
use Rattle.published.specs.Resources.{fork_frames}
use Rattle.published.proofs.CostGraph.{◌▹◌}
use Rattle.published.proofs.Schedules.{Eval, by_value, by_step, by_fork, by_promotion, ◌⊕◌, length_over, promotable_over, tall}
use Rattle.published.proofs.FromDerivation.{arrive_left, arrive_right, promote_move}

pub and_no : (q : Bool) → q && false ≡ false
and_no true = refl
and_no false = refl

-- A stack split at its oldest promotable frame.
pub record Cut {Frame Fork : Type 0} (S : List (PlainFrame Frame Fork)) : Type 0 where
  pub newer : List (PlainFrame Frame Fork)
  pub b : Fork
  pub older : List (PlainFrame Frame Fork)
  pub is : S ≡ newer ++ (awaiting_left b ∷ older)
  pub last : can_promote older ≡ false

module _ {Frame Fork : Type 0} where
  under : (s : PlainFrame Frame Fork) (S : List (PlainFrame Frame Fork)) → Cut S → Cut (s ∷ S)
  under s S c = record { newer = s ∷ c.newer; b = c.b; older = c.older; is = ap (λ X. s ∷ X) c.is; last = c.last }

  pub cut : (S : List (PlainFrame Frame Fork)) → can_promote S ≡ true → Cut S
  unfolding can_promote
  cut [] e = absurd (true≢false (sym e))
  cut (ordinary_frame f ∷ S) e = under (ordinary_frame f) S (cut S e)
  cut (awaiting_left b ∷ S) e = on (can_promote S) refl (cut S)
    where
      on : (q : Bool) → can_promote S ≡ q → (can_promote S ≡ true → Cut S) → Cut (awaiting_left b ∷ S)
      on true h i = under (awaiting_left b) S (i h)
      on false h i = record { newer = []; b = b; older = S; is = refl; last = h }
  cut (awaiting_right b w ∷ S) e = under (awaiting_right b w) S (cut S e)

module _ (M : FrameMachine) (fuel frames : ℕ) (m : Schedule) (v' : ℕ) (g' : Graph) (t' : RunCounts) where
  -- The run from s ends in j moves.
  abbrev pub Ends : State graphs M → ℕ → Type 0
  Ends s j = run (step graphs M fuel frames m) j s ≡ ended (value v') g' t'

  -- The machine with stack S, above R, came to its value: the derivation, and the rest of the run.
  pub record Back (c : Control M.Code) (S : PlainStack M) (R : Stack graphs M) (n : ℕ) (h : Graph) (t : RunCounts) (j : ℕ) : Type 0 where
    pub v : ℕ
    pub g : CostGraph
    pub k : ℕ
    pub p : ℕ
    pub eval : Eval M m c S n v g k p
    pub o : ℕ
    pub i : RunCounts
    pub l : ℕ
    pub goes : Ends (state (return v) R o (h ▹ g) i) l
    pub less : l ≤ j
    pub transitions : i.transitions ≡ t.transitions + k
    pub forks : i.forks ≡ t.forks + fork_count g
    pub deepest : i.deepest ≡ max t.deepest (length R + p)
    pub fits : i.transitions ≤ fuel
    pub holds : length R + p ≤ frames

  -- What is asked of the state.
  pub record Fits (S : PlainStack M) (R : Stack graphs M) (t : RunCounts) : Type 0 where
    pub closed : promotable R ≡ false
    pub fits : t.transitions ≤ fuel
    pub holds : length S + length R ≤ frames
    pub deepest : length S + length R ≤ t.deepest

  abbrev Backs : ℕ → Type 0
  Backs a = (c : Control M.Code) (S : PlainStack M) (R : Stack graphs M) (n : ℕ) (h : Graph) (t : RunCounts) (j : ℕ) → j ≤ a → Fits S R t
      → Ends (state c (S ⊕ R) n h t) j → Back c S R n h t j

  -- One move on.
  next : (s u : State graphs M) (j : ℕ) → Ends s j → step graphs M fuel frames m s ≡ ongoing u → (i : ℕ) × Ends u i × (i < j)
  unfolding run and_then
  next s u zero e h = let a : ◌≡◌ {A = ℕ} 0 1 = cc in absurd (omega arith)
  next s u (suc j) e h = (j, rw h at e, omega arith)

  -- Left, right and body: the three derivations, and the rest of the run.
  pub record Both (c : Control M.Code) (b : M.Fork) (N Y : PlainStack M) (R : Stack graphs M) (h : Graph) (t : RunCounts) (j : ℕ) : Type 0
    where
      pub u : ℕ
      pub w : ℕ
      pub v : ℕ
      pub g1 : CostGraph
      pub g2 : CostGraph
      pub g3 : CostGraph
      pub k1 : ℕ
      pub k2 : ℕ
      pub k3 : ℕ
      pub p1 : ℕ
      pub p2 : ℕ
      pub p3 : ℕ
      pub e1 : Eval M m c N 0 u g1 k1 p1
      pub e2 : Eval M m (evaluate (M.right b)) [] 0 w g2 k2 p2
      pub e3 : Eval M m (evaluate (M.body b u w)) Y 0 v g3 k3 p3
      pub o : ℕ
      pub i : RunCounts
      pub l : ℕ
      pub goes : Ends (state (return v) R o (fork h (empty ▹ g1) (empty ▹ g2) ▹ g3) i) l
      pub less : l ≤ j
      pub transitions : i.transitions ≡ t.transitions + (k1 + k2 + k3)
      pub forks : i.forks ≡ t.forks + (fork_count g1 + fork_count g2 + fork_count g3)
      pub deepest : i.deepest ≡ max t.deepest (length R + fork_frames (length Y) p1 p2 p3)
      pub fits : i.transitions ≤ fuel
      pub holds : length R + fork_frames (length Y) p1 p2 p3 ≤ frames

  module _ (a : ℕ) (ih : Backs a) (c : Control M.Code) (b : M.Fork) (N Y : PlainStack M) (R : Stack graphs M) (h : Graph) (t : RunCounts)
      (j : ℕ) (le : j ≤ a)
      (hr : promotable R ≡ false) (fits : t.transitions ≤ fuel) (holds : length N + suc (length Y + length R) ≤ frames)
      (dp : length N + suc (length Y + length R) ≤ t.deepest) where
    fourth : {i1 i2 : ℕ} (x : Back c N (promoted_left h b ∷ (Y ⊕ R)) 0 empty t j)
        (y : Back (evaluate (M.right b)) [] (promoted_right h (empty ▹ x.g) b x.v ∷ (Y ⊕ R)) 0 empty x.i i1)
        → Back (evaluate (M.body b x.v y.v)) Y R 0 (fork h (empty ▹ x.g) (empty ▹ y.g)) y.i i2 → i1 ≤ j → i2 ≤ j
        → Both c b N Y R h t j
    fourth x y z l1 l2 = let ly = length_over Y R in record {
      u = x.v;
      w = y.v;
      v = z.v;
      g1 = x.g;
      g2 = y.g;
      g3 = z.g;
      k1 = x.k;
      k2 = y.k;
      k3 = z.k;
      p1 = x.p;
      p2 = y.p;
      p3 = z.p;
      e1 = x.eval;
      e2 = y.eval;
      e3 = z.eval;
      o = z.o;
      i = z.i;
      l = z.l;
      goes = z.goes;
      less = omega arith;
      transitions = omega arith;
      forks = omega arith;
      deepest = omega arith;
      fits = z.fits;
      holds = omega arith;
    }

    third : {i1 : ℕ} (x : Back c N (promoted_left h b ∷ (Y ⊕ R)) 0 empty t j)
        → Back (evaluate (M.right b)) [] (promoted_right h (empty ▹ x.g) b x.v ∷ (Y ⊕ R)) 0 empty x.i i1 → i1 ≤ j
        → Both c b N Y R h t j
    third x y l1 =
        let ly = length_over Y R in
        let r = next (state (return y.v) (promoted_right h (empty ▹ x.g) b x.v ∷ (Y ⊕ R)) y.o (empty ▹ y.g) y.i)
        (state (evaluate (M.body b x.v y.v)) (Y ⊕ R) 0 (fork h (empty ▹ x.g) (empty ▹ y.g)) y.i) y.l y.goes
        (arrive_right M fuel frames m y.v x.v (Y ⊕ R) y.o h (empty ▹ x.g) (empty ▹ y.g) b y.i) in
        fourth x y (ih (evaluate (M.body b x.v y.v)) Y R 0 (fork h (empty ▹ x.g) (empty ▹ y.g)) y.i r.0 (omega arith)
        (record { closed = hr; fits = y.fits; holds = omega arith; deepest = omega arith }) r.1) l1 (omega arith)

    second : Back c N (promoted_left h b ∷ (Y ⊕ R)) 0 empty t j → Both c b N Y R h t j
    unfolding promotable
    second x =
        let ly = length_over Y R in
        let r = next (state (return x.v) (promoted_left h b ∷ (Y ⊕ R)) x.o (empty ▹ x.g) x.i)
        (state (evaluate (M.right b)) (promoted_right h (empty ▹ x.g) b x.v ∷ (Y ⊕ R)) 0 empty x.i) x.l x.goes
        (arrive_left M fuel frames m x.v (Y ⊕ R) x.o h (empty ▹ x.g) b x.i) in
        third x (ih (evaluate (M.right b)) [] (promoted_right h (empty ▹ x.g) b x.v ∷ (Y ⊕ R)) 0 empty x.i r.0 (omega arith)
        (record { closed = refl; fits = x.fits; holds = omega arith; deepest = omega arith }) r.1) (omega arith)

    both : Ends (state c (N ⊕ (promoted_left h b ∷ (Y ⊕ R))) 0 empty t) j → Both c b N Y R h t j
    unfolding promotable
    both e = let ly = length_over Y R in
        second (ih c N (promoted_left h b ∷ (Y ⊕ R)) 0 empty t j le
        (record { closed = refl; fits = fits; holds = omega arith; deepest = omega arith }) e)

  clash : {A : Type 0} → ◌≡◌ {A = ℕ} 0 1 → A
  clash e = absurd (omega arith)

  -- After a transition.
  trans_back : {c d : Control M.Code} {S T : PlainStack M} {R : Stack graphs M} {n : ℕ} {h : Graph} {t i : RunCounts} {j : ℕ}
      → promotion_due m n (can_promote S) ≡ false → promoted_at_birth m && forks_at M c ≡ false → Transition M c S d T
      → Fits S R t → i.transitions ≡ t.transitions + 1 → i.forks ≡ t.forks → i.deepest ≡ max t.deepest (length T + length R)
      → Back d T R (n + 1) (transition h) i j → Back c S R n h t (suc j)
  unfolding ◌▹◌ fork_count
  trans_back {S = S} q f x s et ef ed a =
      let ta = tall a.eval in
      record {
        v = a.v;
        g = 𝟏 · a.g;
        k = a.k + 1;
        p = max (length S) a.p;
        eval = by_step q f x a.eval;
        o = a.o;
        i = a.i;
        l = a.l;
        goes = a.goes;
        less = omega arith;
        transitions = omega arith;
        forks = omega arith;
        deepest = omega arith;
        fits = a.fits;
        holds = omega arith;
      }

  fork_back : {c d : M.Code} {b : M.Fork} {S : PlainStack M} {R : Stack graphs M} {n : ℕ} {h : Graph} {t i : RunCounts} {j : ℕ}
      → promoted_at_birth m ≡ true → M.next c ≡ open_fork b d
      → i.transitions ≡ t.transitions → i.forks ≡ t.forks + 1 → i.deepest ≡ max t.deepest (suc (length S + length R))
      → Both (evaluate d) b [] S R h i j → Back (evaluate c) S R n h t (suc j)
  unfolding ◌▹◌ fork_count
  fork_back bn e et ef ed a =
      record {
        v = a.v;
        g = a.g1 ∥ a.g2 · a.g3;
        k = a.k1 + a.k2 + a.k3;
        p = _;
        eval = by_fork bn e a.e1 a.e2 a.e3;
        o = a.o;
        i = a.i;
        l = a.l;
        goes = a.goes;
        less = omega arith;
        transitions = omega arith;
        forks = omega arith;
        deepest = omega arith;
        fits = a.fits;
        holds = a.holds;
      }

  promote_back : {c : Control M.Code} {b : M.Fork} {S N Y : PlainStack M} {R : Stack graphs M} {n : ℕ} {h : Graph} {t : RunCounts} {j : ℕ}
      → S ≡ N ++ (awaiting_left b ∷ Y) → promotion_due m n true ≡ true → can_promote Y ≡ false
      → Both c b N Y R h (split t) j → Back c S R n h t (suc j)
  unfolding ◌▹◌ fork_count
  promote_back s q o a =
      record {
        v = a.v;
        g = a.g1 ∥ a.g2 · a.g3;
        k = a.k1 + a.k2 + a.k3;
        p = _;
        eval = by_promotion s q o a.e1 a.e2 a.e3;
        o = a.o;
        i = a.i;
        l = a.l;
        goes = a.goes;
        less = omega arith;
        transitions = omega arith;
        forks = omega arith;
        deepest = omega arith;
        fits = a.fits;
        holds = a.holds;
      }

  module _ (a : ℕ) (ih : Backs a) (j : ℕ) (le : j ≤ a) where
    abbrev Then : Result graphs M → Type 0
    Then u = and_then u (run (step graphs M fuel frames m) j) ≡ ended (value v') g' t'

    in_ev : {c : M.Code} {S : PlainStack M} {R : Stack graphs M} {n : ℕ} {h : Graph} {t : RunCounts} {u : Result graphs M} (q : Bool)
        → promoted_at_birth m ≡ q → MoveView graphs M fuel frames q (state (evaluate c) (S ⊕ R) n h t) u
        → promotion_due m n (can_promote S) ≡ false → Fits S R t → Then u → Back (evaluate c) S R n h t (suc j)
    unfolding and_then forks_at is_fork
    in_ev q bn (is_halt x) q' s e = clash (cc)
    in_ev {S = S} {R = R} {n = n} {h = h} {t = t} q bn (is_step (goes_on {d = d} x l)) q' s e =
        trans_back q' (rw x (and_no (promoted_at_birth m))) (continue x) s refl refl (omega arith)
        (ih d S R (n + 1) (transition h) (tick t) j le
        (record { closed = s.closed; fits = omega arith; holds = s.holds; deepest = s.deepest }) e)
    in_ev {S = S} {R = R} {n = n} {h = h} {t = t} q bn (is_step (opens {d = d} {f = f} x l r)) q' s e =
        let ls = length_over S R in
        trans_back q' (rw x (and_no (promoted_at_birth m))) (open_ordinary x) s refl refl (omega arith)
        (ih (evaluate d) (ordinary_frame f ∷ S) R (n + 1) (transition h) (tick (deeper (length (S ⊕ R) + 1) t)) j le
        (record { closed = s.closed; fits = omega arith; holds = omega arith; deepest = omega arith }) e)
    in_ev {S = S} {R = R} {n = n} {h = h} {t = t} q bn (is_step (forks {d = d} {b = b} x l r)) q' s e =
        let ls = length_over S R in
        trans_back q' (rw bn refl) (open_both x) s refl refl (omega arith)
        (ih (evaluate d) (awaiting_left b ∷ S) R (n + 1) (transition h) (tick (deeper (length (S ⊕ R) + 1) t)) j le
        (record { closed = s.closed; fits = omega arith; holds = omega arith; deepest = omega arith }) e)
    in_ev {S = S} {R = R} {n = n} {h = h} {t = t} q bn (is_step (forks_freely {d = d} {b = b} x r)) q' s e =
        let ls = length_over S R in
        fork_back bn x refl refl (omega arith)
        (both a ih (evaluate d) b [] S R h (deeper (length (S ⊕ R) + 1) (split t)) j le s.closed s.fits (omega arith)
        (omega arith) e)

    in_ordinary : {f : M.Frame} {w : ℕ} {S : PlainStack M} {R : Stack graphs M} {n : ℕ} {h : Graph} {t : RunCounts} {u : Result graphs M}
        (q : Bool) → MoveView graphs M fuel frames q (state (return w) (ordinary f ∷ (S ⊕ R)) n h t) u
        → promotion_due m n (can_promote (ordinary_frame f ∷ S)) ≡ false → Fits (ordinary_frame f ∷ S) R t → Then u
        → Back (return w) (ordinary_frame f ∷ S) R n h t (suc j)
    unfolding and_then forks_at
    in_ordinary q (is_halt x) q' s e = clash (cc)
    in_ordinary {S = S} {R = R} {n = n} {h = h} {t = t} q (is_step (closes {d = d} x l)) q' s e =
        trans_back q' (and_no (promoted_at_birth m)) (close_ordinary x) s refl refl (omega arith)
        (ih d S R (n + 1) (transition h) (tick t) j le
        (record { closed = s.closed; fits = omega arith; holds = omega arith; deepest = omega arith }) e)
    in_ordinary {S = S} {R = R} {n = n} {h = h} {t = t} q (is_step (keeps_frame {e = y} {d = d} x l)) q' s e =
        trans_back q' (and_no (promoted_at_birth m)) (keep_ordinary x) s refl refl (omega arith)
        (ih (evaluate d) (ordinary_frame y ∷ S) R (n + 1) (transition h) (tick t) j le
        (record { closed = s.closed; fits = omega arith; holds = omega arith; deepest = omega arith }) e)

    in_left : {b : M.Fork} {w : ℕ} {S : PlainStack M} {R : Stack graphs M} {n : ℕ} {h : Graph} {t : RunCounts} {u : Result graphs M}
        (q : Bool) → MoveView graphs M fuel frames q (state (return w) (plain_left b ∷ (S ⊕ R)) n h t) u
        → promotion_due m n (can_promote (awaiting_left b ∷ S)) ≡ false → Fits (awaiting_left b ∷ S) R t → Then u
        → Back (return w) (awaiting_left b ∷ S) R n h t (suc j)
    unfolding and_then forks_at
    in_left q (is_halt x) q' s e = clash (cc)
    in_left {b} {w} {S = S} {R = R} {n = n} {h = h} {t = t} q (is_step (turns l)) q' s e =
        trans_back q' (and_no (promoted_at_birth m)) turn s refl refl (omega arith)
        (ih (evaluate (M.right b)) (awaiting_right b w ∷ S) R (n + 1) (transition h) (tick t) j le
        (record { closed = s.closed; fits = omega arith; holds = omega arith; deepest = omega arith }) e)

    in_right : {b : M.Fork} {w o : ℕ} {S : PlainStack M} {R : Stack graphs M} {n : ℕ} {h : Graph} {t : RunCounts} {u : Result graphs M}
        (q : Bool) → MoveView graphs M fuel frames q (state (return w) (plain_right b o ∷ (S ⊕ R)) n h t) u
        → promotion_due m n (can_promote (awaiting_right b o ∷ S)) ≡ false → Fits (awaiting_right b o ∷ S) R t → Then u
        → Back (return w) (awaiting_right b o ∷ S) R n h t (suc j)
    unfolding and_then forks_at
    in_right q (is_halt x) q' s e = clash (cc)
    in_right {b} {w} {o} {S = S} {R = R} {n = n} {h = h} {t = t} q (is_step (joins l)) q' s e =
        trans_back q' (and_no (promoted_at_birth m)) join s refl refl (omega arith)
        (ih (evaluate (M.body b o w)) S R (n + 1) (transition h) (tick t) j le
        (record { closed = s.closed; fits = omega arith; holds = omega arith; deepest = omega arith }) e)

    -- A move that is no promotion.
    in_any : (c : Control M.Code) (S : PlainStack M) (R : Stack graphs M) (n : ℕ) (h : Graph) (t : RunCounts)
        → Ends (state c (S ⊕ R) n h t) (suc j) → promotion_due m n (can_promote S) ≡ false
        → Fits S R t → Then (move graphs M fuel frames (promoted_at_birth m) (state c (S ⊕ R) n h t)) → Back c S R n h t (suc j)
    unfolding fork_count ◌▹◌
    in_any (evaluate c) S R n h t e q s i =
        in_ev (promoted_at_birth m) refl (move_view graphs M fuel frames (promoted_at_birth m) (state (evaluate c) (S ⊕ R) n h t)) q s i
    in_any (return w) [] R n h t e q s i =
        record {
          v = w;
          g = 𝟎;
          k = 0;
          p = 0;
          eval = by_value;
          o = n;
          i = t;
          l = suc j;
          goes = e;
          less = omega arith;
          transitions = omega arith;
          forks = omega arith;
          deepest = omega arith;
          fits = s.fits;
          holds = omega arith;
        }
    in_any (return w) (ordinary_frame f ∷ S) R n h t e q s i =
        in_ordinary (promoted_at_birth m)
        (move_view graphs M fuel frames (promoted_at_birth m) (state (return w) (ordinary f ∷ (S ⊕ R)) n h t)) q s i
    in_any (return w) (awaiting_left b ∷ S) R n h t e q s i =
        in_left (promoted_at_birth m)
        (move_view graphs M fuel frames (promoted_at_birth m) (state (return w) (plain_left b ∷ (S ⊕ R)) n h t)) q s i
    in_any (return w) (awaiting_right b o ∷ S) R n h t e q s i =
        in_right (promoted_at_birth m)
        (move_view graphs M fuel frames (promoted_at_birth m) (state (return w) (plain_right b o ∷ (S ⊕ R)) n h t)) q s i

    in_promote : (c : Control M.Code) (S : PlainStack M) (R : Stack graphs M) (n : ℕ) (h : Graph) (t : RunCounts)
        → promotion_due m n true ≡ true → Fits S R t → Cut S → Ends (state c (S ⊕ R) n h t) (suc j) → Back c S R n h t (suc j)
    unfolding run and_then
    in_promote c S R n h t q s x e =
        let ln = length-append x.newer (awaiting_left x.b ∷ x.older) in
        let ls = ap length x.is in
        promote_back x.is q x.last
        (both a ih c x.b x.newer x.older R h (split t) j le s.closed s.fits (omega arith) (omega arith)
        (rw (promote_move M fuel frames m c x.b S x.newer x.older R n h t x.is q x.last s.closed) at e))

    one_back : (c : Control M.Code) (S : PlainStack M) (R : Stack graphs M) (n : ℕ) (h : Graph) (t : RunCounts) → Fits S R t
        → Ends (state c (S ⊕ R) n h t) (suc j) → Back c S R n h t (suc j)
    unfolding run step
    one_back c S R n h t s e = on (promotion_due m n (promotable (S ⊕ R))) refl
      where
        on : (q : Bool) → promotion_due m n (promotable (S ⊕ R)) ≡ q → Back c S R n h t (suc j)
        on true q =
            let l = due_promotable m n (promotable (S ⊕ R)) q in
            in_promote c S R n h t (rw l at q) s (cut S (sym (promotable_over S R s.closed) ∙ l)) e
        on false q = in_any c S R n h t e (rw (promotable_over S R s.closed) at q) s (rw q at e)

  back_at : (a : ℕ) → Backs a
  unfolding run
  back_at zero c S R n h t zero le s e = clash (cc)
  back_at zero c S R n h t (suc j) le s e = absurd (omega arith)
  back_at (suc a) c S R n h t zero le s e = clash (cc)
  back_at (suc a) c S R n h t (suc j) le s e = one_back a (back_at a) j (omega arith) c S R n h t s e

  pub backs : (c : Control M.Code) (S : PlainStack M) (R : Stack graphs M) (n : ℕ) (h : Graph) (t : RunCounts) (j : ℕ) → Fits S R t
      → Ends (state c (S ⊕ R) n h t) j → Back c S R n h t j
  backs c S R n h t j = back_at j c S R n h t j (omega arith)
