-- The inversion of a step: each rule of the machine as one constructor, and the proof that a step is exactly one of them. What every step
-- keeps is then shown by one line for each of the ten moves and one for the promotion, and no other proof meets the tests of fuel and frames.
use Prim.Native.Nat.{ℕ, zero, suc, ◌+◌, ◌≤◌, ◌<◌}
use mathlib.Core.Path.{◌≡◌, refl, sym, ◌∙◌}
use mathlib.Core.Bool.{Bool, true, false, cond, true≢false, ◌&&◌}
use mathlib.Core.List.{[], ◌∷◌}
use native.Mathlib.Omega.{arith}
use lib.Dec.{ltb, leb}
use lib.ListN.{length}
use borrow.Author.Tests.{ltb-true, ltb-false, lt-ltb, le-ltb}
use Rattle.schedule.specs.Algebra.{CostAlgebra}
use Rattle.schedule.specs.FrameMachine.{Place, Control, evaluate, return, Next, go_on, open_frame, open_fork, stuck, Arrival, close, keep, fail, FrameMachine}
use Rattle.schedule.specs.Machine.{ordinary, plain_left, plain_right, promoted_left, promoted_right, Stack, promotable, Ending, value, stop, RunCounts, deeper, State, state, Result, ended, ongoing, Schedule, sequential, parallel, heartbeat, promoted_at_birth, promotion_due, after_transition, after_promotion, after_fork, after_turn, after_join, with_fuel, with_frame, evaluated, arrived, move, step}
use Rattle.schedule.specs.Runs.{and_then, run}

pub and_true : (a b : Bool) → a && b ≡ true → (a ≡ true) × (b ≡ true)
and_true true b e = (refl, e)
and_true false b e = absurd (true≢false (sym e))

pub and_false : (a b : Bool) → a && b ≡ false → b ≡ true → a ≡ false
and_false true b e h = absurd (true≢false (sym h ∙ e))
and_false false b e h = refl

-- A promotion is due only where there is a frame to promote.
pub due_promotable : (m : Schedule) (n : ℕ) (able : Bool) → promotion_due m n able ≡ true → able ≡ true
unfolding promotion_due
due_promotable sequential n able e = absurd (true≢false (sym e))
due_promotable parallel n able e = absurd (true≢false (sym e))
due_promotable (heartbeat N) n able e = (and_true (leb N n) able e).1

-- And only by a schedule whose forks are plain at first.
pub due_not_born : (m : Schedule) (n : ℕ) (able : Bool) → promotion_due m n able ≡ true → promoted_at_birth m ≡ false
unfolding promotion_due promoted_at_birth
due_not_born sequential n able e = refl
due_not_born parallel n able e = absurd (true≢false (sym e))
due_not_born (heartbeat N) n able e = refl

module _ (K : CostAlgebra) (M : FrameMachine) (fuel frames : ℕ) where
  -- THE MOVES, by whether a fork is promoted at its birth: four transitions that leave forks alone, the three of a plain fork, and the three of
  -- a promoted one, which are free.
  pub data Move : Bool → State K M → State K M → Type 0 where
    goes_on : {born : Bool} {c : M.Code} {d : Control M.Code} {S : Stack K M} {n : ℕ} {g : K.Cost} {t : RunCounts}
        → M.next c ≡ go_on d → t.transitions < fuel
        → Move born (state (evaluate c) S n g t) (after_transition K M d S n g t)
    opens : {born : Bool} {c d : M.Code} {f : M.Frame} {S : Stack K M} {n : ℕ} {g : K.Cost} {t : RunCounts}
        → M.next c ≡ open_frame f d → t.transitions < fuel → length S < frames
        → Move born (state (evaluate c) S n g t) (after_transition K M (evaluate d) (ordinary f ∷ S) n g (deeper (length S + 1) t))
    closes : {born : Bool} {f : M.Frame} {v : ℕ} {d : Control M.Code} {S : Stack K M} {n : ℕ} {g : K.Cost} {t : RunCounts}
        → M.arrive f v ≡ close d → t.transitions < fuel
        → Move born (state (return v) (ordinary f ∷ S) n g t) (after_transition K M d S n g t)
    keeps_frame : {born : Bool} {f e : M.Frame} {v : ℕ} {d : M.Code} {S : Stack K M} {n : ℕ} {g : K.Cost} {t : RunCounts}
        → M.arrive f v ≡ keep e d → t.transitions < fuel
        → Move born (state (return v) (ordinary f ∷ S) n g t) (after_transition K M (evaluate d) (ordinary e ∷ S) n g t)
    forks : {c d : M.Code} {b : M.Fork} {S : Stack K M} {n : ℕ} {g : K.Cost} {t : RunCounts}
        → M.next c ≡ open_fork b d → t.transitions < fuel → length S < frames
        → Move false (state (evaluate c) S n g t) (after_transition K M (evaluate d) (plain_left b ∷ S) n g (deeper (length S + 1) t))
    turns : {born : Bool} {b : M.Fork} {v : ℕ} {S : Stack K M} {n : ℕ} {g : K.Cost} {t : RunCounts}
        → t.transitions < fuel
        → Move born (state (return v) (plain_left b ∷ S) n g t) (after_transition K M (evaluate (M.right b)) (plain_right b v ∷ S) n g t)
    joins : {born : Bool} {b : M.Fork} {v w : ℕ} {S : Stack K M} {n : ℕ} {g : K.Cost} {t : RunCounts}
        → t.transitions < fuel
        → Move born (state (return v) (plain_right b w ∷ S) n g t) (after_transition K M (evaluate (M.body b w v)) S n g t)
    forks_freely : {c d : M.Code} {b : M.Fork} {S : Stack K M} {n : ℕ} {g : K.Cost} {t : RunCounts}
        → M.next c ≡ open_fork b d → length S < frames
        → Move true (state (evaluate c) S n g t) (after_fork K M b d S n g t)
    turns_freely : {born : Bool} {b : M.Fork} {v : ℕ} {h : K.Cost} {S : Stack K M} {n : ℕ} {g : K.Cost} {t : RunCounts}
        → Move born (state (return v) (promoted_left h b ∷ S) n g t) (after_turn K M b v h S n g t)
    joins_freely : {born : Bool} {b : M.Fork} {v w : ℕ} {h l : K.Cost} {S : Stack K M} {n : ℕ} {g : K.Cost} {t : RunCounts}
        → Move born (state (return v) (promoted_right h l b w ∷ S) n g t) (after_join K M b w v h l S n g t)

  -- THE STOPS that are not for want of fuel. A fork that is promoted at its birth looks only for its frame.
  pub data Stuck : Bool → State K M → ℕ → Place → Type 0 where
    at_code : {born : Bool} {c : M.Code} {S : Stack K M} {n i : ℕ} {g : K.Cost} {t : RunCounts}
        → M.next c ≡ stuck i → t.transitions < fuel
        → Stuck born (state (evaluate c) S n g t) i (M.code_place c)
    at_frame : {born : Bool} {f : M.Frame} {v : ℕ} {S : Stack K M} {n i : ℕ} {g : K.Cost} {t : RunCounts}
        → M.arrive f v ≡ fail i → t.transitions < fuel
        → Stuck born (state (return v) (ordinary f ∷ S) n g t) i (M.frame_place f)
    no_frame : {born : Bool} {c d : M.Code} {f : M.Frame} {S : Stack K M} {n : ℕ} {g : K.Cost} {t : RunCounts}
        → M.next c ≡ open_frame f d → t.transitions < fuel → frames ≤ length S
        → Stuck born (state (evaluate c) S n g t) 21 (M.code_place c)
    no_fork_frame : {born : Bool} {c d : M.Code} {b : M.Fork} {S : Stack K M} {n : ℕ} {g : K.Cost} {t : RunCounts}
        → M.next c ≡ open_fork b d → (born ≡ false → t.transitions < fuel) → frames ≤ length S
        → Stuck born (state (evaluate c) S n g t) 21 (M.code_place c)

  -- Every stop: 20 where the fuel is spent, or one of those.
  pub data Halt (born : Bool) : State K M → ℕ → Place → Type 0 where
    no_fuel : {c : Control M.Code} {S : Stack K M} {n : ℕ} {p : Place} {g : K.Cost} {t : RunCounts}
        → fuel ≤ t.transitions → Halt born (state c S n g t) 20 p
    is_stuck : {s : State K M} {i : ℕ} {p : Place} → Stuck born s i p → Halt born s i p

  -- What a step comes to: a value, a stop, or a state that R leads to.
  pub data View (born : Bool) (R : State K M → State K M → Type 0) : State K M → Result K M → Type 0 where
    is_value : {v n : ℕ} {g : K.Cost} {t : RunCounts} → View born R (state (return v) [] n g t) (ended (value v) g t)
    is_halt : {c : Control M.Code} {S : Stack K M} {n i : ℕ} {p : Place} {g : K.Cost} {t : RunCounts}
        → Halt born (state c S n g t) i p → View born R (state c S n g t) (ended (stop i p) g t)
    is_step : {s u : State K M} → R s u → View born R s (ongoing u)

  abbrev pub MoveView : Bool → State K M → Result K M → Type 0
  MoveView born s o = View born (Move born) s o

  fueled_view : {born : Bool} {c : Control M.Code} {S : Stack K M} {n : ℕ} (p : Place) (g : K.Cost) (t : RunCounts) (o : Result K M)
      → (t.transitions < fuel → MoveView born (state c S n g t) o) → MoveView born (state c S n g t) (with_fuel K M fuel frames p g t o)
  unfolding with_fuel
  fueled_view {born} {c} {S} {n} p g t o f = on (ltb t.transitions fuel) refl
    where
      on : (q : Bool) → ltb t.transitions fuel ≡ q → MoveView born (state c S n g t) (cond q o (ended (stop 20 p) g t))
      on true e = f (ltb-true t.transitions fuel e)
      on false e = is_halt (no_fuel (ltb-false t.transitions fuel e))

  framed_view : {born : Bool} {s : State K M} (S : Stack K M) (p : Place) (g : K.Cost) (t : RunCounts) (o : Result K M)
      → (length S < frames → MoveView born s o) → (frames ≤ length S → MoveView born s (ended (stop 21 p) g t))
      → MoveView born s (with_frame K M fuel frames S p g t o)
  unfolding with_frame
  framed_view {born} {s} S p g t o f h = on (ltb (length S) frames) refl
    where
      on : (q : Bool) → ltb (length S) frames ≡ q → MoveView born s (cond q o (ended (stop 21 p) g t))
      on true e = f (ltb-true (length S) frames e)
      on false e = h (ltb-false (length S) frames e)

  evaluated_view : (born : Bool) (c : M.Code) (o : Next M.Code M.Frame M.Fork) → M.next c ≡ o
      → (S : Stack K M) (n : ℕ) (g : K.Cost) (t : RunCounts)
      → MoveView born (state (evaluate c) S n g t) (evaluated K M fuel frames born (M.code_place c) o S n g t)
  unfolding evaluated
  evaluated_view born c (go_on d) e S n g t = fueled_view _ g t _ (λ l. is_step (goes_on e l))
  evaluated_view born c (open_frame f d) e S n g t =
      fueled_view _ g t _ (λ l. framed_view S _ g t _ (λ r. is_step (opens e l r)) (λ r. is_halt (is_stuck (no_frame e l r))))
  evaluated_view true c (open_fork b d) e S n g t =
      framed_view S _ g t _ (λ r. is_step (forks_freely e r)) (λ r. is_halt (is_stuck (no_fork_frame e (λ q. absurd (true≢false q)) r)))
  evaluated_view false c (open_fork b d) e S n g t =
      fueled_view _ g t _ (λ l. framed_view S _ g t _ (λ r. is_step (forks e l r)) (λ r. is_halt (is_stuck (no_fork_frame e (λ q. l) r))))
  evaluated_view born c (stuck i) e S n g t = fueled_view _ g t _ (λ l. is_halt (is_stuck (at_code e l)))

  arrived_view : (born : Bool) (f : M.Frame) (v : ℕ) (o : Arrival M.Code M.Frame) → M.arrive f v ≡ o
      → (S : Stack K M) (n : ℕ) (g : K.Cost) (t : RunCounts)
      → MoveView born (state (return v) (ordinary f ∷ S) n g t) (arrived K M fuel frames (M.frame_place f) o S n g t)
  unfolding arrived
  arrived_view born f v (close d) e S n g t = fueled_view _ g t _ (λ l. is_step (closes e l))
  arrived_view born f v (keep k d) e S n g t = fueled_view _ g t _ (λ l. is_step (keeps_frame e l))
  arrived_view born f v (fail i) e S n g t = fueled_view _ g t _ (λ l. is_halt (is_stuck (at_frame e l)))

  pub move_view : (born : Bool) (s : State K M) → MoveView born s (move K M fuel frames born s)
  unfolding move
  move_view born (state (evaluate c) S n g t) = evaluated_view born c (M.next c) refl S n g t
  move_view born (state (return v) [] n g t) = is_value
  move_view born (state (return v) (ordinary f ∷ S) n g t) = arrived_view born f v (M.arrive f v) refl S n g t
  move_view born (state (return v) (plain_left b ∷ S) n g t) = fueled_view _ g t _ (λ l. is_step (turns l))
  move_view born (state (return v) (plain_right b w ∷ S) n g t) = fueled_view _ g t _ (λ l. is_step (joins l))
  move_view born (state (return v) (promoted_left h b ∷ S) n g t) = is_step turns_freely
  move_view born (state (return v) (promoted_right h l b w ∷ S) n g t) = is_step joins_freely

  -- The other way: where the tests are met, the move and the stop are what `move` computes.
  fueled : (p : Place) (g : K.Cost) (t : RunCounts) (o : Result K M) → t.transitions < fuel → with_fuel K M fuel frames p g t o ≡ o
  unfolding with_fuel
  fueled p g t o h = rw (lt-ltb t.transitions fuel h)

  framed : (S : Stack K M) (p : Place) (g : K.Cost) (t : RunCounts) (o : Result K M) → length S < frames
      → with_frame K M fuel frames S p g t o ≡ o
  unfolding with_frame
  framed S p g t o h = rw (lt-ltb (length S) frames h)

  full : (S : Stack K M) (p : Place) (g : K.Cost) (t : RunCounts) (o : Result K M) → frames ≤ length S
      → with_frame K M fuel frames S p g t o ≡ ended (stop 21 p) g t
  unfolding with_frame
  full S p g t o h = rw (le-ltb (length S) frames h)

  pub move_is : {born : Bool} {s u : State K M} → Move born s u → move K M fuel frames born s ≡ ongoing u
  unfolding move evaluated arrived
  move_is (goes_on {g = g} {t = t} e l) = rw e (fueled _ g t _ l)
  move_is (opens {S = S} {g = g} {t = t} e l r) = rw e (fueled _ g t _ l ∙ framed S _ g t _ r)
  move_is (closes {g = g} {t = t} e l) = rw e (fueled _ g t _ l)
  move_is (keeps_frame {g = g} {t = t} e l) = rw e (fueled _ g t _ l)
  move_is (forks {S = S} {g = g} {t = t} e l r) = rw e (fueled _ g t _ l ∙ framed S _ g t _ r)
  move_is (turns {g = g} {t = t} l) = fueled _ g t _ l
  move_is (joins {g = g} {t = t} l) = fueled _ g t _ l
  move_is (forks_freely {S = S} {g = g} {t = t} e r) = rw e (framed S _ g t _ r)
  move_is turns_freely = refl
  move_is joins_freely = refl

  pub stuck_is : {born : Bool} {c : Control M.Code} {S : Stack K M} {n i : ℕ} {p : Place} {g : K.Cost} {t : RunCounts}
      → Stuck born (state c S n g t) i p → move K M fuel frames born (state c S n g t) ≡ ended (stop i p) g t
  unfolding move evaluated arrived
  stuck_is (at_code {g = g} {t = t} e l) = rw e (fueled _ g t _ l)
  stuck_is (at_frame {g = g} {t = t} e l) = rw e (fueled _ g t _ l)
  stuck_is (no_frame {S = S} {g = g} {t = t} e l r) = rw e (fueled _ g t _ l ∙ full S _ g t _ r)
  stuck_is (no_fork_frame {born = true} {S = S} {g = g} {t = t} e l r) = rw e (full S _ g t _ r)
  stuck_is (no_fork_frame {born = false} {S = S} {g = g} {t = t} e l r) = rw e (fueled _ g t _ (l refl) ∙ full S _ g t _ r)

  module _ (m : Schedule) where
    -- THE STEPS of a schedule: a promotion where one is due, and a move where none is.
    pub data Step : State K M → State K M → Type 0 where
      moves_on : {c : Control M.Code} {S : Stack K M} {n : ℕ} {g : K.Cost} {t : RunCounts} {u : State K M}
          → promotion_due m n (promotable S) ≡ false → Move (promoted_at_birth m) (state c S n g t) u → Step (state c S n g t) u
      promotes : {c : Control M.Code} {S : Stack K M} {n : ℕ} {g : K.Cost} {t : RunCounts}
          → promotion_due m n (promotable S) ≡ true → Step (state c S n g t) (after_promotion K M c S n g t)

    quiet_view : {c : Control M.Code} {S : Stack K M} {n : ℕ} {g : K.Cost} {t : RunCounts} {o : Result K M}
        → promotion_due m n (promotable S) ≡ false → MoveView (promoted_at_birth m) (state c S n g t) o
        → View (promoted_at_birth m) Step (state c S n g t) o
    quiet_view q is_value = is_value
    quiet_view q (is_halt h) = is_halt h
    quiet_view q (is_step mv) = is_step (moves_on q mv)

    pub step_view : (s : State K M) → View (promoted_at_birth m) Step s (step K M fuel frames m s)
    unfolding step
    step_view (state c S n g t) = on (promotion_due m n (promotable S)) refl
      where
        on : (q : Bool) → promotion_due m n (promotable S) ≡ q
            → View (promoted_at_birth m) Step (state c S n g t)
            (cond q (ongoing (after_promotion K M c S n g t)) (move K M fuel frames (promoted_at_birth m) (state c S n g t)))
        on true e = is_step (promotes e)
        on false e = quiet_view e (move_view (promoted_at_birth m) (state c S n g t))

    pub quiet_is : (c : Control M.Code) (S : Stack K M) (n : ℕ) (g : K.Cost) (t : RunCounts) → promotion_due m n (promotable S) ≡ false
        → step K M fuel frames m (state c S n g t) ≡ move K M fuel frames (promoted_at_birth m) (state c S n g t)
    unfolding step
    quiet_is c S n g t q = rw q

    pub step_is : {s u : State K M} → Step s u → step K M fuel frames m s ≡ ongoing u
    unfolding step
    step_is (moves_on {c = c} {S = S} {n = n} {g = g} {t = t} q mv) = quiet_is c S n g t q ∙ move_is mv
    step_is (promotes h) = rw h

    -- THE WAY of a run from a state to its end.
    pub data Way (z : Ending) (g : K.Cost) (t : RunCounts) : State K M → Type 0 where
      to_value : {v n : ℕ} → z ≡ value v → Way z g t (state (return v) [] n g t)
      to_halt : {c : Control M.Code} {S : Stack K M} {n i : ℕ} {p : Place} → z ≡ stop i p
          → Halt (promoted_at_birth m) (state c S n g t) i p → Way z g t (state c S n g t)
      via : {s u : State K M} → Step s u → Way z g t u → Way z g t s

    pub way : (gas : ℕ) (s : State K M) (z : Ending) (g : K.Cost) (t : RunCounts) → run (step K M fuel frames m) gas s ≡ ended z g t
        → Way z g t s
    unfolding run and_then
    way zero s z g t e = let no : ◌≡◌ {A = ℕ} 0 1 = cc in absurd (omega arith)
    way (suc gas) s z g t e = on (step_view s) e (λ u. way gas u z g t)
      where
        on : {s : State K M} {o : Result K M} → View (promoted_at_birth m) Step s o
            → and_then o (run (step K M fuel frames m) gas) ≡ ended z g t
            → ((u : State K M) → run (step K M fuel frames m) gas u ≡ ended z g t → Way z g t u) → Way z g t s
        on (is_value {v = w} {g = h} {t = i}) e ih =
            let a : z ≡ value w = cc in
            let b : h ≡ g = cc in
            let c : i ≡ t = cc in
            rw (b, c) (to_value a)
        on (is_halt {i = k} {p = p} {g = h} {t = i} x) e ih =
            let a : z ≡ stop k p = cc in
            let b : g ≡ h = cc in
            let c : t ≡ i = cc in
            rw (b, c) (to_halt a x)
        on (is_step {u = u} x) e ih = via x (ih u e)

    -- What every step keeps holds at the value.
    pub at_value : (Inv : State K M → Type 0) → ((s u : State K M) → Step s u → Inv s → Inv u)
        → {v : ℕ} {g : K.Cost} {t : RunCounts} {s : State K M} → Way (value v) g t s → Inv s → (n : ℕ) × Inv (state (return v) [] n g t)
    at_value Inv kept {v} {g} {t} (to_value {v = w} {n = n} e) i = let u : w ≡ v = cc in (n, rw u at i)
    at_value Inv kept (to_halt e h) i = let no : ◌≡◌ {A = ℕ} 0 1 = cc in absurd (omega arith)
    at_value Inv kept (via {s = s} {u = u} x w) i = at_value Inv kept w (kept s u x i)
