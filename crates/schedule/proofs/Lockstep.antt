-- Any schedule's run beside the sequential one, step by step. One proof for all schedules: what is particular to one is a predicate P that its
-- steps keep, about the state and what is still to come.
use Prim.Native.Nat.{ℕ, ◌+◌, ◌*◌, ◌≤◌}
use mathlib.Core.Path.{◌≡◌, refl, ap, sym, ◌∙◌}
use mathlib.Core.Bool.{Bool, true, false}
use mathlib.Core.List.{List, [], ◌∷◌}
use native.Mathlib.Omega.{arith}
use Rattle.schedule.specs.Algebra.{CostAlgebra}
use Rattle.schedule.specs.FrameMachine.{Place, Control, evaluate, return, FrameMachine}
use Rattle.schedule.specs.Machine.{Slot, ordinary, plain_left, plain_right, promoted_left, promoted_right, Stack, promotable, promote, Ending, value, RunCounts, split, State, state, ended, Schedule, sequential, promoted_at_birth, promotion_due, after_promotion, move, step, start}
use Rattle.schedule.specs.Runs.{moves, outcome, EndsIn}
use Rattle.schedule.specs.Bounds.{total}
use Rattle.schedule.specs.Lockstep.{spared, Lockstep}
use Rattle.schedule.proofs.Moves.{due_promotable, due_not_born, Move, goes_on, opens, closes, keeps_frame, forks, turns, joins, forks_freely, turns_freely, joins_freely, Stuck, at_code, at_frame, no_frame, no_fork_frame, Step, moves_on, promotes, stuck_is, quiet_is, step_is, move_is, way}
use Rattle.schedule.proofs.Runs.{Kept, keeps}
use Rattle.schedule.proofs.Finish.{finishes}
use Rattle.schedule.proofs.Stacks.{erased, erase, length_erase, erase_empty, erase_promote, total_promote}
use Rattle.schedule.proofs.ToCome.{ToCome, at_the_end, before, before_step, Rest, at_value, at_stop, onward, rest, to_come}

-- The arrivals that a frame still has to come.
unfoldable pub arrivals : {Cost Frame Fork : Type 0} → Slot Cost Frame Fork → ℕ
arrivals (ordinary f) = 0
arrivals (plain_left b) = 0
arrivals (plain_right b v) = 0
arrivals (promoted_left g b) = 2
arrivals (promoted_right g l b v) = 1

-- The counts t of a state with stack S, beside those of the sequential run at the same moment: at most as many transitions, the same depth; and
-- of the transitions that its forks spare all are saved but those of the arrivals still to come.
pub record Against {Cost Frame Fork : Type 0} (born : Bool) (S : List (Slot Cost Frame Fork)) (t counts : RunCounts) : Type 0 where
  pub fewer : t.transitions ≤ counts.transitions
  pub depth : t.deepest ≡ counts.deepest
  pub spares : t.transitions + spared born * t.forks ≡ counts.transitions + total arrivals S

module _ (K : CostAlgebra) (M : FrameMachine) (fuel frames : ℕ) (z : Ending) (g' : K.Cost) (t' : RunCounts) where
  abbrev RestAt : State K M → Type 0
  RestAt s = Rest K M fuel frames z g' t' s

  abbrev coming : ℕ → {s : State K M} → RestAt s → ToCome
  coming τ r = to_come K M fuel frames z g' t' τ r

  -- THE SEQUENTIAL RUN BESIDE a state: the same control, and the same stack with no marks.
  pub record Beside (born : Bool) (c : Control M.Code) (S : Stack K M) (t : RunCounts) : Type 0 where
    pub credits : ℕ
    pub cost : K.Cost
    pub counts : RunCounts
    pub run : Rest K M fuel frames z g' t' (state c (erase S) credits cost counts)
    pub against : Against born S t counts

  -- An end that is the sequential one, where P holds at a value.
  pub record Alike (born : Bool) (P : State K M → ToCome → Type 0) (e : Ending) (g : K.Cost) (t : RunCounts) : Type 0 where
    pub same : e ≡ z
    pub fewer : t.transitions ≤ t'.transitions
    pub depth : t.deepest ≡ t'.deepest
    pub at_a_value : (v : ℕ) → z ≡ value v
        → (n : ℕ) × P (state (return v) [] n g t) at_the_end × (t.transitions + spared born * t.forks ≡ t'.transitions)

  -- A state in step, at which P holds of what is to come.
  abbrev pub InStep : (born : Bool) (τ : ℕ) → (State K M → ToCome → Type 0) → State K M → Type 0
  InStep born τ P (state c S n g t) = (b : Beside born c S t) × P (state c S n g t) (to_come K M fuel frames z g' t' τ b.run)

  module _ (τ : ℕ) (P Q : State K M → ToCome → Type 0) where
    -- After a move from s: in step again, with Q; or at the same end, where P held.
    abbrev pub Paced : Bool → State K M → Type 0
    Paced born s = Kept (InStep born τ Q) (Alike born P) (move K M fuel frames born s)

    -- A move of this state turns P into Q.
    abbrev pub Turns : Bool → State K M → Type 0
    Turns born s = (u : State K M) (mv : Move K M fuel frames born s u) (y : ToCome) → P s (before K M fuel frames τ mv y) → Q u y

    -- A move here, with the sequential run after it.
    goes : (born : Bool) {s : State K M} {c : Control M.Code} {S : Stack K M} {n : ℕ} {g : K.Cost} {t : RunCounts} → Turns born s
        → (mv : Move K M fuel frames born s (state c S n g t)) {credits : ℕ} {cost : K.Cost} {counts : RunCounts}
        → (r : RestAt (state c (erase S) credits cost counts)) → Against born S t counts
        → P s (before K M fuel frames τ mv (coming τ r)) → Paced born s
    unfolding Kept
    goes born kept mv r a p =
        rw (move_is K M fuel frames mv) (record { credits = _; cost = _; counts = _; run = r; against = a }, kept _ mv (coming τ r) p)

    module _ (n : ℕ) (g : K.Cost) (t : RunCounts) where
      -- A move of the sequential run is one here.
      follow : (born : Bool) (c : Control M.Code) (S : Stack K M) → Turns born (state c S n g t)
          → {credits : ℕ} {cost : K.Cost} {counts : RunCounts} {u : State K M}
          → (mv : Move K M fuel frames false (state c (erase S) credits cost counts) u) (r : RestAt u)
          → Against born S t counts → P (state c S n g t) (before K M fuel frames τ mv (coming τ r)) → Paced born (state c S n g t)
      unfolding erase erased before total arrivals spared
      follow born (evaluate c) S kept (goes_on e l) r a p = goes born kept (goes_on e (omega arith)) r (omega arith) p
      follow born (evaluate c) S kept (opens e l i) r a p =
          goes born kept (opens e (omega arith) (omega (arith, length_erase S))) r (omega (arith, length_erase S)) p
      follow true (evaluate c) S kept (forks e l i) r a p =
          goes true kept (forks_freely e (omega (arith, length_erase S))) r (omega (arith, length_erase S)) p
      follow false (evaluate c) S kept (forks e l i) r a p =
          goes false kept (forks e (omega arith) (omega (arith, length_erase S))) r (omega (arith, length_erase S)) p
      follow born (return v) [] kept {credits = credits} {cost = cost} {counts = counts} {u = u} mv r a p = elim mv [ ]
      follow born (return v) (ordinary f ∷ S) kept (closes e l) r a p = goes born kept (closes e (omega arith)) r (omega arith) p
      follow born (return v) (ordinary f ∷ S) kept (keeps_frame e l) r a p = goes born kept (keeps_frame e (omega arith)) r (omega arith) p
      follow born (return v) (plain_left b ∷ S) kept (turns l) r a p = goes born kept (turns (omega arith)) r (omega arith) p
      follow born (return v) (plain_right b w ∷ S) kept (joins l) r a p = goes born kept (joins (omega arith)) r (omega arith) p
      follow born (return v) (promoted_left h b ∷ S) kept (turns l) r a p = goes born kept turns_freely r (omega arith) p
      follow born (return v) (promoted_right h i b w ∷ S) kept (joins l) r a p = goes born kept joins_freely r (omega arith) p

      module _ (born : Bool) where
        -- A stop of the sequential run is one here.
        stuck_here : (c : Control M.Code) (S : Stack K M) {credits i : ℕ} {cost : K.Cost} {counts : RunCounts} {p : Place}
            → Against born S t counts → Stuck K M fuel frames false (state c (erase S) credits cost counts) i p
            → Stuck K M fuel frames born (state c S n g t) i p
        unfolding erase erased
        stuck_here (evaluate c) S a (at_code e l) = at_code {t = t} e (omega arith)
        stuck_here (evaluate c) S a (no_frame e l r) = no_frame {S = S} {t = t} e (omega arith) (omega (arith, length_erase S))
        stuck_here (evaluate c) S a (no_fork_frame e l r) =
            no_fork_frame {born = born} {S = S} {t = t} e (λ q. omega (arith, l refl)) (omega (arith, length_erase S))
        stuck_here (return v) (ordinary f ∷ S) a (at_frame e l) = at_frame {t = t} e (omega arith)
        stuck_here (return v) [] {credits = credits} {i = i} {cost = cost} {counts = counts} {p = p} a x3 = elim x3 [ ]
        stuck_here (return v) (plain_left _ ∷ S) {credits = credits} {i = i} {cost = cost} {counts = counts} {p = p} a x7 = elim x7 [ ]
        stuck_here (return v) (plain_right _ _ ∷ S) {credits = credits} {i = i} {cost = cost} {counts = counts} {p = p} a x9 = elim x9 [ ]
        stuck_here (return v) (promoted_left _ _ ∷ S) {credits = credits} {i = i} {cost = cost} {counts = counts} {p = p} a x10 = elim x10 [ ]
        stuck_here (return v) (promoted_right _ _ _ _ ∷ S) {credits = credits} {i = i} {cost = cost} {counts = counts} {p = p} a x13 = elim x13 [ ]

        -- A value with no frame left, in both.
        value_here : (v : ℕ) → z ≡ value v → Against {Cost = K.Cost} {Frame = M.Frame} {Fork = M.Fork} born [] t t'
            → P (state (return v) [] n g t) at_the_end → Paced born (state (return v) [] n g t)
        unfolding move Kept total
        value_here v e a p =
            record {
              same = sym e;
              fewer = a.fewer;
              depth = a.depth;
              at_a_value = λ w i. let u : v ≡ w = cc in (n, rw u at p, omega arith);
            }

        -- EVERY MOVE KEEPS STEP: it is the sequential run's, or both have ended.
        pub pace_move : (c : Control M.Code) (S : Stack K M) → Turns born (state c S n g t)
            → InStep born τ P (state c S n g t) → Kept (InStep born τ Q) (Alike born P) (move K M fuel frames born (state c S n g t))
        unfolding to_come Kept
        pace_move c S kept i = on i.0.run i.0.against i.1
          where
            on : {credits : ℕ} {cost : K.Cost} {counts : RunCounts} (r : RestAt (state c (erase S) credits cost counts))
                → Against born S t counts → P (state c S n g t) (coming τ r) → Paced born (state c S n g t)
            on (at_value {v = v} ec es ez) a p =
                let empty : S ≡ [] = erase_empty S es in
                rw (ec, empty) (value_here v ez (rw empty at a) (rw (ec, empty) at p))
            on (at_stop h ez) a p =
                rw (stuck_is K M fuel frames (stuck_here c S a h)) (record {
                  same = sym ez;
                  fewer = a.fewer;
                  depth = a.depth;
                  at_a_value = λ v e. let no : ◌≡◌ {A = ℕ} 0 1 = cc in absurd (omega arith);
                })
            on (onward mv r) a p = follow born c S kept mv r a p

      -- SO DOES A PROMOTION, of which the sequential run sees nothing.
      pub pace_promotion : (c : Control M.Code) (S : Stack K M) → promotable S ≡ true
          → ((y : ToCome) → P (state c S n g t) y → Q (after_promotion K M c S n g t) y)
          → InStep false τ P (state c S n g t) → InStep false τ Q (after_promotion K M c S n g t)
      unfolding arrivals spared
      pace_promotion c S able kept i =
          let b = i.0 in
          let r : (r : RestAt (state c (erase (promote g S)) b.credits b.cost b.counts)) × P (state c S n g t) (coming τ r)
          = rw (erase_promote g S) (b.run, i.1) in
          let a : Against false (promote g S) (split t) b.counts
          = omega (arith, b.against, total_promote arrivals 2 0 g (λ b. refl) (λ b. refl) S able) in
          (record { credits = _; cost = _; counts = _; run = r.0; against = a }, kept (coming τ r.0) r.1)

  -- A schedule whose steps keep P keeps step.
  module _ (τ : ℕ) (m : Schedule) (P : State K M → ToCome → Type 0)
      (kept : (s u : State K M) (x : Step K M fuel frames m s u) (y : ToCome) → P s (before_step K M fuel frames τ m x y) → P u y) where
    abbrev Inv : State K M → Type 0
    Inv s = InStep (promoted_at_birth m) τ P s

    abbrev Fin : Ending → K.Cost → RunCounts → Type 0
    Fin e g t = Alike (promoted_at_birth m) P e g t

    pace : (s : State K M) → Inv s → Kept Inv Fin (step K M fuel frames m s)
    unfolding before_step Kept
    pace (state c S n g t) i = on (promotion_due m n (promotable S)) refl
      where
        on : (q : Bool) → promotion_due m n (promotable S) ≡ q → Kept Inv Fin (step K M fuel frames m (state c S n g t))
        on true h =
            let birth = due_not_born m n (promotable S) h in
            let able = due_promotable m n (promotable S) h in
            let j : InStep false τ P (after_promotion K M c S n g t)
            = pace_promotion τ P P n g t c S able (λ y p. kept _ _ (promotes h) y p) (rw birth at i) in
            rw (step_is K M fuel frames m (promotes {c = c} {S = S} {n = n} {g = g} {t = t} h), birth) j
        on false h =
            rw (quiet_is K M fuel frames m c S n g t h)
            (pace_move τ P P n g t (promoted_at_birth m) c S (λ u mv y p. kept _ _ (moves_on h mv) y p) i)

    -- THE WHOLE RUN: it ends as the sequential one does, and what its steps keep holds at a value.
    pub ends_alike : (c : M.Code) (r : Rest K M fuel frames z g' t' (start K M c)) → P (start K M c) (to_come K M fuel frames z g' t' τ r)
        → (e : EndsIn (outcome K M fuel frames m c) z) × Alike (promoted_at_birth m) P z e.cost e.counts
    unfolding outcome start erase total Kept
    ends_alike c r p =
        let f = finishes K M fuel frames m c in
        let begun : Inv (start K M c)
        = (record { credits = _; cost = _; counts = _; run = r; against = omega arith }, p) in
        let a : Fin f.0 f.1.cost f.1.counts
        = rw f.1.is at (keeps (step K M fuel frames m) Inv Fin pace (moves fuel frames) (start K M c) begun) in
        let is = f.1.is ∙ ap (λ (y : Ending). ended y f.1.cost f.1.counts) a.same in
        (record { cost = f.1.cost; counts = f.1.counts; is = is }, rw a.same at a)

-- With nothing kept besides.
pub in_lockstep : Lockstep
unfolding outcome
in_lockstep K M fuel frames m c z g t funded e =
    let r = rest K M fuel frames z g t funded (way K M fuel frames sequential (moves fuel frames) (start K M c) z g t e) in
    let a = ends_alike K M fuel frames z g t 0 m (λ s y. Unit {0}) (λ s u x y p. tt) c r tt in
    record { run = a.0; fewer = a.1.fewer; depth = a.1.depth; spares = λ v i. (a.1.at_a_value v i).2 }
