-- Steps by the flags of a schedule, as code makes them, over any way to keep cost.
--     StepBy, step_by_view    the inversion of such a step
--     Within, within_steps    credits and transitions stay within the fuel
--     runs_same               so that the runs by a schedule and by its flags are the same
--     risen_at_most           transitions rise by at most one a step
--     steps_map               a homomorphism carries such steps over
--     lifted, lifted_end      and from what it leads to back
use Prim.Native.Nat.{ℕ, zero, suc, ◌+◌, ◌≤◌}
use mathlib.Core.Path.{◌≡◌, refl, ap, sym, ◌∙◌, subst}
use mathlib.Core.Bool.{Bool, true, false, cond, ◌&&◌}
use native.Mathlib.Omega.{arith}
use lib.Dec.{leb}
use borrow.Author.Tests.{lt-leb}
use Rattle.schedule.specs.Algebra.{CostAlgebra, Homomorphism}
use Rattle.schedule.specs.FrameMachine.{Control, FrameMachine}
use Rattle.schedule.specs.Machine.{Stack, promotable, promote, Ending, RunCounts, split, State, state, Outcome, Result, ended, ongoing, Schedule, sequential, parallel, heartbeat, promoted_at_birth, promotion_due, after_promotion, move, step}
use Rattle.schedule.specs.Runs.{and_then, run}
use Rattle.schedule.specs.Bounds.{step_by, Flags}
use Rattle.schedule.specs.Homomorphism.{map_stack, map_state, map_outcome}
use Rattle.schedule.proofs.Moves.{Move, goes_on, opens, closes, keeps_frame, forks, turns, joins, forks_freely, turns_freely, joins_freely, is_value, is_halt, is_step, MoveView, move_view}
use Rattle.schedule.proofs.Homomorphism.{run_map, promotable_map, promote_map, move_map}

-- The transitions that a state has made.
unfoldable pub made : (K : CostAlgebra) (M : FrameMachine) → State K M → ℕ
made K M (state c S n g t) = t.transitions

module _ (K : CostAlgebra) (M : FrameMachine) (fuel frames : ℕ) where
  -- WITHIN THE FUEL.
  unfoldable pub Within : State K M → Type 0
  Within (state c S n g t) = (n ≤ t.transitions) × (t.transitions ≤ fuel)

  within_move : {born : Bool} {s u : State K M} → Move K M fuel frames born s u → Within s → Within u
  unfolding Within
  within_move (goes_on e l) i = omega arith
  within_move (opens e l r) i = omega arith
  within_move (closes e l) i = omega arith
  within_move (keeps_frame e l) i = omega arith
  within_move (forks e l r) i = omega arith
  within_move (turns l) i = omega arith
  within_move (joins l) i = omega arith
  within_move (forks_freely e r) i = omega arith
  within_move turns_freely i = omega arith
  within_move joins_freely i = omega arith

  -- Transitions rise by at most one.
  rises_by : {born : Bool} {s u : State K M} → Move K M fuel frames born s u → made K M u ≤ made K M s + 1
  unfolding made
  rises_by (goes_on e l) = omega arith
  rises_by (opens e l r) = omega arith
  rises_by (closes e l) = omega arith
  rises_by (keeps_frame e l) = omega arith
  rises_by (forks e l r) = omega arith
  rises_by (turns l) = omega arith
  rises_by (joins l) = omega arith
  rises_by (forks_freely e r) = omega arith
  rises_by turns_freely = omega arith
  rises_by joins_freely = omega arith

module _ (K : CostAlgebra) (M : FrameMachine) (fuel frames : ℕ) (born : Bool) (N : ℕ) where
  -- A STEP by the flags: a promotion that is due, or a move.
  pub data StepBy : State K M → State K M → Type 0 where
    promoting : {c : Control M.Code} {S : Stack K M} {n : ℕ} {g : K.Cost} {t : RunCounts} → (leb N n && promotable S) ≡ true
        → StepBy (state c S n g t) (after_promotion K M c S n g t)
    moving : {c : Control M.Code} {S : Stack K M} {n : ℕ} {g : K.Cost} {t : RunCounts} {u : State K M} → (leb N n && promotable S) ≡ false
        → Move K M fuel frames born (state c S n g t) u → StepBy (state c S n g t) u

  moved : {s u : State K M} {o : Result K M} → MoveView K M fuel frames born s o → o ≡ ongoing u → Move K M fuel frames born s u
  moved is_value e = let no : ◌≡◌ {A = ℕ} 0 1 = cc in absurd (omega arith)
  moved (is_halt h) e = let no : ◌≡◌ {A = ℕ} 0 1 = cc in absurd (omega arith)
  moved {s} {u} (is_step {u = x} m) e = let same : x ≡ u = cc in subst (λ (y : State K M). Move K M fuel frames born s y) same m

  pub step_by_view : (s u : State K M) → step_by K M fuel frames born N s ≡ ongoing u → StepBy s u
  unfolding step_by
  step_by_view (state c S n g t) u e = on (leb N n && promotable S) refl e
    where
      on : (q : Bool) → (leb N n && promotable S) ≡ q
          → cond q (ongoing (after_promotion K M c S n g t)) (move K M fuel frames born (state c S n g t)) ≡ ongoing u
          → StepBy (state c S n g t) u
      on true h e = let same : after_promotion K M c S n g t ≡ u = cc in subst (λ (y : State K M). StepBy (state c S n g t) y) same (promoting h)
      on false h e = moving h (moved (move_view K M fuel frames born (state c S n g t)) e)

  within_step : {s u : State K M} → StepBy s u → Within K M fuel frames s → Within K M fuel frames u
  unfolding Within
  within_step (promoting h) i = omega arith
  within_step (moving h m) i = within_move K M fuel frames m i

  rises : {s u : State K M} → StepBy s u → made K M u ≤ made K M s + 1
  unfolding made
  rises (promoting h) = omega arith
  rises (moving h m) = rises_by K M fuel frames m

  -- A run of at least one step that goes on begins with a step that goes on.
  pub first_step : (k : ℕ) (s u : State K M) → run (step_by K M fuel frames born N) (suc k) s ≡ ongoing u
      → (x : State K M) × (step_by K M fuel frames born N s ≡ ongoing x) × (run (step_by K M fuel frames born N) k x ≡ ongoing u)
  unfolding run and_then
  first_step k s u e = on (step_by K M fuel frames born N s) refl e
    where
      on : (o : Result K M) → step_by K M fuel frames born N s ≡ o → and_then o (run (step_by K M fuel frames born N) k) ≡ ongoing u
          → (x : State K M) × (step_by K M fuel frames born N s ≡ ongoing x) × (run (step_by K M fuel frames born N) k x ≡ ongoing u)
      on (ended z g t) h e = let no : ◌≡◌ {A = ℕ} 0 1 = cc in absurd (omega arith)
      on (ongoing x) h e = (x, h, e)

  pub no_steps : (s u : State K M) → run (step_by K M fuel frames born N) 0 s ≡ ongoing u → s ≡ u
  unfolding run
  no_steps s u e = cc

  pub risen_at_most : (k : ℕ) (s u : State K M) → run (step_by K M fuel frames born N) k s ≡ ongoing u → made K M u ≤ made K M s + k
  risen_at_most zero s u e = let same = no_steps s u e in rw same (omega arith)
  risen_at_most (suc k) s u e =
      let x = first_step k s u e in
      omega (arith, rises (step_by_view s x.0 x.1), risen_at_most k x.0 u x.2)

  pub risen_first : (s x : State K M) → step_by K M fuel frames born N s ≡ ongoing x → made K M x ≤ made K M s + 1
  risen_first s x e = rises (step_by_view s x e)

  pub within_steps : (k : ℕ) (s u : State K M) → run (step_by K M fuel frames born N) k s ≡ ongoing u → Within K M fuel frames s → Within K M fuel frames u
  within_steps zero s u e i = subst (Within K M fuel frames) (no_steps s u e) i
  within_steps (suc k) s u e i = let x = first_step k s u e in within_steps k x.0 u x.2 (within_step (step_by_view s x.0 x.1) i)

  -- The flags of a schedule are its step.
  pub flags_step : (m : Schedule) → Flags fuel m born N → (s : State K M) → Within K M fuel frames s
      → step K M fuel frames m s ≡ step_by K M fuel frames born N s
  unfolding step promoted_at_birth promotion_due Flags step_by Within
  flags_step sequential h (state c S n g t) i = let x : leb N n ≡ false = lt-leb N n (omega arith) in rw (x, h.0)
  flags_step parallel h (state c S n g t) i = let x : leb N n ≡ false = lt-leb N n (omega arith) in rw (x, h.0)
  flags_step (heartbeat period) h (state c S n g t) i = rw (h.0, h.1)

  pub runs_same : (m : Schedule) → Flags fuel m born N → (k : ℕ) (s : State K M) → Within K M fuel frames s
      → run (step K M fuel frames m) k s ≡ run (step_by K M fuel frames born N) k s
  unfolding run and_then
  runs_same m h zero s i = refl
  runs_same m h (suc k) s i = rw (flags_step m h s i) (on (step_by K M fuel frames born N s) refl (runs_same m h k))
    where
      on : (o : Result K M) → step_by K M fuel frames born N s ≡ o
          → ((x : State K M) → Within K M fuel frames x → run (step K M fuel frames m) k x ≡ run (step_by K M fuel frames born N) k x)
          → and_then o (run (step K M fuel frames m) k) ≡ and_then o (run (step_by K M fuel frames born N) k)
      on (ended z g t) e again = refl
      on (ongoing x) e again = again x (within_step (step_by_view s x e) i)

-- HOMOMORPHISMS.
module _ (K L : CostAlgebra) (M : FrameMachine) (h : K.Cost → L.Cost) (e : Homomorphism K L h) (fuel frames : ℕ) (born : Bool) (N : ℕ) where
  abbrev mapped : Result K M → Result L M
  mapped o = map_outcome h (map_state K L M h) o

  cond_map : (q : Bool) (a b : Result K M) → cond q (mapped a) (mapped b) ≡ mapped (cond q a b)
  cond_map true a b = refl
  cond_map false a b = refl

  pub step_by_map : (s : State K M) → step_by L M fuel frames born N (map_state K L M h s) ≡ mapped (step_by K M fuel frames born N s)
  unfolding step_by map_outcome map_state
  step_by_map (state c S n g t) =
      let due = leb N n && promotable S in
      let o : Result K M = move K M fuel frames born (state c S n g t) in
      rw (promotable_map h S, promote_map h g S, move_map K L M h e fuel frames born c S n g t)
      (ap (λ (a : L.Cost). cond due (ongoing (state c (map_stack h (promote g S)) 0 a (split t))) (mapped o)) (sym e.on_empty)
      ∙ cond_map due (ongoing (after_promotion K M c S n g t)) o)

  pub steps_map : (k : ℕ) (s : State K M) → run (step_by L M fuel frames born N) k (map_state K L M h s) ≡ mapped (run (step_by K M fuel frames born N) k s)
  steps_map = run_map h (map_state K L M h) (step_by K M fuel frames born N) (step_by L M fuel frames born N) step_by_map

module _ {Cost Cost' X Y : Type 0} (h : Cost → Cost') (k : X → Y) where
  pub lifted : (o : Outcome Cost X) (y : Y) → map_outcome h k o ≡ ongoing y → (x : X) × (o ≡ ongoing x) × (k x ≡ y)
  unfolding map_outcome
  lifted (ended z g t) y e = let no : ◌≡◌ {A = ℕ} 0 1 = cc in absurd (omega arith)
  lifted (ongoing x) y e = (x, refl, cc)

  pub lifted_end : (o : Outcome Cost X) (z : Ending) (a : Cost') (t : RunCounts) → map_outcome h k o ≡ ended z a t
      → (g : Cost) × (o ≡ ended z g t) × (h g ≡ a)
  unfolding map_outcome
  lifted_end (ended y g u) z a t e = let p : y ≡ z = cc in let q : u ≡ t = cc in let d : h g ≡ a = cc in (g, rw (p, q), d)
  lifted_end (ongoing x) z a t e = let no : ◌≡◌ {A = ℕ} 0 1 = cc in absurd (omega arith)
