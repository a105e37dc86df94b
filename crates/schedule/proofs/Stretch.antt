-- The stretch theorems (specs/Stretch.antt), and what a run of several steps keeps.
use Prim.Native.Nat.{ℕ, zero, suc, ◌+◌, ◌≤◌, ◌<◌, max}
use mathlib.Core.Path.{◌≡◌, refl, sym, ap, ◌∙◌}
use mathlib.Core.Bool.{Bool, true, false, ◌&&◌}
use mathlib.Core.List.{◌∷◌}
use native.Mathlib.Numerals.{add-one}
use native.Mathlib.Omega.{arith}
use lib.Dec.{leb}
use lib.ListN.{length}
use borrow.Author.Tests.{lt-ltb, lt-leb}
use Rattle.schedule.specs.Algebra.{CostAlgebra, spans}
use Rattle.schedule.specs.FrameMachine.{Control, evaluate, return, go_on, open_frame, close, keep, FrameMachine}
use Rattle.schedule.specs.Machine.{ordinary, Stack, promotable, RunCounts, tick, deeper, State, state, Outcome, ended, Result, ongoing, Schedule, after_transition, with_fuel, with_frame, evaluated, arrived, move, step}
use Rattle.schedule.specs.Runs.{and_then, run}
use Rattle.schedule.specs.Bounds.{step_by, Flags, measure_of, BoundedState, Advances}
use Rattle.schedule.specs.Stretch.{Leads, goes, enters, Through, closes, keeps, raise, later, transits, Room, CodeLeads, ValueLeads, CodeOpens}
use Rattle.schedule.proofs.Runs.{run_next}
use Rattle.schedule.proofs.Bounds.{step_by_advances, flags_are}

-- RUNS of so many moves, one after the other.
module _ {Cost X : Type 0} (f : X → Outcome Cost X) where
  pub first_then : (k : ℕ) (s u : X) (o : Outcome Cost X) → f s ≡ ongoing u → run f k u ≡ o → run f (k + 1) s ≡ o
  unfolding and_then
  first_then k s u o e h = run_next f k s ∙ rw e h

  pub run_then : (i j : ℕ) (s : X) → run f (i + j) s ≡ and_then (run f i s) (run f j)
  unfolding run and_then
  run_then zero j s = let e : zero + j ≡ j = omega arith in rw e
  run_then (suc i) j s = let e : suc i + j ≡ suc (i + j) = omega arith in rw e (on (f s) (run_then i j))
    where
      on : (o : Outcome Cost X) → ((u : X) → run f (i + j) u ≡ and_then (run f i u) (run f j))
          → and_then o (run f (i + j)) ≡ and_then (and_then o (run f i)) (run f j)
      on (ended z g t) again = refl
      on (ongoing u) again = again u

  pub both_runs : (i j : ℕ) (s u : X) (o : Outcome Cost X) → run f i s ≡ ongoing u → run f j u ≡ o → run f (i + j) s ≡ o
  unfolding and_then
  both_runs i j s u o e h = run_then i j s ∙ rw e h

-- THE COUNTS
pub raise_none : (deepest d h : ℕ) → h ≡ 0 → raise deepest d h ≡ deepest
unfolding raise
raise_none deepest d h e = rw e

pub raise_some : (deepest d h : ℕ) → 0 < h → raise deepest d h ≡ max deepest (d + h)
unfolding raise
raise_some deepest d zero l = absurd (omega arith)
raise_some deepest d (suc h) l = refl

-- where so many frames were occupied before
pub raise_within : (deepest d h : ℕ) → d + h ≤ deepest → raise deepest d h ≡ deepest
unfolding raise
raise_within deepest d zero l = refl
raise_within deepest d (suc h) l = omega arith

raise_twice : (m d a b : ℕ) → raise (raise m d a) d b ≡ raise m d (max a b)
unfolding raise
raise_twice m d zero zero = refl
raise_twice m d zero (suc b) = omega (arith, raise_some m d (max zero (suc b)) (omega arith))
raise_twice m d (suc a) zero = omega (arith, raise_some m d (max (suc a) zero) (omega arith))
raise_twice m d (suc a) (suc b) = omega (arith, raise_some m d (max (suc a) (suc b)) (omega arith))

raise_under : (m d h : ℕ) → raise (max m (d + 1)) (d + 1) h ≡ raise m d (h + 1)
unfolding raise
raise_under m d zero = omega (arith, raise_some m d (zero + 1) (omega arith))
raise_under m d (suc h) = omega (arith, raise_some m d (suc h + 1) (omega arith))

pub transits_span : (τ k g : ℕ) → transits (spans τ) k g ≡ g + k
unfolding transits
transits_span τ zero g = omega arith
transits_span τ (suc k) g = omega (arith, transits_span τ k (g + 1))

transits_twice : (K : CostAlgebra) (i j : ℕ) (g : K.Cost) → transits K j (transits K i g) ≡ transits K (i + j) g
unfolding transits
transits_twice K zero j g = let e : zero + j ≡ j = omega arith in rw e
transits_twice K (suc i) j g = let e : suc i + j ≡ suc (i + j) = omega arith in rw e (transits_twice K i j (K.transition g))

counts_are : (t : RunCounts) (a b d e : ℕ) → a ≡ b → d ≡ e → ◌≡◌ {A = RunCounts} (record { transitions = a; forks = t.forks; deepest = d }) (record { transitions = b; forks = t.forks; deepest = e })
counts_are t a b d e x y = rw (x, y)

-- NO PROMOTION is due
calm_now : (N n : ℕ) (able : Bool) → (able ≡ true → n + 1 ≤ N) → (leb N n && able) ≡ false
calm_now N n true h = rw (lt-leb N n (omega (arith, h refl)))
calm_now N n false h = off (leb N n)
  where
    off : (q : Bool) → (q && false) ≡ false
    off true = refl
    off false = refl

module _ (K : CostAlgebra) (M : FrameMachine) (fuel frames : ℕ) (born : Bool) (N : ℕ) where
  abbrev once : State K M → Result K M
  once = step_by K M fuel frames born N

  -- ONE STEP of each kind
  module _ (S : Stack K M) (n : ℕ) (g : K.Cost) (t : RunCounts) (paid : t.transitions < fuel) (calm : promotable S ≡ true → n + 1 ≤ N) where
    step_goes : (c : M.Code) (e : Control M.Code) → M.next c ≡ go_on e → once (state (evaluate c) S n g t) ≡ ongoing (after_transition K M e S n g t)
    unfolding step_by move evaluated with_fuel
    step_goes c e q = rw (calm_now N n (promotable S) calm, q, lt-ltb _ _ paid)

    step_enters : (c d : M.Code) (f : M.Frame) → M.next c ≡ open_frame f d → length S < frames
        → once (state (evaluate c) S n g t) ≡ ongoing (after_transition K M (evaluate d) (ordinary f ∷ S) n g (deeper (length S + 1) t))
    unfolding step_by move evaluated with_fuel with_frame
    step_enters c d f q l = rw (calm_now N n (promotable S) calm, q, lt-ltb _ _ paid, lt-ltb _ _ l)

    step_closes : (f : M.Frame) (x : ℕ) (e : Control M.Code) → M.arrive f x ≡ close e
        → once (state (return x) (ordinary f ∷ S) n g t) ≡ ongoing (after_transition K M e S n g t)
    unfolding step_by move arrived with_fuel promotable
    step_closes f x e q = rw (calm_now N n (promotable S) calm, q, lt-ltb _ _ paid)

    step_keeps : (f f' : M.Frame) (d : M.Code) (x : ℕ) → M.arrive f x ≡ keep f' d
        → once (state (return x) (ordinary f ∷ S) n g t) ≡ ongoing (after_transition K M (evaluate d) (ordinary f' ∷ S) n g t)
    unfolding step_by move arrived with_fuel promotable
    step_keeps f f' d x q = rw (calm_now N n (promotable S) calm, q, lt-ltb _ _ paid)

  one_step : (s u : State K M) → once s ≡ ongoing u → run once 1 s ≡ ongoing u
  unfolding run
  one_step s u e = first_then once 0 s u (ongoing u) e refl

  -- the states at the end are the same
  same_state : (e : Control M.Code) (S : Stack K M) (n n' : ℕ) (g g' : K.Cost) (t t' : RunCounts) → n ≡ n' → g ≡ g' → t ≡ t'
      → ◌≡◌ {A = Result K M} (ongoing (state e S n g t)) (ongoing (state e S n' g' t'))
  same_state e S n n' g g' t t' x y z = rw (x, y, z)

  costs_are : (i j : ℕ) (g : K.Cost) → transits K j (transits K i (K.transition g)) ≡ transits K (i + j + 1) g
  unfolding transits
  costs_are i j g = let e : i + j + 1 ≡ suc (i + j) = add-one (i + j) in rw e (transits_twice K i j (K.transition g))

  entered : (e : Control M.Code) (S : Stack K M) (n : ℕ) (g : K.Cost) (t : RunCounts) (i j a b h : ℕ) → h ≡ max a b + 1
      → ◌≡◌ {A = Result K M} (ongoing (state e S (n + 1 + i + j) (transits K j (transits K i (K.transition g))) (later j (length S + 1) b (later i (length S + 1) a (tick (deeper (length S + 1) t))))))
      (ongoing (state e S (n + (i + j + 1)) (transits K (i + j + 1) g) (later (i + j + 1) (length S) h t)))
  entered e S n g t i j a b h z =
      let d = length S in
      same_state e S _ _ _ _ _ _ (omega arith) (costs_are i j g)
      (counts_are t _ _ _ _ (omega arith) (raise_twice (max t.deepest (d + 1)) (d + 1) a b ∙ raise_under t.deepest d (max a b) ∙ ap (λ (x : ℕ). raise t.deepest d x) (sym z)))

  kept : (e : Control M.Code) (S : Stack K M) (n : ℕ) (g : K.Cost) (t : RunCounts) (i j a b h : ℕ) → h ≡ max a b
      → ◌≡◌ {A = Result K M} (ongoing (state e S (n + 1 + i + j) (transits K j (transits K i (K.transition g))) (later j (length S + 1) b (later i (length S + 1) a (tick t)))))
      (ongoing (state e S (n + (i + j + 1)) (transits K (i + j + 1) g) (later (i + j + 1) (length S + 1) h t)))
  kept e S n g t i j a b h z =
      let d = length S + 1 in
      same_state e S _ _ _ _ _ _ (omega arith) (costs_are i j g)
      (counts_are t _ _ _ _ (omega arith) (raise_twice t.deepest d a b ∙ ap (λ (x : ℕ). raise t.deepest d x) (sym z)))

  -- over one frame more
  over : (c : M.Code) (e : Control M.Code) (k h : ℕ) (f : M.Frame) (S : Stack K M) (n : ℕ) (g : K.Cost) (t : RunCounts)
      → (Room fuel frames N (promotable (ordinary f ∷ S)) (length (ordinary f ∷ S)) n t k h
      → run once k (state (evaluate c) (ordinary f ∷ S) n g t) ≡ ongoing (state e (ordinary f ∷ S) (n + k) (transits K k g) (later k (length (ordinary f ∷ S)) h t)))
      → Room fuel frames N (promotable S) (length S + 1) n t k h
      → run once k (state (evaluate c) (ordinary f ∷ S) n g t) ≡ ongoing (state e (ordinary f ∷ S) (n + k) (transits K k g) (later k (length S + 1) h t))
  unfolding promotable
  over c e k h f S n g t u r =
      let l : length S + 1 ≡ length (ordinary f ∷ S) = add-one (length S) in
      rw l (u (rw l at r))

  mutual
    unfolding transits raise

    leads : {c : M.Code} {e : Control M.Code} {k h : ℕ} → Leads M c e k h
        → (S : Stack K M) (n : ℕ) (g : K.Cost) (t : RunCounts) → Room fuel frames N (promotable S) (length S) n t k h
        → run once k (state (evaluate c) S n g t) ≡ ongoing (state e S (n + k) (transits K k g) (later k (length S) h t))
    leads {c} {e} {k} {h} (goes q x y) S n g t r =
        rw (x, y) (one_step _ _ (step_goes S n g t (omega (arith, r.within_fuel)) (λ z. omega (arith, r.calm z)) c e q))
    leads {c} {e} {k} {h} (enters f d x i j a b q u v y z) S n g t r =
        let T = tick (deeper (length S + 1) t) in
        let r₁ : Room fuel frames N (promotable S) (length S + 1) (n + 1) T i a = record {
          within_fuel = omega (arith, r.within_fuel);
          within_frames = omega (arith, r.within_frames);
          calm = λ p. omega (arith, r.calm p);
        } in
        let r₂ : Room fuel frames N (promotable S) (length S + 1) (n + 1 + i) (later i (length S + 1) a T) j b = record {
          within_fuel = omega (arith, r.within_fuel);
          within_frames = omega (arith, r.within_frames);
          calm = λ p. omega (arith, r.calm p);
        } in
        let now = step_enters S n g t (omega (arith, r.within_fuel)) (λ p. omega (arith, r.calm p)) c d f q (omega (arith, r.within_frames)) in
        let one = over d (return x) i a f S (n + 1) (K.transition g) T (λ p. leads u (ordinary f ∷ S) (n + 1) (K.transition g) T p) r₁ in
        let two = through v S (n + 1 + i) (transits K i (K.transition g)) (later i (length S + 1) a T) r₂ in
        rw y (first_then once (i + j) _ _ _ now (both_runs once i j _ _ _ one two) ∙ entered e S n g t i j a b h z)

    through : {f : M.Frame} {x : ℕ} {e : Control M.Code} {k h : ℕ} → Through M f x e k h
        → (S : Stack K M) (n : ℕ) (g : K.Cost) (t : RunCounts) → Room fuel frames N (promotable S) (length S + 1) n t k h
        → run once k (state (return x) (ordinary f ∷ S) n g t) ≡ ongoing (state e S (n + k) (transits K k g) (later k (length S + 1) h t))
    through {f} {x} {e} {k} {h} (closes q y z) S n g t r =
        rw (y, z) (one_step _ _ (step_closes S n g t (omega (arith, r.within_fuel)) (λ p. omega (arith, r.calm p)) f x e q))
    through {f} {x} {e} {k} {h} (keeps f' d y i j a b q u v o z) S n g t r =
        let T = tick t in
        let r₁ : Room fuel frames N (promotable S) (length S + 1) (n + 1) T i a = record {
          within_fuel = omega (arith, r.within_fuel);
          within_frames = omega (arith, r.within_frames);
          calm = λ p. omega (arith, r.calm p);
        } in
        let r₂ : Room fuel frames N (promotable S) (length S + 1) (n + 1 + i) (later i (length S + 1) a T) j b = record {
          within_fuel = omega (arith, r.within_fuel);
          within_frames = omega (arith, r.within_frames);
          calm = λ p. omega (arith, r.calm p);
        } in
        let now = step_keeps S n g t (omega (arith, r.within_fuel)) (λ p. omega (arith, r.calm p)) f f' d x q in
        let one = over d (return y) i a f' S (n + 1) (K.transition g) T (λ p. leads u (ordinary f' ∷ S) (n + 1) (K.transition g) T p) r₁ in
        let two = through v S (n + 1 + i) (transits K i (K.transition g)) (later i (length S + 1) a T) r₂ in
        rw o (first_then once (i + j) _ _ _ now (both_runs once i j _ _ _ one two) ∙ kept e S n g t i j a b h z)

pub code_leads : CodeLeads
code_leads K M fuel frames born N c e k h u S n g t r = leads K M fuel frames born N u S n g t r

pub value_leads : ValueLeads
value_leads K M fuel frames born N f x e k h u S n g t r = through K M fuel frames born N u S n g t r

pub code_opens : CodeOpens
unfolding transits promotable
code_opens K M fuel frames born N c d d' f f' x i a q u v S n g t r =
    let T = tick (deeper (length S + 1) t) in
    let T' = later i (length S + 1) a T in
    let r₁ : Room fuel frames N (promotable S) (length S + 1) (n + 1) T i a = record {
      within_fuel = omega (arith, r.within_fuel);
      within_frames = omega (arith, r.within_frames);
      calm = λ p. omega (arith, r.calm p);
    } in
    let now = step_enters K M fuel frames born N S n g t (omega (arith, r.within_fuel)) (λ p. omega (arith, r.calm p)) c d f q (omega (arith, r.within_frames)) in
    let one = over K M fuel frames born N d (return x) i a f S (n + 1) (K.transition g) T (λ p. leads K M fuel frames born N u (ordinary f ∷ S) (n + 1) (K.transition g) T p) r₁ in
    let two = step_keeps K M fuel frames born N S (n + 1 + i) (transits K i (K.transition g)) T' (omega (arith, r.within_fuel)) (λ p. omega (arith, r.calm p)) f f' d' x v in
    let runs = first_then (step_by K M fuel frames born N) (i + 1) _ _ _ now (both_runs (step_by K M fuel frames born N) i 1 _ _ _ one (one_step K M fuel frames born N _ _ two)) in
    let e : i + 2 ≡ i + 1 + 1 = omega arith in
    rw e (runs ∙ same_state K M fuel frames born N (evaluate d') (ordinary f' ∷ S) _ _ _ _ _ _ (omega arith) (costs_are K M fuel frames born N i 1 g) (counts_are t _ _ _ _ (omega arith) (raise_under t.deepest (length S) a)))

-- SEVERAL STEPS, by flags: they keep the bounds, and make the measure smaller by at least their number; and they are those of the schedule.
module _ (τ : ℕ) (M : FrameMachine) (fuel frames : ℕ) (born : Bool) (N : ℕ) where
  pub steps_advance : τ ≤ 10000 → (k : ℕ) (s u : State (spans τ) M) → BoundedState τ M fuel frames s
      → run (step_by (spans τ) M fuel frames born N) k s ≡ ongoing u
      → BoundedState τ M fuel frames u × (measure_of (spans τ) M fuel frames u + k ≤ measure_of (spans τ) M fuel frames s)
  unfolding run and_then Advances
  steps_advance small zero s u b e = let x : s ≡ u = cc in rw (← x) (b, omega arith)
  steps_advance small (suc k) s u b e =
      on (step_by (spans τ) M fuel frames born N s) (step_by_advances τ M fuel frames small born N s b) e (λ v b' e'. steps_advance small k v u b' e')
    where
      on : (o : Result (spans τ) M) → Advances τ M fuel frames (measure_of (spans τ) M fuel frames s) o
          → and_then o (run (step_by (spans τ) M fuel frames born N) k) ≡ ongoing u
          → ((v : State (spans τ) M) → BoundedState τ M fuel frames v → run (step_by (spans τ) M fuel frames born N) k v ≡ ongoing u
          → BoundedState τ M fuel frames u × (measure_of (spans τ) M fuel frames u + k ≤ measure_of (spans τ) M fuel frames v))
          → BoundedState τ M fuel frames u × (measure_of (spans τ) M fuel frames u + suc k ≤ measure_of (spans τ) M fuel frames s)
      on (ended z g t) a e again = let no : ◌≡◌ {A = ℕ} 0 1 = cc in absurd (omega arith)
      on (ongoing v) a e again = let x = again v a.0 e in (x.0, omega (arith, a.1, x.1))

  pub steps_same : τ ≤ 10000 → (m : Schedule) → Flags fuel m born N → (k : ℕ) (s : State (spans τ) M) → BoundedState τ M fuel frames s
      → run (step (spans τ) M fuel frames m) k s ≡ run (step_by (spans τ) M fuel frames born N) k s
  unfolding run and_then Advances
  steps_same small m h zero s b = refl
  steps_same small m h (suc k) s b =
      ap (λ (o : Result (spans τ) M). and_then o (run (step (spans τ) M fuel frames m) k)) (flags_are τ M fuel frames m born N h s b)
      ∙ on (step_by (spans τ) M fuel frames born N s) (step_by_advances τ M fuel frames small born N s b) (λ v b'. steps_same small m h k v b')
    where
      on : (o : Result (spans τ) M) → Advances τ M fuel frames (measure_of (spans τ) M fuel frames s) o
          → ((v : State (spans τ) M) → BoundedState τ M fuel frames v
          → run (step (spans τ) M fuel frames m) k v ≡ run (step_by (spans τ) M fuel frames born N) k v)
          → and_then o (run (step (spans τ) M fuel frames m) k) ≡ and_then o (run (step_by (spans τ) M fuel frames born N) k)
      on (ended z g t) a again = refl
      on (ongoing v) a again = again v a.0
