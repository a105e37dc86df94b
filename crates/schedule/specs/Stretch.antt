-- Stretches: several transitions at once, by ordinary frames that are opened and closed again on the way. Code that makes a stretch without writing
-- its frames is right by the theorem at the end.
use Rattle.std.specs.Prelude.{ℕ, zero, suc, ◌+◌, ◌≤◌, max, ◌≡◌, Bool, true, ◌∷◌, length}
use Rattle.schedule.specs.Algebra.{CostAlgebra}
use Rattle.schedule.specs.FrameMachine.{Control, evaluate, return, go_on, open_frame, close, keep, FrameMachine}
use Rattle.schedule.specs.Machine.{ordinary, Stack, promotable, RunCounts, state, ongoing}
use Rattle.schedule.specs.Runs.{run}
use Rattle.schedule.specs.Bounds.{step_by}

module _ (M : FrameMachine) where
  mutual
    -- Code c leads to the control e by k transitions, with h frames more at once; where e returns v, v is the value of c.
    pub data Leads : M.Code → Control M.Code → ℕ → ℕ → Type 0 where
      goes : {c : M.Code} {e : Control M.Code} {k h : ℕ} → M.next c ≡ go_on e → k ≡ 1 → h ≡ 0 → Leads c e k h
      enters : {c : M.Code} {e : Control M.Code} {k h : ℕ} (f : M.Frame) (d : M.Code) (x i j a b : ℕ) → M.next c ≡ open_frame f d
          → Leads d (return x) i a → Through f x e j b → k ≡ i + j + 1 → h ≡ max a b + 1 → Leads c e k h

    -- The value x that arrives at the frame f leads to the control e with the frame closed.
    pub data Through : M.Frame → ℕ → Control M.Code → ℕ → ℕ → Type 0 where
      closes : {f : M.Frame} {x : ℕ} {e : Control M.Code} {k h : ℕ} → M.arrive f x ≡ close e → k ≡ 1 → h ≡ 0 → Through f x e k h
      keeps : {f : M.Frame} {x : ℕ} {e : Control M.Code} {k h : ℕ} (f' : M.Frame) (d : M.Code) (y i j a b : ℕ) → M.arrive f x ≡ keep f' d
          → Leads d (return y) i a → Through f' y e j b → k ≡ i + j + 1 → h ≡ max a b → Through f x e k h

-- The most frames at once, after h more than d; with no frame more it is left alone.
unfoldable pub raise : ℕ → ℕ → ℕ → ℕ
raise deepest d zero = deepest
raise deepest d (suc h) = max deepest (d + suc h)

-- The counts k transitions later, with h frames more than d at once.
abbrev pub later : ℕ → ℕ → ℕ → RunCounts → RunCounts
later k d h t = record { transitions = t.transitions + k; forks = t.forks; deepest = raise t.deepest d h }

-- The cost after k transitions.
unfoldable pub transits : (K : CostAlgebra) → ℕ → K.Cost → K.Cost
transits K zero g = g
transits K (suc k) g = transits K k (K.transition g)

-- There is fuel for k transitions and there are h frames more than d, and no promotion comes between.
pub record Room (fuel frames N : ℕ) (able : Bool) (d n : ℕ) (t : RunCounts) (k h : ℕ) : Type 0 where
  pub within_fuel : t.transitions + k ≤ fuel
  pub within_frames : d + h ≤ frames
  pub calm : able ≡ true → n + k ≤ N

-- THEOREMS (proofs/Stretch.antt, `code_leads`, `value_leads` and `code_opens`): the steps of a stretch, for every frame machine and every way to keep costs.
abbrev pub CodeLeads : Type 1
CodeLeads = (K : CostAlgebra) (M : FrameMachine) (fuel frames : ℕ) (born : Bool) (N : ℕ)
    → (c : M.Code) (e : Control M.Code) (k h : ℕ) → Leads M c e k h
    → (S : Stack K M) (n : ℕ) (g : K.Cost) (t : RunCounts) → Room fuel frames N (promotable S) (length S) n t k h
    → run (step_by K M fuel frames born N) k (state (evaluate c) S n g t) ≡ ongoing (state e S (n + k) (transits K k g) (later k (length S) h t))

abbrev pub ValueLeads : Type 1
ValueLeads = (K : CostAlgebra) (M : FrameMachine) (fuel frames : ℕ) (born : Bool) (N : ℕ)
    → (f : M.Frame) (x : ℕ) (e : Control M.Code) (k h : ℕ) → Through M f x e k h
    → (S : Stack K M) (n : ℕ) (g : K.Cost) (t : RunCounts) → Room fuel frames N (promotable S) (length S + 1) n t k h
    → run (step_by K M fuel frames born N) k (state (return x) (ordinary f ∷ S) n g t) ≡ ongoing (state e S (n + k) (transits K k g) (later k (length S + 1) h t))

-- code that opens a frame and leads to its first value, up to what the frame asks for next
abbrev pub CodeOpens : Type 1
CodeOpens = (K : CostAlgebra) (M : FrameMachine) (fuel frames : ℕ) (born : Bool) (N : ℕ)
    → (c d d' : M.Code) (f f' : M.Frame) (x i a : ℕ) → M.next c ≡ open_frame f d → Leads M d (return x) i a → M.arrive f x ≡ keep f' d'
    → (S : Stack K M) (n : ℕ) (g : K.Cost) (t : RunCounts) → Room fuel frames N (promotable S) (length S) n t (i + 2) (a + 1)
    → run (step_by K M fuel frames born N) (i + 2) (state (evaluate c) S n g t)
    ≡ ongoing (state (evaluate d') (ordinary f' ∷ S) (n + (i + 2)) (transits K (i + 2) g) (later (i + 2) (length S) (a + 1) t))
