-- Two loops for every claim about runs, over any state and any step function: an invariant with a measure that falls at each step gives that
-- the run ends, and one without a measure gives what holds wherever the run is.
use Prim.Native.Nat.{ℕ, zero, suc, ◌+◌, ◌<◌}
use mathlib.Core.Path.{◌≡◌, refl, sym, ◌∙◌}
use native.Mathlib.Numerals.{add-one}
use native.Mathlib.Omega.{arith}
use Rattle.schedule.specs.Machine.{Ending, RunCounts, Outcome, ended, ongoing}
use Rattle.schedule.specs.Runs.{and_then, run, EndsIn}

-- The invariant holds on, or the end is as `Fin` says.
module _ {Cost X : Type 0} (Inv : X → Type 0) (Fin : Ending → Cost → RunCounts → Type 0) where
  unfoldable pub Kept : Outcome Cost X → Type 0
  Kept (ended z g t) = Fin z g t
  Kept (ongoing s) = Inv s

module _ {Cost X : Type 0} (f : X → Outcome Cost X) (Inv : X → Type 0) (Fin : Ending → Cost → RunCounts → Type 0) where
  pub keeps : ((s : X) → Inv s → Kept Inv Fin (f s)) → (gas : ℕ) (s : X) → Inv s → Kept Inv Fin (run f gas s)
  unfolding run and_then Kept
  keeps once zero s i = i
  keeps once (suc gas) s i = on (f s) (once s i) (keeps once gas)
    where
      on : (o : Outcome Cost X) → Kept Inv Fin o → ((s : X) → Inv s → Kept Inv Fin (run f gas s)) → Kept Inv Fin (and_then o (run f gas))
      on (ended z g t) end again = end
      on (ongoing s) held again = again s held

-- The invariant holds on with a smaller measure.
module _ {Cost X : Type 0} (Inv : ℕ → X → Type 0) where
  pub data Falls (k : ℕ) : Outcome Cost X → Type 0 where
    at_end : {z : Ending} {g : Cost} {t : RunCounts} → Falls k (ended z g t)
    onward : {s : X} (j : ℕ) → Inv j s → j < k → Falls k (ongoing s)

module _ {Cost X : Type 0} (f : X → Outcome Cost X) (Inv : ℕ → X → Type 0) (once : (k : ℕ) (s : X) → Inv k s → Falls Inv k (f s)) where
  pub ends : (gas k : ℕ) (s : X) → Inv k s → k < gas → (z : Ending) × EndsIn (run f gas s) z
  unfolding run and_then
  ends zero k s i h = absurd (omega arith)
  ends (suc gas) k s i h = on (f s) (once k s i) (ends gas)
    where
      on : (o : Outcome Cost X) → Falls Inv k o → ((j : ℕ) (s : X) → Inv j s → j < gas → (z : Ending) × EndsIn (run f gas s) z)
          → (z : Ending) × EndsIn (and_then o (run f gas)) z
      on (ended z g t) at_end again = (z, record { cost = g; counts = t; is = refl })
      on (ongoing s) (onward j i l) again = again j s i (omega arith)

-- One move more is one move first.
pub run_next : {Cost X : Type 0} (f : X → Outcome Cost X) (k : ℕ) (s : X) → run f (k + 1) s ≡ and_then (f s) (run f k)
unfolding run
run_next f k s = rw (add-one k)

-- A run has one end, however many moves it is given.
pub same_end : {Cost X : Type 0} (f : X → Outcome Cost X) (gas gas' : ℕ) (s : X) {z z' : Ending} {g g' : Cost} {t t' : RunCounts}
    → run f gas s ≡ ended z g t → run f gas' s ≡ ended z' g' t' → ◌≡◌ {A = Outcome Cost X} (ended z g t) (ended z' g' t')
unfolding run and_then
same_end f zero gas' s e e' = let no : ◌≡◌ {A = ℕ} 0 1 = cc in absurd (omega arith)
same_end f (suc gas) zero s e e' = let no : ◌≡◌ {A = ℕ} 0 1 = cc in absurd (omega arith)
same_end {Cost} {X} f (suc gas) (suc gas') s {z} {z'} {g} {g'} {t} {t'} e e' = on (f s) e e' (λ u. same_end f gas gas' u)
  where
    on : (o : Outcome Cost X) → and_then o (run f gas) ≡ ended z g t → and_then o (run f gas') ≡ ended z' g' t'
        → ((u : X) → run f gas u ≡ ended z g t → run f gas' u ≡ ended z' g' t' → ◌≡◌ {A = Outcome Cost X} (ended z g t) (ended z' g' t'))
        → ◌≡◌ {A = Outcome Cost X} (ended z g t) (ended z' g' t')
    on (ended y h i) e e' again = sym e ∙ e'
    on (ongoing u) e e' again = again u e e'
