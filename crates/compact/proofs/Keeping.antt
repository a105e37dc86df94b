-- The registers by one counter stand for those of the moves, and one step of the same machine keeps them.
use Prim.Native.Nat.{ℕ, ◌+◌, ◌-◌, ◌≤◌, ◌<◌}
use mathlib.Core.Path.{◌≡◌, refl, ap, ◌∙◌}
use mathlib.Core.Bool.{false, ◌&&◌}
use mathlib.Core.List.{List}
use native.Mathlib.Omega.{arith}
use lib.Dec.{ltb, leb}
use Rattle.std.proofs.lemmas.Bool.Decides.{nat_tests}
use borrow.Author.Tests.{lt-ltb}
use Rattle.moves.specs.declared.Control.{Control}
use Rattle.moves.specs.declared.Registers.{Registers}
use Rattle.frames.specs.declared.Seat.{Seat}
use Rattle.moves.specs.declared.Plan.{Plan}
use Rattle.moves.specs.declared.Step.{Step}
use Rattle.moves.specs.declared.Step.TheVariants.{Go, Value, Halt}
use Rattle.moves.specs.Ready.{Paid, Ticks, transited, Opened, dry, opens}
use Rattle.compact.specs.declared.Compact.{Compact}
use Rattle.compact.specs.declared.Event.{Event}
use Rattle.compact.specs.declared.Progress.{Progress}
use Rattle.compact.specs.declared.Progress.TheVariants as progress
use Rattle.compact.specs.Compact.{full, step_of, limit_of, Paced, PacedBy, compact_of, GoesWith, Answers, answer_of, kept_of, kept_by, freed_by, Transits, later_of}

-- THE LIMIT: not above the fuel, and where there is a fork, not above the start and a period
limit_fuel : (plan : Plan) (since oldest : ℕ) → since ≤ plan.fuel.0 → limit_of plan since oldest ≤ plan.fuel.0
unfolding limit_of
limit_fuel plan since oldest h = grind (arith, nat_tests)

limit_period : (plan : Plan) (since oldest : ℕ) → since ≤ plan.fuel.0 → oldest < 4096 → limit_of plan since oldest ≤ since + plan.period
unfolding limit_of
limit_period plan since oldest h o = grind (arith, nat_tests)

limit_exact : (plan : Plan) (since oldest : ℕ) → limit_of plan since oldest < plan.fuel.0 → (oldest < 4096) × (since + plan.period ≤ limit_of plan since oldest)
unfolding limit_of
limit_exact plan since oldest h = grind (arith, nat_tests)

-- the same machine's, by its limit so far
pub limit_again : (plan : Plan) (g : Compact) → Paced plan g → (oldest : ℕ) → oldest < 4096 → g.limit - (g.limit - g.since - plan.period) ≡ limit_of plan g.since oldest
unfolding limit_of
limit_again plan g p oldest h = grind (arith, nat_tests, p.fuel, p.calm, p.exact)

pub limit_none : (plan : Plan) (since oldest : ℕ) → 4096 ≤ oldest → plan.fuel.0 ≡ limit_of plan since oldest
unfolding limit_of
limit_none plan since oldest h = grind (arith, nat_tests)

-- A STEP'S ANSWER, by what is told of the registers that it goes on with
pub goes_with : {P : Registers → Type 0} {o : Step} → ((s : Registers) → o ≡ Go s → P s) → GoesWith P o
unfolding GoesWith
goes_with {o = Go s} p = p s refl
goes_with {o = Value v} p = tt
goes_with {o = Halt h} p = tt

pub answered : {R : Registers → Compact → Type 0} {o : Step} {r : Progress} {f : Registers → Compact} → Answers R o r
    → ((s : Registers) (g : Compact) → o ≡ Go s → R s g → g ≡ f s) → r ≡ answer_of f o
unfolding Answers answer_of
answered {o = Go s} a is = a.1 ∙ ap progress.Go (is s a.0 refl a.2)
answered {o = Value v} a is = a
answered {o = Halt h} a is = a

-- REGISTERS MADE COMPACT stand for themselves
module _ (plan : Plan) (s : Registers) (a : s.credits.0 ≤ s.transitions) (b : s.transitions ≤ plan.fuel.0) (c : s.credits.0 ≤ s.span.0) where
  pub compact_full : full (compact_of plan s) ≡ s
  compact_full =
      let x : s.transitions - (s.transitions - s.credits.0) ≡ s.credits.0 = omega arith in
      let y : s.span.0 - s.credits.0 + s.credits.0 ≡ s.span.0 = omega arith in
      rw (x, y)

  pub compact_paced : Paced plan (compact_of plan s)
  compact_paced = record {
    since = omega arith;
    fuel = limit_fuel plan (s.transitions - s.credits.0) s.oldest (omega arith);
    calm = limit_period plan (s.transitions - s.credits.0) s.oldest (omega arith);
    exact = limit_exact plan (s.transitions - s.credits.0) s.oldest;
  }

-- those of the same machine, a transition later
module _ (plan : Plan) (g : Compact) (p : Paced plan g) (s : Registers) (a : s.credits.0 ≡ (full g).credits.0 + 1) (b : s.span.0 ≡ (full g).span.0 + 1)
    (t : s.transitions ≡ g.transitions + 1) (o : s.oldest ≡ g.oldest) where
  pub kept_full : full (kept_of g s) ≡ s
  kept_full =
      let x : s.transitions - g.since ≡ s.credits.0 = omega (arith, p.since) in
      let y : g.before.0 + s.credits.0 ≡ s.span.0 = omega (arith, p.since) in
      rw (x, y)

  pub kept_paced : Paced plan (kept_of g s)
  kept_paced = record {
    since = omega (arith, p.since);
    fuel = p.fuel;
    calm = λ h. p.calm (omega arith);
    exact = λ h. let x = p.exact h in (omega (arith, x.0), x.1);
  }

-- A FRAME IS OPENED, or none, by one step: what the moves tell of it, by the same machine
module _ {plan : Plan} {g : Compact} (p : Paced plan g) {s : Registers} (e : s ≡ full g) {o : Step} {r : Progress} (u : r ≡ kept_by g o) where
  pub kept_opened : {ws ws' ls : List ℕ} {seat : Seat} {kind : ℕ} → Opened ws ws' ls plan s seat kind g.oldest o
      → Opened ws ws' ls plan (full g) seat kind g.oldest (step_of r) × PacedBy plan r × Transits g r
  unfolding answer_of step_of PacedBy Transits
  kept_opened {ws} {ws'} {ls} {seat} {kind} t = rw u (on (rw e at t))
    where
      on : Opened ws ws' ls plan (full g) seat kind g.oldest o → Opened ws ws' ls plan (full g) seat kind g.oldest (step_of (kept_by g o)) × PacedBy plan (kept_by g o) × Transits g (kept_by g o)
      on (dry h c d) = rw d (dry h c refl, tt, tt)
      on (Opened.full h i c d) = rw d (Opened.full h i c refl, tt, tt)
      on (opens h i c d) = rw d (opens h i c (ap Go (kept_full plan g p _ refl refl refl refl)), kept_paced plan g p _ refl refl refl refl, omega arith)

  -- A VALUE RETURNS by one
  pub kept_ticks : Ticks s o → (step_of r ≡ o) × PacedBy plan r × Transits g r
  kept_ticks t = rw u (on o (rw e at t))
    where
      on : (o : Step) → Ticks (full g) o → (step_of (kept_by g o) ≡ o) × PacedBy plan (kept_by g o) × Transits g (kept_by g o)
      on (Go next) t = unfold Ticks answer_of step_of PacedBy Transits in
          (ap Go (kept_full plan g p next t.0 t.1 t.2 t.3), kept_paced plan g p next t.0 t.1 t.2 t.3, omega (arith, t.2))
      on (Value v) t = unfold answer_of step_of PacedBy Transits in (refl, tt, tt)
      on (Halt h) t = unfold answer_of step_of PacedBy Transits in (refl, tt, tt)

-- ONE TRANSITION that opens no frame, where there is fuel
pub later_transits : (plan : Plan) (g : Compact) → Paced plan g → Paid plan (full g) → (seat : Seat) (to : Control) (r : Progress) → r ≡ progress.Go (later_of g to g.depth 1)
    → (step_of r ≡ transited plan (full g) seat to) × PacedBy plan r × Transits g r
unfolding step_of PacedBy Transits
later_transits plan g p h seat to r u =
    let x : g.transitions + 1 - g.since ≡ g.transitions - g.since + 1 = omega (arith, p.since) in
    let y : g.before.0 + (g.transitions - g.since + 1) ≡ g.before.0 + (g.transitions - g.since) + 1 = omega arith in
    rw (u, lt-ltb g.transitions plan.fuel.0 h) (
      rw (x, y),
      record { since = omega (arith, p.since); fuel = p.fuel; calm = p.calm; exact = p.exact },
      omega arith,
    )

-- A FREE STEP is the same step
pub freed_step : (event : Event) (r : Progress) → step_of (freed_by event r) ≡ step_of r
unfolding freed_by step_of
freed_step event (progress.Go g) = refl
freed_step event (progress.Free g before) = refl
freed_step event (progress.Paused p) = refl
freed_step event (progress.Value v) = refl
freed_step event (progress.Halt h) = refl

pub freed_paced : (plan : Plan) (event : Event) (r : Progress) → PacedBy plan r → PacedBy plan (freed_by event r)
unfolding freed_by PacedBy
freed_paced plan event (progress.Go g) p = p
freed_paced plan event (progress.Free g before) p = p
freed_paced plan event (progress.Paused q) p = p
freed_paced plan event (progress.Value v) p = p
freed_paced plan event (progress.Halt h) p = p

-- THE FUEL IS SPENT at the limit, where no promotion is due
pub at_fuel : (plan : Plan) (g : Compact) → Paced plan g → (g.depth ≤ g.oldest → g.oldest ≡ 4096) → g.limit ≤ g.transitions
    → (leb plan.period (full g).credits.0 && ltb g.oldest g.depth) ≡ false → plan.fuel.0 ≤ g.transitions
at_fuel plan g p none h e = grind (arith, nat_tests, p.exact)

-- NO PROMOTION IS DUE below the limit
pub never_due : (plan : Plan) (g : Compact) → Paced plan g → g.depth ≤ 4096 → g.transitions < g.limit
    → (leb plan.period (full g).credits.0 && ltb g.oldest g.depth) ≡ false
never_due plan g p d h = grind (arith, nat_tests, p.calm, p.since)
