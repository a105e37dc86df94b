-- Demand 3, from lockstep with the potential of each run, and the count of its work.
use Prim.Native.Nat.{ℕ, ◌+◌, ◌*◌, ◌≤◌}
use mathlib.Core.Path.{◌≡◌, refl}
use native.Mathlib.Nat.{mul-add, add-mul, mul_left_comm, mul-le-mul_left}
use native.Mathlib.Omega.{arith}
use Rattle.schedule.specs.Graph.{Graph, work, span}
use Rattle.schedule.specs.Algebra.{graphs}
use Rattle.schedule.specs.FrameMachine.{FrameMachine}
use Rattle.schedule.specs.Machine.{promotable, value, RunCounts, sequential, parallel, heartbeat, promoted_at_birth, start}
use Rattle.schedule.specs.Runs.{moves, outcome, EndsIn}
use Rattle.schedule.specs.Lockstep.{spared}
use Rattle.schedule.specs.Demand.{DemandOfEveryRun}
use Rattle.schedule.proofs.Moves.{way}
use Rattle.schedule.proofs.Stacks.{Layered}
use Rattle.schedule.proofs.ToCome.{Rest, rest, to_come}
use Rattle.schedule.proofs.Lockstep.{ends_alike}
use Rattle.schedule.proofs.Potential.{Φ}
use Rattle.schedule.proofs.Heartbeat.{LayeredState, Paid, potential, Beating, beating_kept}
use Rattle.schedule.proofs.Parallel.{AllPromoted, AllPromotedState, foretold, Foretold, foretold_kept}
use Rattle.schedule.proofs.WorkCount.{work_counted, sequential_chain}

-- At least N transitions were made for each fork: 004's work bound, without fractions.
work_bounded : (N τ transitions forks : ℕ) → N * forks ≤ transitions
    → N * (transitions + τ * forks) ≤ (N + τ) * (transitions + 2 * forks)
work_bounded N τ transitions forks h =
    omega (
      arith,
      mul-le-mul_left τ h,
      mul-add N transitions (τ * forks),
      mul_left_comm N τ forks,
      mul-add (N + τ) transitions (2 * forks),
      add-mul N τ transitions,
    )

module _ (M : FrameMachine) (fuel frames N τ : ℕ) (c : M.Code) (v : ℕ) (g : Graph) (t : RunCounts)
    (r : Rest graphs M fuel frames (value v) g t (start graphs M c)) where
  -- The span that the sequential run foretells for the parallel one.
  abbrev whole : ℕ
  whole = (to_come graphs M fuel frames (value v) g t τ r).here

  -- The parallel run has exactly that span.
  by_parallel : (e : EndsIn (outcome graphs M fuel frames parallel c) (value v)) × (span τ e.cost ≡ whole)
  unfolding start AllPromotedState AllPromoted foretold Φ span
  by_parallel =
      let kept = foretold_kept M fuel frames τ whole in
      let a = ends_alike graphs M fuel frames (value v) g t τ parallel (Foretold M τ whole) kept c r (record { all = tt; is = omega arith }) in
      let i = (a.1.at_a_value v refl).1.is in
      (a.0, omega arith)

  -- What is known of the heartbeat run.
  record OnTime (g' : Graph) (t' : RunCounts) : Type 0 where
    spares : t'.transitions + 2 * t'.forks ≡ t.transitions
    paid : N * t'.forks ≤ t'.transitions
    bounded : τ * span τ g' ≤ (N + τ) * whole

  by_heartbeat : 1 ≤ N → 1 ≤ τ
      → (e : EndsIn (outcome graphs M fuel frames (heartbeat N) c) (value v)) × OnTime e.cost e.counts
  unfolding start LayeredState Layered Paid potential Φ promotable span spared promoted_at_birth
  by_heartbeat N-positive τ-positive =
      let bound : ℕ = (N + τ) * whole in
      let kept = beating_kept M fuel frames N τ bound N-positive τ-positive in
      let first : Beating M N τ bound (start graphs M c) (to_come graphs M fuel frames (value v) g t τ r)
      = record { layered = tt; paid = omega arith; below = omega arith } in
      let a = ends_alike graphs M fuel frames (value v) g t τ (heartbeat N) (Beating M N τ bound) kept c r first in
      let last = a.1.at_a_value v refl in
      let p = last.1.paid in
      let q = last.1.below in
      (a.0, record { spares = last.2; paid = omega arith; bounded = omega arith })

pub demand_3 : DemandOfEveryRun
unfolding outcome
demand_3 M fuel frames N τ c v g t N-positive τ-positive e =
    let w = way graphs M fuel frames sequential (moves fuel frames) (start graphs M c) (value v) g t e in
    let r = rest graphs M fuel frames (value v) g t (λ p i. let no : ◌≡◌ {A = ℕ} 0 1 = cc in omega arith) w in
    let p = by_parallel M fuel frames N τ c v g t r in
    let h = by_heartbeat M fuel frames N τ c v g t r N-positive τ-positive in
    let counts : RunCounts = h.0.counts in
    let done = work_counted M fuel frames τ (heartbeat N) c v h.0.cost counts h.0.is in
    let chain = sequential_chain M fuel frames τ c (value v) g t e in
    let same : work τ g ≡ counts.transitions + 2 * counts.forks = omega (arith, h.1.spares, chain.work_is) in
    record {
      parallel_run = p.0;
      heartbeat_run = h.0;
      work_bound = rw (done, same) (work_bounded N τ counts.transitions counts.forks h.1.paid);
      span_bound = rw p.1 h.1.bounded;
      identity = omega (arith, done, same);
    }
