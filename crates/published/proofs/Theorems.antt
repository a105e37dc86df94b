-- The paper's theorems, of its judgments: a sequential derivation is a run within its own transitions and frames, and demand 3 holds of runs.
use Prim.Native.Nat.{ℕ, ◌+◌, ◌*◌, ◌≤◌}
use mathlib.Core.Path.{◌≡◌, refl, ap, ◌∙◌}
use mathlib.Core.List.{[]}
use native.Mathlib.Omega.{arith}
use Rattle.schedule.specs.Graph.{Graph, work, span}
use Rattle.schedule.specs.FrameMachine.{evaluate, FrameMachine}
use Rattle.schedule.specs.Machine.{RunCounts, sequential, parallel, heartbeat}
use Rattle.schedule.proofs.Demand.{demand_3}
use Rattle.published.specs.CostGraph.{CostGraph, work_of, span_of, fork_count, flat}
use Rattle.published.specs.Judgments.{Sequential, Parallel, Heartbeat}
use Rattle.published.specs.Resources.{seq_transitions, seq_frames}
use Rattle.published.specs.Adequacy.{Judgment, published, Told}
use Rattle.published.specs.Theorems.{Some, Correctness, WorkBound, SpanBound}
use Rattle.published.proofs.CostGraph.{work_flat, span_flat}
use Rattle.published.proofs.Sequentially.{from_parallel, from_heartbeat}
use Rattle.published.proofs.Deterministic.{parallel_deterministic}
use Rattle.published.proofs.Adequacy.{adequate}

module _ {J : Judgment} {fuel frames v : ℕ} {g : Graph} {t : RunCounts} (τ : ℕ) (d : Told J fuel frames v g t) where
  told_work : work τ g ≡ work_of τ d.reaches.graph
  told_work = ap (work τ) d.graph_is ∙ work_flat τ d.reaches.graph

  told_span : span τ g ≡ span_of τ d.reaches.graph
  told_span = ap (span τ) d.graph_is ∙ span_flat τ d.reaches.graph

-- Beside a sequential derivation: the two others, with both bounds.
record Beside (M : FrameMachine) (N τ : ℕ) (c : M.Code) (v : ℕ) (g : CostGraph) : Type 0 where
  parallel_graph : CostGraph
  heartbeat_graph : CostGraph
  parallel : Parallel M (evaluate c) [] v parallel_graph
  heartbeat : Heartbeat M N (evaluate c) [] 0 v heartbeat_graph
  work : N * work_of τ heartbeat_graph ≤ (N + τ) * work_of τ g
  span : τ * span_of τ heartbeat_graph ≤ (N + τ) * span_of τ parallel_graph

beside : (M : FrameMachine) (N τ : ℕ) (c : M.Code) (v : ℕ) (g : CostGraph) → 1 ≤ N → 1 ≤ τ → Sequential M (evaluate c) [] v g
    → Beside M N τ c v g
beside M N τ c v g N-positive τ-positive d =
    let fuel = seq_transitions d in
    let frames = seq_frames d in
    let t : RunCounts = record { transitions = fuel; forks = fork_count g; deepest = frames } in
    let s : Told (published M sequential c) fuel frames v (flat g) t = record {
      reaches = record { graph = g; derivation = d; within_fuel = omega arith; within_frames = omega arith };
      graph_is = refl;
      transitions_are = refl;
      forks_are = refl;
      deepest_is = refl;
    } in
    let a = demand_3 M fuel frames N τ c v (flat g) t N-positive τ-positive ((adequate M fuel frames sequential c v (flat g) t).1 s) in
    let p = (adequate M fuel frames parallel c v a.parallel_run.cost a.parallel_run.counts).0 a.parallel_run.is in
    let h = (adequate M fuel frames (heartbeat N) c v a.heartbeat_run.cost a.heartbeat_run.counts).0 a.heartbeat_run.is in
    record {
      parallel_graph = p.reaches.graph;
      heartbeat_graph = h.reaches.graph;
      parallel = p.reaches.derivation;
      heartbeat = h.reaches.derivation;
      work = rw (told_work τ h, told_work τ s) at a.work_bound;
      span = rw (told_span τ h, told_span τ p) at a.span_bound;
    }

module _ (M : FrameMachine) (N : ℕ) (c : M.Code) (v : ℕ) (N-positive : 1 ≤ N) where
  to_parallel : Some (Sequential M (evaluate c) [] v) → Some (Parallel M (evaluate c) [] v)
  to_parallel s =
      let b = beside M N 1 c v s.graph N-positive (omega arith) s.derivation in
      record { graph = b.parallel_graph; derivation = b.parallel }

  to_heartbeat : Some (Sequential M (evaluate c) [] v) → Some (Heartbeat M N (evaluate c) [] 0 v)
  to_heartbeat s =
      let b = beside M N 1 c v s.graph N-positive (omega arith) s.derivation in
      record { graph = b.heartbeat_graph; derivation = b.heartbeat }

pub correctness : Correctness
correctness M N c v h = (
  (λ s. to_parallel M N c v h s, λ p. from_parallel M p.derivation),
  (λ p. to_heartbeat M N c v h (from_parallel M p.derivation), λ b. to_parallel M N c v h (from_heartbeat M b.derivation)),
)

pub work_bound : WorkBound
work_bound M N τ c v gs N-positive τ-positive d =
    let b = beside M N τ c v gs N-positive τ-positive d in
    record { graph = b.heartbeat_graph; derivation = b.heartbeat; meets = b.work }

-- The parallel graph is the one beside the sequential derivation, since the judgment gives but one.
pub span_bound : SpanBound
span_bound M N τ c v gp N-positive τ-positive d =
    let s = from_parallel M d in
    let b = beside M N τ c v s.graph N-positive τ-positive s.derivation in
    let same = (parallel_deterministic M (evaluate c) [] v v b.parallel_graph gp b.parallel d).1 in
    record { graph = b.heartbeat_graph; derivation = b.heartbeat; meets = rw same at b.span }
