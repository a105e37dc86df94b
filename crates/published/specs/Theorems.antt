-- 004, Theorems 1, 2 and 3, of the published judgments themselves: no fuel, no frames, and no machine but the paper's. At code with an empty stack;
-- without fractions.
use Rattle.std.specs.Prelude.{ℕ, ◌+◌, ◌*◌, ◌≤◌, [], ◌↔◌}
use Rattle.schedule.specs.FrameMachine.{evaluate, FrameMachine}
use Rattle.published.specs.CostGraph.{CostGraph, work_of, span_of}
use Rattle.published.specs.Judgments.{Sequential, Parallel, Heartbeat}

-- 004: "to hide cost graphs, we write m ⇒ v as short for ∃g. (m ⇒ v; g)".
pub record Some (Derives : CostGraph → Type 0) : Type 0 where
  pub graph : CostGraph
  pub derivation : Derives graph

-- THEOREM 1, correctness (proofs/Theorems.antt, `correctness`).
abbrev pub Correctness : Type 1
Correctness = (M : FrameMachine) (N : ℕ) (c : M.Code) (v : ℕ) → 1 ≤ N
    → (Some (Sequential M (evaluate c) [] v) ↔ Some (Parallel M (evaluate c) [] v))
    × (Some (Parallel M (evaluate c) [] v) ↔ Some (Heartbeat M N (evaluate c) [] 0 v))

-- A heartbeat derivation of v whose graph meets a bound.
pub record HeartbeatMeets (M : FrameMachine) (N : ℕ) (c : M.Code) (v : ℕ) (Meets : CostGraph → Type 0) : Type 0 where
  pub graph : CostGraph
  pub derivation : Heartbeat M N (evaluate c) [] 0 v graph
  pub meets : Meets graph

-- THEOREM 2, the work bound (`work_bound`): work(g_h) ≤ (1 + τ/N) · work(g_s).
abbrev pub WorkBound : Type 1
WorkBound = (M : FrameMachine) (N τ : ℕ) (c : M.Code) (v : ℕ) (gs : CostGraph) → 1 ≤ N → 1 ≤ τ → Sequential M (evaluate c) [] v gs
    → HeartbeatMeets M N c v (λ gh. N * work_of τ gh ≤ (N + τ) * work_of τ gs)

-- THEOREM 3, the span bound (`span_bound`): span(g_h) ≤ (1 + N/τ) · span(g_p).
abbrev pub SpanBound : Type 1
SpanBound = (M : FrameMachine) (N τ : ℕ) (c : M.Code) (v : ℕ) (gp : CostGraph) → 1 ≤ N → 1 ≤ τ → Parallel M (evaluate c) [] v gp
    → HeartbeatMeets M N c v (λ gh. τ * span_of τ gh ≤ (N + τ) * span_of τ gp)
