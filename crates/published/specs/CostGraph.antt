-- 004, Figure 1: cost graphs, their work and span. The flat machine builds another kind of graph, at its end (crate `schedule`, Graph.antt); `flat`
-- says which of those a graph of the paper is. Work and span are the same read from either (proofs/CostGraph.antt, `work_flat` and `span_flat`).
use Rattle.std.specs.Prelude.{ℕ, ◌+◌, max}
use Rattle.schedule.specs.Graph.{Graph, empty, transition, fork, sequence}

-- No vertex; one vertex; one graph after another; two graphs side by side.
infixr 66 ◌·◌
infixr 67 ◌∥◌
pub data CostGraph : Type 0 where
  𝟎 : CostGraph
  𝟏 : CostGraph
  ◌·◌ : CostGraph → CostGraph → CostGraph
  ◌∥◌ : CostGraph → CostGraph → CostGraph

unfoldable pub work_of : ℕ → CostGraph → ℕ
work_of τ 𝟎 = 0
work_of τ 𝟏 = 1
work_of τ (a · b) = work_of τ a + work_of τ b
work_of τ (a ∥ b) = τ + work_of τ a + work_of τ b

unfoldable pub span_of : ℕ → CostGraph → ℕ
span_of τ 𝟎 = 0
span_of τ 𝟏 = 1
span_of τ (a · b) = span_of τ a + span_of τ b
span_of τ (a ∥ b) = τ + max (span_of τ a) (span_of τ b)

-- The forks of a graph.
unfoldable pub fork_count : CostGraph → ℕ
fork_count 𝟎 = 0
fork_count 𝟏 = 0
fork_count (a · b) = fork_count a + fork_count b
fork_count (a ∥ b) = fork_count a + fork_count b + 1

-- The flat machine's graph for it.
unfoldable pub flat : CostGraph → Graph
flat 𝟎 = empty
flat 𝟏 = transition empty
flat (a · b) = sequence (flat a) (flat b)
flat (a ∥ b) = fork empty (flat a) (flat b)
