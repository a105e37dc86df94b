-- Cost graphs, with their work and span (01, "Cost graph"; 004, Figure 1). Work and span are 01's sentences clause by clause, and that sequence
-- adds is proved.
use Rattle.std.specs.Prelude.{ℕ, ◌+◌, max}

-- A graph is built at its end, because a running machine adds to what it has: `transition g` is 004's g · 1, and `fork g l r` is
-- g · (l ∥ r). Each graph is written in one way only. Runs keep no τ: it prices their graph afterwards.
pub data Graph : Type 0 where
  empty : Graph
  transition : Graph → Graph
  fork : Graph → Graph → Graph → Graph

-- 01: "a transition costs 1 of work and span. A fork of graphs g and h costs τ + work(g) + work(h)"
unfoldable pub work : ℕ → Graph → ℕ
work τ empty = 0
work τ (transition g) = work τ g + 1
work τ (fork g l r) = work τ g + (τ + work τ l + work τ r)

-- 01: "and τ + the larger of the two spans"
unfoldable pub span : ℕ → Graph → ℕ
span τ empty = 0
span τ (transition g) = span τ g + 1
span τ (fork g l r) = span τ g + (τ + max (span τ l) (span τ r))

-- One graph after another. 01: "Sequence adds" (proofs/Graph.antt, `work_sequence` and `span_sequence`).
unfoldable pub sequence : Graph → Graph → Graph
sequence g empty = g
sequence g (transition h) = transition (sequence g h)
sequence g (fork h l r) = fork (sequence g h) l r
