-- The paper's graphs and those of the flat machine: work and span are the same, and what a running machine adds to its graph is a sequence.
use Prim.Native.Nat.{ℕ}
use mathlib.Core.Path.{◌≡◌, refl, ap, ◌∙◌}
use native.Mathlib.Omega.{arith}
use Rattle.schedule.specs.Graph.{Graph, empty, transition, fork, work, span, sequence}
use Rattle.schedule.proofs.Graph.{work_sequence, span_sequence}
use Rattle.published.specs.CostGraph.{CostGraph, 𝟎, 𝟏, ◌·◌, ◌∥◌, work_of, span_of, flat}

-- 004, Figure 1: work and span may be read from either graph.
pub work_flat : (τ : ℕ) (g : CostGraph) → work τ (flat g) ≡ work_of τ g
unfolding flat work work_of
work_flat τ 𝟎 = refl
work_flat τ 𝟏 = refl
work_flat τ (a · b) = omega (arith, work_sequence τ (flat a) (flat b), work_flat τ a, work_flat τ b)
work_flat τ (a ∥ b) = omega (arith, work_flat τ a, work_flat τ b)

pub span_flat : (τ : ℕ) (g : CostGraph) → span τ (flat g) ≡ span_of τ g
unfolding flat span span_of
span_flat τ 𝟎 = refl
span_flat τ 𝟏 = refl
span_flat τ (a · b) = omega (arith, span_sequence τ (flat a) (flat b), span_flat τ a, span_flat τ b)
span_flat τ (a ∥ b) = omega (arith, span_flat τ a, span_flat τ b)

-- A machine's graph, with a graph of the paper after it.
infixl 65 ◌▹◌
unfoldable pub ◌▹◌ : Graph → CostGraph → Graph
g ▹ 𝟎 = g
g ▹ 𝟏 = transition g
g ▹ (a · b) = (g ▹ a) ▹ b
g ▹ (a ∥ b) = fork g (empty ▹ a) (empty ▹ b)

sequence_empty : (g : Graph) → sequence empty g ≡ g
unfolding sequence
sequence_empty empty = refl
sequence_empty (transition g) = ap transition (sequence_empty g)
sequence_empty (fork g l r) = rw (sequence_empty g)

sequence_assoc : (f g h : Graph) → sequence (sequence f g) h ≡ sequence f (sequence g h)
unfolding sequence
sequence_assoc f g empty = refl
sequence_assoc f g (transition h) = rw (sequence_assoc f g h)
sequence_assoc f g (fork h l r) = rw (sequence_assoc f g h)

after_is : (h : Graph) (g : CostGraph) → h ▹ g ≡ sequence h (flat g)
unfolding ◌▹◌ flat sequence
after_is h 𝟎 = refl
after_is h 𝟏 = refl
after_is h (a · b) = rw (after_is h a) (after_is (sequence h (flat a)) b ∙ sequence_assoc h (flat a) (flat b))
after_is h (a ∥ b) = rw (after_is empty a ∙ sequence_empty (flat a), after_is empty b ∙ sequence_empty (flat b))

pub flat_is : (g : CostGraph) → empty ▹ g ≡ flat g
flat_is g = after_is empty g ∙ sequence_empty (flat g)
