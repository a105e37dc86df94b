-- How a run keeps its cost. The machine is generic in it: what is published is the run over graphs, and what a workspace of numbers can hold is
-- the run over spans. No reader need believe that the two agree: it is a theorem (Homomorphism.antt).
use Rattle.std.specs.Prelude.{◌≡◌, ℕ, ◌+◌, max}
use Rattle.schedule.specs.Graph.{Graph, empty, transition, fork}

-- A cost algebra: no cost yet; one transition more; a join, of the cost before the fork and those of its left and right branch.
pub record CostAlgebra : Type 1 where
  pub Cost : Type 0
  pub empty : Cost
  pub transition : Cost → Cost
  pub fork : Cost → Cost → Cost → Cost

-- The free one, and the published reading: the whole graph.
abbrev pub graphs : CostAlgebra
graphs = record { Cost = Graph; empty = empty; transition = transition; fork = fork }

-- The span alone, as a number.
abbrev pub spans : ℕ → CostAlgebra
spans τ = record { Cost = ℕ; empty = 0; transition = λ s. s + 1; fork = λ g l r. g + (τ + max l r) }

-- A map of costs that goes with all three.
pub record Homomorphism (K L : CostAlgebra) (h : K.Cost → L.Cost) : Type 0 where
  pub on_empty : h K.empty ≡ L.empty
  pub on_transition : (a : K.Cost) → h (K.transition a) ≡ L.transition (h a)
  pub on_fork : (a b c : K.Cost) → h (K.fork a b c) ≡ L.fork (h a) (h b) (h c)
