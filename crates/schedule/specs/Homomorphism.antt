-- A homomorphism of cost algebras carries runs over: the run that keeps the other cost is the run that keeps the first, mapped. So code that
-- keeps spans in words is proved against the numbers, and its contract speaks of the graph.
use Rattle.std.specs.Prelude.{ℕ, ◌≡◌, List, [], ◌∷◌}
use Rattle.schedule.specs.Graph.{Graph, empty, transition, fork, span}
use Rattle.schedule.specs.Algebra.{CostAlgebra, graphs, spans, Homomorphism}
use Rattle.schedule.specs.FrameMachine.{FrameMachine}
use Rattle.schedule.specs.Machine.{Slot, ordinary, plain_left, plain_right, promoted_left, promoted_right, State, state, Outcome, ended, ongoing, Schedule}
use Rattle.schedule.specs.Runs.{outcome}

-- A map of costs, on each part of a machine.
abbrev pub map_slot : {Cost Cost' Frame Fork : Type 0} → (Cost → Cost') → Slot Cost Frame Fork → Slot Cost' Frame Fork
map_slot h (ordinary f) = ordinary f
map_slot h (plain_left b) = plain_left b
map_slot h (plain_right b v) = plain_right b v
map_slot h (promoted_left g b) = promoted_left (h g) b
map_slot h (promoted_right g l b v) = promoted_right (h g) (h l) b v

unfoldable pub map_stack : {Cost Cost' Frame Fork : Type 0} → (Cost → Cost') → List (Slot Cost Frame Fork) → List (Slot Cost' Frame Fork)
map_stack h [] = []
map_stack h (s ∷ S) = map_slot h s ∷ map_stack h S

unfoldable pub map_state : (K L : CostAlgebra) (M : FrameMachine) → (K.Cost → L.Cost) → State K M → State L M
map_state K L M h (state c S n g t) = state c (map_stack h S) n (h g) t

unfoldable pub map_outcome : {Cost Cost' X Y : Type 0} → (Cost → Cost') → (X → Y) → Outcome Cost X → Outcome Cost' Y
map_outcome h k (ended z g t) = ended z (h g) t
map_outcome h k (ongoing s) = ongoing (k s)

-- Graphs are free: there is one homomorphism from them to each algebra.
unfoldable pub fold : (K : CostAlgebra) → Graph → K.Cost
fold K empty = K.empty
fold K (transition g) = K.transition (fold K g)
fold K (fork g l r) = K.fork (fold K g) (fold K l) (fold K r)

-- THEOREM (proofs/Homomorphism.antt, `runs_carried`). The endings and counts are the same, and the costs are mapped.
abbrev pub RunsCarried : Type 1
RunsCarried = (K L : CostAlgebra) (h : K.Cost → L.Cost) → Homomorphism K L h
    → (M : FrameMachine) (fuel frames : ℕ) (m : Schedule) (c : M.Code)
    → outcome L M fuel frames m c ≡ map_outcome h (map_state K L M h) (outcome K M fuel frames m c)

-- THEOREM (proofs/Homomorphism.antt, `span_carried`). The span is a homomorphism.
abbrev pub SpanCarried : Type 0
SpanCarried = (τ : ℕ) → Homomorphism graphs (spans τ) (span τ)
