-- 01: "Sequence adds."
use Prim.Native.Nat.{ℕ, ◌+◌}
use mathlib.Core.Path.{◌≡◌}
use native.Mathlib.Omega.{arith}
use Rattle.schedule.specs.Graph.{Graph, empty, transition, fork, work, span, sequence}

pub work_sequence : (τ : ℕ) (g h : Graph) → work τ (sequence g h) ≡ work τ g + work τ h
unfolding work sequence
work_sequence τ g empty = omega arith
work_sequence τ g (transition h) = omega (arith, work_sequence τ g h)
work_sequence τ g (fork h l r) = omega (arith, work_sequence τ g h)

pub span_sequence : (τ : ℕ) (g h : Graph) → span τ (sequence g h) ≡ span τ g + span τ h
unfolding span sequence
span_sequence τ g empty = omega arith
span_sequence τ g (transition h) = omega (arith, span_sequence τ g h)
span_sequence τ g (fork h l r) = omega (arith, span_sequence τ g h)
