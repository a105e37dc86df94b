-- `schedule::Work::of` meets its contract: τ times the forks is at most the product of their bounds, so it and the sum fit. Assumes nothing.
use native.Mathlib.Nat.{mul-le-mul}
use Rattle.std.proofs.Common.{arith}
use Rattle.schedule.proofs.Work.of.Goals as goal

pub overflow_mul-result : goal.overflow_mul-result
overflow_mul-result c = omega (arith, mul-le-mul c.requires.1 c.requires.2)

pub overflow_add-result : goal.overflow_add-result
overflow_add-result c = omega (arith, mul-le-mul c.requires.1 c.requires.2)
