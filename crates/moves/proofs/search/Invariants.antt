-- `moves::search`: no plain fork was found so far.
use Rattle.frames.specs.Frames.{frame_kind}
use mathlib.Core.Path.{◌≡◌}
use Prim.Native.Nat.{ℕ, ◌*◌, ◌<◌, ◌≤◌}
use Rattle.moves.proofs.search.Given as goal

abbrev pub invariant-loop-i : goal.invariant-loop-i
invariant-loop-i l = (j : ℕ) → l.from ≤ j → j < l.i → frame_kind l.ws (32 * j) ≡ 5 → ⊥
