-- Which steps go on, if they do, by one transition of the same machine.
use Prim.Native.Nat.{ℕ}
use Rattle.std.specs.Prelude.{Result}
use mathlib.Core.Path.{◌≡◌, refl}
use Rattle.moves.specs.declared.Control.{Control}
use Rattle.moves.specs.declared.Registers.{Registers}
use Rattle.moves.specs.declared.Stopped.{Stopped}
use Rattle.moves.specs.declared.Step.{Step}
use Rattle.moves.specs.declared.Step.TheVariants.{Go}
use Rattle.moves.specs.Layout.{ticked, restarted}
use Rattle.moves.specs.Ready.{Ticks, Restarts, Resumed, resumes, stays}

pub ticks_go : (s : Registers) {c : Control} {d : ℕ} {n : Registers} → n ≡ ticked s c d s.oldest → Ticks s (Go n)
unfolding Ticks
ticks_go s e = rw e (refl, refl, refl, refl)

-- a machine starts afresh
pub restarts_go : (s : Registers) {c : Control} {d span forks : ℕ} {n : Registers} → n ≡ restarted s c d s.oldest span forks → Restarts s (Go n)
unfolding Restarts
restarts_go s e = rw e refl

pub ticks_resumed : {s : Registers} {t : ℕ} {o : Result ℕ Stopped} {r : Step} → Resumed s t o r → Ticks s r
unfolding Ticks
ticks_resumed (resumes z i u) = rw u (refl, refl, refl, refl)
ticks_resumed (stays h i u) = rw u tt
