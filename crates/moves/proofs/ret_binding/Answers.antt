-- `moves::ret_binding` meets its contract, by the laws of Returning, Ticking.
use Rattle.frames.specs.Frames.{frame_count}
use Rattle.moves.proofs.Returning.{sitting, binding_few, stepped_binding}
use Rattle.moves.proofs.Ticking.{ticks_go}
use Rattle.frames.specs.declared.Seat.{Seat}
use Prim.Native.Nat.{◌*◌}
use native.Mathlib.Omega.{arith}
use mathlib.Core.Path.{◌≡◌, ap}
use Rattle.moves.proofs.ret_binding.Goals as goal

pub child-seat-requires : goal.child-seat-requires
child-seat-requires c =
    sitting c.requires.0

pub append-requires : goal.append-requires
append-requires c =
    let k : c.child-seat.result.count ≡ frame_count c.args.ws.now (32 * c.args.top) = ap (λ (z : Seat). z.count) c.child-seat.ensures.seat in omega (arith, c.child-seat.auto.locals, c.requires.0.ready.kept.sixteen, binding_few c.requires.0)

pub returns : goal.returns
returns c =
    (stepped_binding c.requires.0 c.requires.1 _ _ _ c.child-seat.ensures c.append.ensures _ c.tick.ensures, ticks_go c.args.s c.tick.ensures)
