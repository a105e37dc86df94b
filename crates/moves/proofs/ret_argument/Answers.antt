-- `moves::ret_argument` meets its contract, by the laws of Returning, Frames.
use native.Mathlib.Omega.{arith}
use Prim.Native.Nat.{◌*◌}
use Rattle.moves.proofs.Frames.{frame_start, frame_inside}
use Rattle.moves.proofs.Returning.{top, few_here, called_inside}
use Rattle.moves.proofs.ret_argument.Goals as goal

pub start-requires : goal.start-requires
start-requires c =
    frame_start c.args.ws.now (32 * c.args.top) c.requires.0.ready.kept.table (top c.requires.0).stands c.seat_of-seat.ensures

pub called-g-requires : goal.called-g-requires
called-g-requires c =
    frame_inside c.args.ws.now (32 * c.args.top) c.requires.0.ready.kept.table (top c.requires.0).stands c.seat_of-seat.ensures c.start.ensures

pub overflow_add-n : goal.overflow_add-n
overflow_add-n c = omega (arith, few_here c.requires.0 _ c.value_of-n.ensures)

pub arity-requires : goal.arity-requires
arity-requires c = called_inside c.requires.0 c.seat_of-seat.ensures c.start.ensures c.called-g.ensures
