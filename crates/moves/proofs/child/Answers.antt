-- `moves::child` meets its contract, by the laws of Frames.
use Rattle.moves.proofs.Frames.{frame_inside}
use Rattle.moves.proofs.child.Goals as goal

pub third-node-requires : goal.third-node-requires
third-node-requires c = frame_inside c.args.ws.now c.args.b c.requires.table c.requires.stands c.seat_of-seat.ensures c.start-start.ensures

pub second-node-requires : goal.second-node-requires
second-node-requires c = frame_inside c.args.ws.now c.args.b c.requires.table c.requires.stands c.seat_of-seat.ensures c.start-start.ensures
