-- `moves::ret_left_operand` meets its contract, by the laws of Returning, Ticking.
use Rattle.moves.proofs.Returning.{sitting_turned, stepped_left_operand}
use Rattle.moves.proofs.Ticking.{ticks_go}
use Rattle.moves.proofs.ret_left_operand.Goals as goal

pub child-seat-requires : goal.child-seat-requires
child-seat-requires c =
    sitting_turned c.requires.0 1 0 _ c.turn.auto.ws (rw (c.into.ensures, c.none.ensures) at c.turn.ensures)

pub returns : goal.returns
returns c =
    (stepped_left_operand c.requires.0 c.requires.1 _ _ _ c.turn.auto.ws (rw (c.into.ensures, c.none.ensures) at c.turn.ensures) c.child-seat.ensures _ c.tick.ensures, ticks_go c.args.s c.tick.ensures)
