-- `moves::ret_plain_left` meets its contract, by the laws of Returning.
use Rattle.moves.proofs.Returning.{sitting_turned, stepped_plain_left}
use Rattle.moves.proofs.ret_plain_left.Goals as goal

pub child-seat-requires : goal.child-seat-requires
child-seat-requires c =
    sitting_turned c.requires.0 6 0 _ c.turn.auto.ws (rw (c.into.ensures, c.none.ensures) at c.turn.ensures)

pub returns : goal.returns
returns c =
    stepped_plain_left c.requires.0 c.requires.1 _ _ _ c.turn.auto.ws (rw (c.into.ensures, c.none.ensures) at c.turn.ensures) c.child-seat.ensures _ c.oldest_without-oldest.ensures _ c.tick.ensures
