-- `moves::turned` meets its contract, by the laws of Returning.
use Rattle.moves.proofs.Returning.{sitting_turned, stepped_turn}
use Rattle.moves.proofs.Ticking.{restarts_go}
use Rattle.moves.proofs.turned.Goals as goal

pub child-seat-requires : goal.child-seat-requires
child-seat-requires c =
    sitting_turned c.requires 8 _ _ c.turn.auto.ws (rw c.into.ensures at c.turn.ensures)

pub returns : goal.returns
returns c =
    (stepped_turn c.requires _ _ _ c.turn.auto.ws (rw c.into.ensures at c.turn.ensures) c.child-seat.ensures _ (rw c.none.ensures at c.restart.ensures), restarts_go c.args.s c.restart.ensures)
