-- `moves::ret_condition` meets its contract, by the laws of Returning, Ticking.
use Rattle.moves.proofs.Returning.{sitting, stepped_condition}
use Rattle.moves.proofs.Ticking.{ticks_go}
use Rattle.moves.proofs.ret_condition.Goals as goal

pub child-seat-requires : goal.child-seat-requires
child-seat-requires c =
    sitting c.requires.0

pub returns : goal.returns
returns c =
    (stepped_condition c.requires.0 c.requires.1 _ _ c.child-seat.ensures _ c.tick.ensures, ticks_go c.args.s c.tick.ensures)
