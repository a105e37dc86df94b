-- `moves::ret_plain_right` meets its contract, by the laws of Returning, Ticking.
use Rattle.moves.proofs.Returning.{sitting, plain_few, stepped_plain_right}
use Rattle.moves.proofs.Ticking.{ticks_go}
use Rattle.moves.proofs.ret_plain_right.Goals as goal

pub body-control-requires : goal.body-control-requires
body-control-requires c =
    (sitting c.requires.0, plain_few c.requires.0)

pub returns : goal.returns
returns c =
    (stepped_plain_right c.requires.0 c.requires.1 _ _ c.body-control.ensures _ c.tick.ensures, ticks_go c.args.s c.tick.ensures)
