-- `moves::ret_right_operand` meets its contract, by the laws of Returning, Ticking.
use Rattle.moves.proofs.Returning.{operand, stepped_resumed}
use Rattle.moves.proofs.Ticking.{ticks_resumed}
use Rattle.moves.proofs.ret_right_operand.Goals as goal

pub operated-computed-requires : goal.operated-computed-requires
operated-computed-requires c =
    operand c.requires.0

pub returns : goal.returns
returns c =
    (stepped_resumed c.requires.0 c.requires.1 _ c.operated-computed.ensures _ c.resumed.ensures, ticks_resumed c.resumed.ensures)
