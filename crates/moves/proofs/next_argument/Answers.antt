-- `moves::next_argument` meets its contract, by the laws of Returning, Ticking.
use Rattle.moves.proofs.Returning.{room, few_here, sitting_collected, stepped_next_argument}
use Rattle.moves.proofs.Ticking.{ticks_go}
use native.Mathlib.Omega.{arith}
use Rattle.moves.proofs.next_argument.Goals as goal

pub collect-requires : goal.collect-requires
collect-requires c =
    (room c.requires.0, few_here c.requires.0 c.args.n c.requires.2)

pub overflow_add-n : goal.overflow_add-n
overflow_add-n c =
    omega (arith, few_here c.requires.0 c.args.n c.requires.2)

pub child-seat-requires : goal.child-seat-requires
child-seat-requires c =
    sitting_collected c.requires.0 c.args.n (few_here c.requires.0 c.args.n c.requires.2) _ c.collect.auto.ws c.collect.ensures

pub returns : goal.returns
returns c =
    (stepped_next_argument c.requires.0 c.args.n c.requires.2 c.requires.1 c.requires.3 _ _ _ c.collect.auto.ws c.collect.ensures c.child-seat.ensures _ c.tick.ensures, ticks_go c.args.s c.tick.ensures)
