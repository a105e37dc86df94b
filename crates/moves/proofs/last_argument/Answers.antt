-- `moves::last_argument` meets its contract, by the laws of Returning, Ticking.
use Rattle.moves.proofs.Returning.{room, few_here, stepped_last_argument}
use Rattle.moves.proofs.Ticking.{ticks_go}
use native.Mathlib.Omega.{arith}
use Rattle.moves.proofs.last_argument.Goals as goal

pub load_arguments-requires : goal.load_arguments-requires
load_arguments-requires c =
    omega (arith, room c.requires.0, few_here c.requires.0 c.args.n c.requires.2, c.requires.0.ready.kept.sixteen)

pub append-requires : goal.append-requires
append-requires c =
    omega (arith, few_here c.requires.0 c.args.n c.requires.2, c.load_arguments.auto.locals, c.requires.0.ready.kept.sixteen)

pub overflow_add-body : goal.overflow_add-body
overflow_add-body c =
    omega (arith, few_here c.requires.0 c.args.n c.requires.2)

pub returns : goal.returns
returns c =
    (stepped_last_argument c.requires.0 c.args.n c.requires.2 c.requires.1 c.args.g c.requires.4 c.requires.3 _ _ c.load_arguments.ensures c.append.ensures _ c.tick.ensures, ticks_go c.args.s c.tick.ensures)
