-- `moves::operated` meets its contract, by the laws of Frames.
use Rattle.std.proofs.Common.{rules}
use mathlib.Core.Path.{ap, sym, ◌∙◌}
use Rattle.moves.specs.Ready.{placed_result}
use Rattle.moves.proofs.Frames.{arithmetic_node, operation_is, placed_failure}
use Rattle.moves.proofs.operated.Goals as goal

pub returns-in_default : goal.returns-in_default
returns-in_default c =
    let a = arithmetic_node c.args.ws.now c.args.b c.requires.table c.requires.stands c.seat_of-seat.ensures c.start.ensures c.requires.tag c.node_at.ensures in
    absurd (c.in_default.not-Arithmetic _ _ a.1)

pub returns : goal.returns
returns c =
    placed_failure _ _ c.operate.result _ (λ e h q. search rules) c.map_err.result c.map_err.ensures.cases
    ∙ sym (operation_is c.args.ws.now c.args.b c.requires.table c.requires.stands c.seat_of-seat.ensures c.start.ensures c.requires.tag c.node_at.ensures c.args.v c.in-Arithmetic.is c.value_of.ensures ∙ ap (placed_result _ _) (sym c.operate.ensures))
