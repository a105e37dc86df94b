-- `table::body_read` meets its contract, by the laws of Acceptance, Bodies.
use mathlib.Core.Path.{◌∙◌}
use native.Mathlib.Omega.{arith}
use borrow.Author.Tests.{eq-eqb, ne_eqb}
use Rattle.table.specs.Read.{root_of}
use Rattle.table.proofs.Acceptance.{body_answer}
use Rattle.table.proofs.Bodies.{body_inside}
use Rattle.table.proofs.body_read.Goals as goal

pub walk-requires : goal.walk-requires
walk-requires c =
    let w = c.args.words.now in
    let l = c.requires in
    omega (arith, body_inside w l.contents c.args.f l.function, (l.contents.entries c.args.f l.function).arity)

pub returns-in-Ok : goal.returns-in-Ok
unfolding root_of
returns-in-Ok c =
    rw (eq-eqb c.in-Ok.q c.nodes-n.result (omega arith)) at (body_answer _ c.args.f _ _ _ c.requires.place c.nodes-n.ensures c.arity.ensures _ c.in-Ok.ensures)

pub returns-in-Ok-2 : goal.returns-in-Ok-2
unfolding root_of
returns-in-Ok-2 c =
    c.refuse.ensures ∙ (rw (ne_eqb c.in-Ok.q c.nodes-n.result (λ e. omega (arith, e))) at (body_answer _ c.args.f _ _ _ c.requires.place c.nodes-n.ensures c.arity.ensures _ c.in-Ok.ensures))

pub returns-in-Err : goal.returns-in-Err
unfolding root_of
returns-in-Err c =
    rw (c.of.ensures) (body_answer _ c.args.f _ _ _ c.requires.place c.nodes-n.ensures c.arity.ensures _ c.in-Err.ensures)
