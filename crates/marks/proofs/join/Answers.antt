-- `marks::join` meets its contract.
use Rattle.marks.specs.Marks.{Framed, places_marked, graph_marked, count_marked}
use Rattle.graph.proofs.Holding.{counted_few}
use native.Mathlib.Omega.{arith}
use mathlib.Core.Path.{refl}
use Rattle.marks.proofs.join.Goals as goal

pub overflow_mul-b : goal.overflow_mul-b
unfolding Framed
overflow_mul-b c = let m = c.requires (omega (arith, c.if-graph-eq0.false)) in omega (arith, m.framed.0)

pub place_of-place-requires : goal.place_of-place-requires
unfolding Framed
place_of-place-requires c = let m = c.requires (omega (arith, c.if-graph-eq0.false)) in m.framed.0

pub overflow_add-place : goal.overflow_add-place
unfolding Framed
overflow_add-place c =
    let m = c.requires (omega (arith, c.if-graph-eq0.false)) in let few = counted_few c.args.words c.args.pending in omega (arith, c.place_of-place.ensures, m.small.words, m.framed.1, m.framed.2)

pub right_of-requires : goal.right_of-requires
unfolding Framed
right_of-requires c = let m = c.requires (omega (arith, c.if-graph-eq0.false)) in m.framed.0

pub end_branch-requires : goal.end_branch-requires
unfolding Framed
end_branch-requires c =
    let m = c.requires (omega (arith, c.if-graph-eq0.false)) in let few = counted_few c.args.words c.args.pending in
    omega (arith, c.right_of.ensures, c.place_of-place.ensures, m.small.words, m.small.pending, m.framed.1, m.framed.2)

pub returns : goal.returns
unfolding places_marked graph_marked count_marked
returns c =
    record { none = λ h. absurd (omega (arith, c.if-graph-eq0.false)); some = λ h. (refl, rw (c.right_of.ensures, c.place_of-place.ensures) at c.end_branch.ensures.1, c.end_branch.ensures.0) }
