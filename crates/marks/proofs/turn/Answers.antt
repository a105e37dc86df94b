-- `marks::turn` meets its contract.
use Rattle.marks.specs.Marks.{Framed, places_marked, graph_marked, count_marked}
use Rattle.graph.proofs.Holding.{counted_few}
use native.Mathlib.Omega.{arith}
use Rattle.marks.proofs.turn.Goals as goal

pub overflow_mul-b : goal.overflow_mul-b
unfolding Framed
overflow_mul-b c = let m = c.requires (omega (arith, c.if-graph-eq0.false)) in omega (arith, m.framed.0)

pub place_of-place-requires : goal.place_of-place-requires
unfolding Framed
place_of-place-requires c = let m = c.requires (omega (arith, c.if-graph-eq0.false)) in m.framed.0

pub overflow_add-place : goal.overflow_add-place
unfolding Framed
overflow_add-place c =
    let m = c.requires (omega (arith, c.if-graph-eq0.false)) in let few = counted_few c.args.words c.args.pending in omega (arith, c.place_of-place.ensures, m.small.words, m.framed.1)

pub overflow_add-place-2 : goal.overflow_add-place-2
unfolding Framed
overflow_add-place-2 c =
    let m = c.requires (omega (arith, c.if-graph-eq0.false)) in let few = counted_few c.args.words c.args.pending in omega (arith, c.place_of-place.ensures, m.small.words, m.framed.1)

pub end_branch-end-requires : goal.end_branch-end-requires
unfolding Framed
end_branch-end-requires c =
    let m = c.requires (omega (arith, c.if-graph-eq0.false)) in let few = counted_few c.args.words c.args.pending in
    omega (arith, c.place_of-place.ensures, m.small.words, m.small.pending, m.framed.1)

pub keep_right-requires : goal.keep_right-requires
unfolding Framed
keep_right-requires c = let m = c.requires (omega (arith, c.if-graph-eq0.false)) in m.framed.0

pub returns : goal.returns
unfolding places_marked graph_marked count_marked
returns c =
    record { none = λ h. absurd (omega (arith, c.if-graph-eq0.false)); some = λ h. (rw c.end_branch-end.ensures.0 at c.keep_right.ensures, rw c.place_of-place.ensures at c.end_branch-end.ensures.1, c.end_branch-end.ensures.0) }
