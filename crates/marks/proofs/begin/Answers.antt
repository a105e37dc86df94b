-- `marks::begin` meets its contract.
use Rattle.marks.specs.Marks.{Framed, places_marked, graph_marked, count_marked}
use Rattle.graph.proofs.Holding.{counted_few}
use native.Mathlib.Omega.{arith}
use Prim.Native.Nat.{ℕ, ◌+◌}
use mathlib.Core.Path.{ap}
use Rattle.marks.proofs.begin.Goals as goal

pub overflow_mul-at : goal.overflow_mul-at
unfolding Framed
overflow_mul-at c = let m = c.requires (omega (arith, c.if-graph-eq0.false)) in omega (arith, m.framed)

pub keep_place-requires : goal.keep_place-requires
unfolding Framed
keep_place-requires c = let m = c.requires (omega (arith, c.if-graph-eq0.false)) in m.framed

pub overflow_add-result : goal.overflow_add-result
overflow_add-result c =
    let m = c.requires (omega (arith, c.if-graph-eq0.false)) in let few = counted_few c.args.words c.args.pending in
    omega (arith, c.fork-place.ensures.0, m.small.words)

pub returns : goal.returns
unfolding places_marked graph_marked count_marked
returns c =
    record { none = λ h. absurd (omega (arith, c.if-graph-eq0.false)); some = λ h. (rw c.fork-place.ensures.0 at c.keep_place.ensures, c.fork-place.ensures.1, ap (λ (x : ℕ). x + 3) c.fork-place.ensures.0) }
