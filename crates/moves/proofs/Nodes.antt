-- What stands at a node and at its children, and that its words are within the table.
use Prim.Native.Nat.{ℕ, ◌+◌, ◌*◌, ◌<◌, ◌≤◌}
use mathlib.Core.Path.{◌≡◌, sym, ap, ◌∙◌}
use mathlib.Core.List.{List}
use mathlib.Core.Bool.{cond}
use native.Mathlib.Omega.{arith}
use lib.ListN.{length}
use lib.Dec.{ltb}
use Rattle.table.specs.declared.Operation.{Operation}
use Rattle.table.specs.declared.Node.TheVariants.{Local, Arithmetic, Call, Unknown}
use Rattle.table.specs.Words.{functions, arity_at, nodes_at, start_of, body_at, tag_at, a_at, b_at, c_at}
use Rattle.table.specs.Nodes.{node_of, node_at}
use Rattle.table.specs.WellFormed.{WellFormed, Subtree}
use Rattle.table.proofs.Bodies.{node_inside}
use Rattle.table.proofs.Trees.{moves}
use Rattle.table.proofs.Views.{at_local, at_arithmetic, at_choose, at_let, at_call, at_both, first_of, later_of_lem, tag_for, node_tag, known_node}
use Rattle.moves.specs.Ready.{Stands}

module _ (w : List ℕ) (table : WellFormed w) where
  pub inside : {f p k : ℕ} → Stands w f p k → (start_of w f + 4 * p + 4 ≤ length w) × (p < 4000)
  inside {f} {p} s =
      let m = moves w (body_at w f) s.tree in
      let h : p < nodes_at w f = omega arith in
      (node_inside w table.contents f p s.function h, omega (arith, (table.contents.entries f s.function).few))

  module _ {f p k : ℕ} (s : Stands w f p k) where
    -- the same function at another node
    there : {level q after j : ℕ} → j ≤ 16 → Subtree w (body_at w f) level q j after → Stands w f q j
    there {level} {q} {after} h t = record { function = s.function; few = h; level = level; after = after; tree = t }

    -- a function's body, with its arguments
    pub enter : (g : ℕ) → g < functions w → Stands w g 0 (arity_at w g)
    enter g h = record { function = h; few = omega (arith, (table.contents.entries g h).arity); level = 1; after = nodes_at w g; tree = table.trees g h }

    pub local_in : (slot : ℕ) → node_at w (start_of w f) p ≡ Local slot → slot < k
    local_in slot e = at_local w (body_at w f) s.tree slot e

    pub known : node_at w (start_of w f) p ≡ Unknown → ⊥
    known e = known_node w (body_at w f) s.tree e

    pub tag_is : tag_at w (start_of w f) p ≡ tag_for (node_at w (start_of w f) p)
    tag_is = sym (node_tag (tag_at w (start_of w f) p) _ _ _ known)

    pub arithmetic_in : tag_at w (start_of w f) p ≡ 2 → Stands w f (p + 1) k × Stands w f (b_at w (start_of w f) p) k
    arithmetic_in t = let a = at_arithmetic w (body_at w f) s.tree t in (there s.few a.2, there s.few a.3)

    pub operation_in : tag_at w (start_of w f) p ≡ 2 → (o : Operation) × (node_at w (start_of w f) p ≡ Arithmetic o (b_at w (start_of w f) p))
    operation_in t = let a = at_arithmetic w (body_at w f) s.tree t in (a.0, a.1)

    pub choose_in : tag_at w (start_of w f) p ≡ 3 → Stands w f (p + 1) k × Stands w f (b_at w (start_of w f) p) k × Stands w f (c_at w (start_of w f) p) k
    choose_in t = let a = at_choose w (body_at w f) s.tree t in (there s.few a.0, there s.few a.1, there s.few a.2)

    pub let_in : tag_at w (start_of w f) p ≡ 4 → (k + 1 ≤ 16) × Stands w f (p + 1) k × Stands w f (b_at w (start_of w f) p) (k + 1)
    let_in t = let a = at_let w (body_at w f) s.tree t in (a.0, there s.few a.1, there a.0 a.2)

    pub both_in : tag_at w (start_of w f) p ≡ 6 → (k + 2 ≤ 16) × Stands w f (p + 1) k × Stands w f (b_at w (start_of w f) p) k × Stands w f (c_at w (start_of w f) p) (k + 2)
    both_in t = let a = at_both w (body_at w f) s.tree t in (a.0, there s.few a.1, there s.few a.2, there a.0 a.3)

    pub called_in : tag_at w (start_of w f) p ≡ 5 → a_at w (start_of w f) p < functions w
    called_in t = (at_call w (body_at w f) s.tree t).0

    -- the first argument, and those after it: the second at b and the third at c
    pub argument_first : tag_at w (start_of w f) p ≡ 5 → 0 < arity_at w (a_at w (start_of w f) p) → Stands w f (p + 1) k
    argument_first t h = there s.few (first_of w (body_at w f) (at_call w (body_at w f) s.tree t).1 h).tree

    pub argument_later : tag_at w (start_of w f) p ≡ 5 → (i : ℕ) → 1 ≤ i → i < arity_at w (a_at w (start_of w f) p) → Stands w f (cond (ltb 1 i) (c_at w (start_of w f) p) (b_at w (start_of w f) p)) k
    argument_later t i l h = there s.few (later_of_lem w (body_at w f) i (at_call w (body_at w f) s.tree t).1 h (table.contents.entries _ (called_in t)).arity l).tree

    -- a node that is a call, by what it calls
    pub called_is : (g b c : ℕ) → node_at w (start_of w f) p ≡ Call g b c → (tag_at w (start_of w f) p ≡ 5) × (a_at w (start_of w f) p ≡ g)
    unfolding tag_for node_of
    called_is g b c e =
        let t : tag_at w (start_of w f) p ≡ 5 = tag_is ∙ ap tag_for e in
        let x : Call (a_at w (start_of w f) p) (b_at w (start_of w f) p) (c_at w (start_of w f) p) ≡ Call g b c = rw t at e in
        (t, cc)

    pub callee : (g b c : ℕ) → node_at w (start_of w f) p ≡ Call g b c → g < functions w
    callee g b c e = let x = called_is g b c e in rw x.1 at (called_in x.0)
