-- The walk ends at a position iff a subtree does.
use Prim.Native.Nat.{ℕ, zero, suc, ◌+◌, ◌<◌, ◌≤◌}
use mathlib.Core.Path.{◌≡◌, refl, sym, ap}
use mathlib.Core.List.{List}
use mathlib.Core.Bool.{Bool, true, false, cond}
use native.Mathlib.Omega.{arith}
use lib.Dec.{leb, eqb}
use borrow.Author.Tests.{lt-leb, leb-false, eq-eqb, eqb-true}
use Rattle.std.specs.Prelude.{Option, Some, None, Ok, Err}
use Rattle.table.specs.declared.Body.{Body}
use Rattle.table.specs.Words.{b_at, c_at}
use Rattle.table.specs.Walk.{Walked, fault_at, shape_at, number_of, next, after_first, children, own, walk_of}
use Rattle.table.specs.WellFormed.{Subtree, root, Children, none, one, two, three}

-- what ends at a position has met no fault
own_end : (n : Option ℕ) (p : ℕ) (rest : Walked) (q : ℕ) → own n p rest ≡ Ok q → (n ≡ None) × (rest ≡ Ok q)
unfolding own
own_end None p rest q e = (refl, e)
own_end (Some n) p rest q e = absurd cc

next_end : (b p : ℕ) (r rest : Walked) (q : ℕ) → next b p r rest ≡ Ok q → (r ≡ Ok b) × (rest ≡ Ok q)
unfolding next
next_end b p (Err fault) rest q e = absurd cc
next_end b p (Ok m) rest q e = at (eqb b m) refl e
  where
    at : (t : Bool) → eqb b m ≡ t → cond t rest (fault_at 17 p) ≡ Ok q → (◌≡◌ {A = Walked} (Ok m) (Ok b)) × (rest ≡ Ok q)
    at true l e = (ap Ok (sym (eqb-true _ _ l)), e)
    at false l e = absurd cc

module _ (w : List ℕ) (body : Body) where
  -- a subtree moves on in the body
  mutual
    pub moves : {level p k q : ℕ} → Subtree w body level p k q → (p < q) × (q ≤ body.nodes)
    moves (root h z c) = moves_on c h

    moves_on : {level p k last q b c n : ℕ} → Children w body level p k last q b c n → p < body.nodes → (p < q) × (q ≤ body.nodes)
    moves_on (none e) h = omega arith
    moves_on (one s) h = omega (arith, moves s)
    moves_on (two s t) h = omega (arith, moves s, moves t)
    moves_on (three s t u) h = omega (arith, moves s, moves t, moves u)

  -- the walk of a subtree ends where the subtree does, at every bound that is large enough
  mutual
    unfolding walk_of own children after_first next

    pub walk_of_lem : {level p k q : ℕ} → Subtree w body level p k q → (bound : ℕ) → body.nodes ≤ p + bound → walk_of bound w body level p k ≡ Ok q
    walk_of_lem (root h z c) zero g = absurd (omega arith)
    walk_of_lem (root h z c) (suc bound) g = rw (lt-leb _ _ h, z) (walk_on c bound (omega arith))

    walk_on : {level p k last q b c n : ℕ} → Children w body level p k last q b c n → (bound : ℕ) → body.nodes ≤ p + 1 + bound → children (walk_of bound w body level) b c p k last n ≡ Ok q
    walk_on (none e) bound g = ap Ok (sym e)
    walk_on (one s) bound g = walk_of_lem s bound g
    walk_on (two {b = b} s t) bound g = rw (walk_of_lem s bound g, eq-eqb b b refl) (walk_of_lem t bound (omega (arith, moves s)))
    walk_on (three {b = b} {c = c} s t u) bound g = rw (walk_of_lem s bound g, eq-eqb b b refl, walk_of_lem t bound (omega (arith, moves s)), eq-eqb c c refl) (walk_of_lem u bound (omega (arith, moves s, moves t)))

  children_of : (bound : ℕ) → ((level p k q : ℕ) → walk_of bound w body level p k ≡ Ok q → Subtree w body level p k q)
      → (level p k last b c q n : ℕ) → children (walk_of bound w body level) b c p k last n ≡ Ok q → Children w body level p k last q b c n
  unfolding children after_first
  children_of bound ih level p k last b c q zero e = let x : q ≡ p + 1 = cc in none x
  children_of bound ih level p k last b c q (suc zero) e = one (ih _ _ _ _ e)
  children_of bound ih level p k last b c q (suc (suc zero)) e = let x = next_end b p _ _ q e in two (ih _ _ _ _ x.0) (ih _ _ _ _ x.1)
  children_of bound ih level p k last b c q (suc (suc (suc n))) e =
      let x = next_end b p _ _ q e in
      let y = next_end c p _ _ q x.1 in
      three (ih _ _ _ _ x.0) (ih _ _ _ _ y.0) (ih _ _ _ _ y.1)

  -- a walk that ends at q has met a subtree
  pub tree_of : (bound level p k q : ℕ) → walk_of bound w body level p k ≡ Ok q → Subtree w body level p k q
  unfolding walk_of
  tree_of zero level p k q e = absurd cc
  tree_of (suc bound) level p k q e = at (tree_of bound) _ (leb body.nodes p) refl e
    where
      at : ((level p k q : ℕ) → walk_of bound w body level p k ≡ Ok q → Subtree w body level p k q)
          → (n : ℕ) (t : Bool) → leb body.nodes p ≡ t
          → cond t (fault_at n p) (own (number_of (shape_at w body.start p k) level) p (children (walk_of bound w body (level + 1)) (b_at w body.start p) (c_at w body.start p) p k (shape_at w body.start p k).last (shape_at w body.start p k).children)) ≡ Ok q
          → Subtree w body level p k q
      at ih n true l e = absurd cc
      at ih n false l e = let o = own_end _ p _ q e in root (leb-false _ _ l) o.0 (children_of bound ih (level + 1) p k _ _ _ q _ o.1)
