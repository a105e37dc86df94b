-- What a machine learns of an accepted subtree, by its node.
use Prim.Native.Nat.{ℕ, zero, suc, ◌+◌, ◌<◌, ◌≤◌}
use mathlib.Core.Path.{◌≡◌, refl, sym}
use mathlib.Core.List.{List}
use mathlib.Core.Bool.{Bool, true, false, cond, true≢false}
use lib.Dec.{ltb}
use native.Mathlib.Omega.{arith}
use borrow.Author.Tests.{ltb-true, leb-true, lt-ltb, le-ltb}
use Rattle.std.specs.Prelude.{Option, Some, None}
use Rattle.std.specs.Option.{option_map_or}
use Rattle.table.specs.declared.Operation.{Operation}
use Rattle.table.specs.declared.Node.{Node}
use Rattle.table.specs.declared.Node.TheVariants.{Constant, Local, Arithmetic, Choose, Let, Call, Both, Unknown}
use Rattle.table.specs.declared.Body.{Body}
use Rattle.table.specs.Words.{functions, arity_at, tag_at, a_at, b_at, c_at}
use Rattle.table.specs.Nodes.{operation_of, arithmetic_of, node_of, node_at}
use Rattle.table.specs.Walk.{known, unknown, unused_of, shape_of, call_shape}
use Rattle.table.specs.WellFormed.{Subtree, root, Children, none, one, two, three, Assured, constant, local, arithmetic, choose, binding, call, both}
use Rattle.table.proofs.Shapes.{Sound, sound}

-- a node and the words that it was read from
data Read (a b c : ℕ) : Node → Type 0 where
  constant_read : {v : ℕ} → Read a b c (Constant v)
  local_read : Read a b c (Local a)
  arithmetic_read : {o : Operation} → Read a b c (Arithmetic o b)
  choose_read : Read a b c (Choose b c)
  let_read : Read a b c (Let b)
  call_read : Read a b c (Call a b c)
  both_read : Read a b c (Both b c)
  unknown_read : Read a b c Unknown

read_operation : (a b c number : ℕ) → Read a b c (arithmetic_of number b)
unfolding arithmetic_of
read_operation a b c number = at (operation_of number)
  where
    at : (o : Option Operation) → Read a b c (option_map_or (λ o. Arithmetic o b) o Unknown)
    at (Some o) = arithmetic_read
    at None = unknown_read

read_node : (tag a b c : ℕ) → Read a b c (node_of tag a b c)
unfolding node_of
read_node zero a b c = constant_read
read_node (suc zero) a b c = local_read
read_node (suc (suc zero)) a b c = read_operation a b c a
read_node (suc (suc (suc zero))) a b c = choose_read
read_node (suc (suc (suc (suc zero)))) a b c = let_read
read_node (suc (suc (suc (suc (suc zero))))) a b c = call_read
read_node (suc (suc (suc (suc (suc (suc zero)))))) a b c = both_read
read_node (suc (suc (suc (suc (suc (suc (suc t))))))) a b c = unknown_read

module _ (w : List ℕ) (body : Body) where
  by_call : (f b c level p k q : ℕ) (t : Bool) → ltb f (functions w) ≡ t
      → (cond t (known (unused_of (arity_at w f) b c) true (arity_at w f) k) (unknown k)).known ≡ true
      → Children w body (level + 1) p k (cond t (known (unused_of (arity_at w f) b c) true (arity_at w f) k) (unknown k)).last q b c (cond t (known (unused_of (arity_at w f) b c) true (arity_at w f) k) (unknown k)).children
      → Assured w body level p k q (Call f b c)
  by_call f b c level p k q true l e s = call (ltb-true _ _ l) s
  by_call f b c level p k q false l e s = absurd (true≢false (sym e))

  -- by the node that the words gave
  by_node : {a b c : ℕ} {node : Node} (level p k q : ℕ) → Read a b c node → Sound (shape_of w a b c k node) level
      → Children w body (level + 1) p k (shape_of w a b c k node).last q b c (shape_of w a b c k node).children
      → Assured w body level p k q node
  unfolding shape_of call_shape
  by_node level p k q constant_read o (none e) = constant e
  by_node level p k q local_read o (none e) = local (ltb-true _ _ o.bound) e
  by_node level p k q arithmetic_read o (two s t) = arithmetic s t
  by_node level p k q choose_read o (three s t u) = choose s t u
  by_node level p k q let_read o (two s t) = binding (leb-true _ _ o.bound) s t
  by_node {a} {b} {c} level p k q call_read o s = by_call a b c level p k q (ltb a (functions w)) refl o.known s
  by_node level p k q both_read o (three s t u) = both (leb-true _ _ o.bound) s t u
  by_node level p k q unknown_read o c = absurd (true≢false (sym o.known))

  pub assured : {level p k q : ℕ} → Subtree w body level p k q → Assured w body level p k q (node_at w body.start p)
  assured {level} {p} {k} {q} (root h z c) = by_node level p k q (read_node (tag_at w body.start p) _ _ _) (sound _ level z) c

-- the tag that a known node was read by
unfoldable pub tag_for : Node → ℕ
tag_for (Constant v) = 0
tag_for (Local slot) = 1
tag_for (Arithmetic o b) = 2
tag_for (Choose b c) = 3
tag_for (Let b) = 4
tag_for (Call f b c) = 5
tag_for (Both b c) = 6
tag_for Unknown = 7

arithmetic_tag : (number b : ℕ) → (arithmetic_of number b ≡ Unknown → ⊥) → tag_for (arithmetic_of number b) ≡ 2
unfolding arithmetic_of tag_for
arithmetic_tag number b = at (operation_of number)
  where
    at : (o : Option Operation) → (option_map_or (λ o. Arithmetic o b) o Unknown ≡ Unknown → ⊥) → tag_for (option_map_or (λ o. Arithmetic o b) o Unknown) ≡ 2
    at (Some o) h = refl
    at None h = absurd (h refl)

pub node_tag : (tag a b c : ℕ) → (node_of tag a b c ≡ Unknown → ⊥) → tag_for (node_of tag a b c) ≡ tag
unfolding node_of tag_for
node_tag zero a b c h = refl
node_tag (suc zero) a b c h = refl
node_tag (suc (suc zero)) a b c h = arithmetic_tag a b h
node_tag (suc (suc (suc zero))) a b c h = refl
node_tag (suc (suc (suc (suc zero)))) a b c h = refl
node_tag (suc (suc (suc (suc (suc zero))))) a b c h = refl
node_tag (suc (suc (suc (suc (suc (suc zero)))))) a b c h = refl
node_tag (suc (suc (suc (suc (suc (suc (suc t))))))) a b c h = absurd (h refl)

-- what is assured of a node, by its tag; the second child stands at b and the third at c
module _ (w : List ℕ) (body : Body) where
  module _ {level p k q : ℕ} where
    arithmetic_of_lem : (number b : ℕ) → Assured w body level p k q (arithmetic_of number b)
        → (o : Operation) × (arithmetic_of number b ≡ Arithmetic o b) × Subtree w body (level + 1) (p + 1) k b × Subtree w body (level + 1) b k q
    unfolding arithmetic_of
    arithmetic_of_lem number b = at (operation_of number)
      where
        at : (o : Option Operation) → Assured w body level p k q (option_map_or (λ o. Arithmetic o b) o Unknown)
            → (x : Operation) × (option_map_or (λ o. Arithmetic o b) o Unknown ≡ Arithmetic x b) × Subtree w body (level + 1) (p + 1) k b × Subtree w body (level + 1) b k q
        at (Some o) (arithmetic s t) = (o, refl, s, t)
        at None a = elim a [ ]

    choose_of : {b c : ℕ} → Assured w body level p k q (Choose b c) → Subtree w body (level + 1) (p + 1) k b × Subtree w body (level + 1) b k c × Subtree w body (level + 1) c k q
    choose_of (choose s t u) = (s, t, u)

    let_of : {b : ℕ} → Assured w body level p k q (Let b) → (k + 1 ≤ 16) × Subtree w body (level + 1) (p + 1) k b × Subtree w body (level + 1) b (k + 1) q
    let_of (binding h s t) = (h, s, t)

    call_of : {f b c : ℕ} → Assured w body level p k q (Call f b c) → (f < functions w) × Children w body (level + 1) p k k q b c (arity_at w f)
    call_of (call h s) = (h, s)

    both_of_lem : {b c : ℕ} → Assured w body level p k q (Both b c) → (k + 2 ≤ 16) × Subtree w body (level + 1) (p + 1) k b × Subtree w body (level + 1) b k c × Subtree w body (level + 1) c (k + 2) q
    both_of_lem (both h s t u) = (h, s, t, u)

    local_of : {slot : ℕ} → Assured w body level p k q (Local slot) → slot < k
    local_of (local h e) = h

  module _ {level p k q : ℕ} (s : Subtree w body level p k q) where
    pub at_local : (slot : ℕ) → node_at w body.start p ≡ Local slot → slot < k
    at_local slot e = local_of (rw e at (assured w body s))

    pub known_node : node_at w body.start p ≡ Unknown → ⊥
    known_node e = none_of (rw e at (assured w body s))
      where
        none_of : Assured w body level p k q Unknown → ⊥
        none_of a = elim a [ ]

    pub at_arithmetic : tag_at w body.start p ≡ 2
        → (o : Operation) × (node_at w body.start p ≡ Arithmetic o (b_at w body.start p)) × Subtree w body (level + 1) (p + 1) k (b_at w body.start p) × Subtree w body (level + 1) (b_at w body.start p) k q
    unfolding node_of
    at_arithmetic t = rw t (arithmetic_of_lem (a_at w body.start p) (b_at w body.start p) (rw t at (assured w body s)))

    pub at_choose : tag_at w body.start p ≡ 3
        → Subtree w body (level + 1) (p + 1) k (b_at w body.start p) × Subtree w body (level + 1) (b_at w body.start p) k (c_at w body.start p) × Subtree w body (level + 1) (c_at w body.start p) k q
    unfolding node_of
    at_choose t = choose_of (rw t at (assured w body s))

    pub at_let : tag_at w body.start p ≡ 4
        → (k + 1 ≤ 16) × Subtree w body (level + 1) (p + 1) k (b_at w body.start p) × Subtree w body (level + 1) (b_at w body.start p) (k + 1) q
    unfolding node_of
    at_let t = let_of (rw t at (assured w body s))

    pub at_call : tag_at w body.start p ≡ 5
        → (a_at w body.start p < functions w) × Children w body (level + 1) p k k q (b_at w body.start p) (c_at w body.start p) (arity_at w (a_at w body.start p))
    unfolding node_of
    at_call t = call_of (rw t at (assured w body s))

    pub at_both : tag_at w body.start p ≡ 6
        → (k + 2 ≤ 16) × Subtree w body (level + 1) (p + 1) k (b_at w body.start p) × Subtree w body (level + 1) (b_at w body.start p) k (c_at w body.start p) × Subtree w body (level + 1) (c_at w body.start p) (k + 2) q
    unfolding node_of
    at_both t = both_of_lem (rw t at (assured w body s))

-- a subtree at p with k locals bound, at some level
pub record Argument (w : List ℕ) (body : Body) (p k : ℕ) : Type 0 where
  pub level : ℕ
  pub after : ℕ
  pub tree : Subtree w body level p k after

-- the arguments of a call: the first, and those after it, the second at b and the third at c
module _ (w : List ℕ) (body : Body) where
  standing : {level p k q : ℕ} → Subtree w body level p k q → Argument w body p k
  standing {level} {p} {k} {q} t = record { level = level; after = q; tree = t }

  pub first_of : {level p k q b c n : ℕ} → Children w body level p k k q b c n → 0 < n → Argument w body (p + 1) k
  first_of (none e) h = absurd (omega arith)
  first_of (one t) h = standing t
  first_of (two t u) h = standing t
  first_of (three t u v) h = standing t

  pub later_of_lem : {level p k q b c n : ℕ} (i : ℕ) → Children w body level p k k q b c n → i < n → n ≤ 3 → 1 ≤ i → Argument w body (cond (ltb 1 i) c b) k
  later_of_lem i (none e) h j l = absurd (omega arith)
  later_of_lem i (one t) h j l = absurd (omega arith)
  later_of_lem i (two t u) h j l = rw (le-ltb 1 i (omega arith)) (standing u)
  later_of_lem zero (three t u v) h j l = absurd (omega arith)
  later_of_lem (suc zero) (three t u v) h j l = standing u
  later_of_lem (suc (suc i)) (three t u v) h j l = rw (lt-ltb 1 (suc (suc i)) (omega arith)) (standing v)
