-- A tag, an operation or an arity past the end of its list.
use Prim.Native.Nat.{ℕ, ◌≤◌}
use mathlib.Core.Path.{◌≡◌, sym}
use mathlib.Core.Bool.{true}
use native.Mathlib.Omega.{arith}
use lib.ListN.{get_or-eq_default}
use Rattle.std.proofs.lemmas.Option.{slice_get_past}
use Rattle.table.specs.declared.Node.TheVariants.{Unknown}
use Rattle.table.specs.Nodes.{operations, arithmetic_of, tags, node_of}
use Rattle.table.specs.Walk.{unused, unused_of}

above_3 : (n : ℕ) → (n ≡ 0 → ⊥) → (n ≡ 1 → ⊥) → (n ≡ 2 → ⊥) → (n ≡ 3 → ⊥) → 4 ≤ n
above_3 n n0 n1 n2 n3 = omega arith

above_3_6 : (n : ℕ) → 4 ≤ n → (n ≡ 4 → ⊥) → (n ≡ 5 → ⊥) → (n ≡ 6 → ⊥) → 7 ≤ n
above_3_6 n h n4 n5 n6 = omega arith

-- what is none of 0 to 6
pub above_6 : (n : ℕ) → (n ≡ 0 → ⊥) → (n ≡ 1 → ⊥) → (n ≡ 2 → ⊥) → (n ≡ 3 → ⊥) → (n ≡ 4 → ⊥) → (n ≡ 5 → ⊥) → (n ≡ 6 → ⊥) → 7 ≤ n
above_6 n n0 n1 n2 n3 n4 n5 n6 = above_3_6 n (above_3 n n0 n1 n2 n3) n4 n5 n6

pub no_operation : (operation b : ℕ) → 7 ≤ operation → Unknown ≡ arithmetic_of operation b
unfolding arithmetic_of
no_operation operation b h = rw (slice_get_past operations operation h)

pub no_tag : (tag a b c : ℕ) → 7 ≤ tag → Unknown ≡ node_of tag a b c
unfolding node_of
no_tag tag a b c h = sym (get_or-eq_default (tags a b c) Unknown h)

pub full_call : (arity b c : ℕ) → 3 ≤ arity → true ≡ unused_of arity b c
unfolding unused_of
full_call arity b c h = sym (get_or-eq_default (unused b c) true h)
