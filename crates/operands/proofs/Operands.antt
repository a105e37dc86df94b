-- Simple operands: their words are there, and they have their values by so many transitions.
use Prim.Native.Nat.{ℕ, zero, suc, ◌+◌, ◌*◌, ◌≤◌, ◌<◌}
use Rattle.std.specs.Prelude.{Ok, Option, Some, None}
use Rattle.std.specs.Option.{option_map_or, unwrap_or}
use mathlib.Core.Path.{◌≡◌, refl, ap, ◌∙◌}
use mathlib.Core.Bool.{Bool, true, false, cond}
use mathlib.Core.List.{List}
use native.Mathlib.Omega.{arith}
use native.Mathlib.Decide.{dec_lt, ℕ_discrete}
use lib.ListN.{length, get_or, take, drop}
use lib.Seq.{get_or-take, get_or-drop}
use lib.Dec.{ltb, eqb}
use borrow.Author.Tests.{lt-ltb, le-ltb, eq-eqb, ne_eqb}
use Rattle.schedule.specs.FrameMachine.{return}
use Rattle.schedule.specs.Stretch.{Leads}
use Rattle.table.specs.declared.Operation.{Operation}
use Rattle.table.specs.declared.Operation.TheVariants.{Equal}
use Rattle.table.specs.declared.Node.TheVariants.{Constant, Local, Arithmetic, Unknown}
use Rattle.table.specs.Words.{start_of, body_at, tag_at, a_at, b_at}
use Rattle.table.specs.Nodes.{operation_of, arithmetic_of, node_of, node_at}
use Rattle.table.specs.WellFormed.{WellFormed, Subtree, Assured, constant, local}
use Rattle.table.proofs.Trees.{moves}
use Rattle.table.proofs.Views.{assured, at_arithmetic, tag_for}
use Rattle.arithmetic.specs.Operate.{computed}
use Rattle.language.specs.Language.{Code, language}
use Rattle.moves.specs.Ready.{Stands}
use Rattle.moves.proofs.Nodes.{inside, local_in, arithmetic_in}
use Rattle.operands.specs.Operands.{numbered, leaf_at, cost_of, cost_at, frames_of, simple_at, LeafAt, SimpleAt, CostAt}
use Rattle.operands.proofs.Leading.{constant_leads, local_leads, arithmetic_leads}

-- THE COST by the three tags
costs_few : (a b c d : Bool) → cond a 1 (cond b (cond c (cond d 5 0) 0) 0) ≤ 5
costs_few true b c d = omega arith
costs_few false false c d = omega arith
costs_few false true false d = omega arith
costs_few false true true false = omega arith
costs_few false true true true = omega arith

pub cost_few : (w : List ℕ) (at : ℕ) → cost_at w at ≤ 5
cost_few w at = costs_few (ltb (get_or w at 0) 2) (eqb (get_or w at 0) 2) (ltb (get_or w (at + 4) 0) 2) (ltb (get_or w (at + 8) 0) 2)

pub frames_few : (k : ℕ) → frames_of k ≤ 1
frames_few k = on (eqb k 5)
  where
    on : (q : Bool) → cond q 1 0 ≤ 1
    on true = omega arith
    on false = omega arith

data Simply (a b c : ℕ) : Type 0 where
  leafy : a < 2 → cost_of a b c ≡ 1 → Simply a b c
  paired : a ≡ 2 → b < 2 → c < 2 → cost_of a b c ≡ 5 → Simply a b c

simply : (a b c : ℕ) → 0 < cost_of a b c → Simply a b c
simply a b c h = one (dec_lt a 2)
  where
    four : a ≡ 2 → b < 2 → Dec (c < 2) → Simply a b c
    four e l (yes g) = paired e l g (rw (le-ltb a 2 (omega arith), eq-eqb a 2 e, lt-ltb b 2 l, lt-ltb c 2 g))
    four e l (no g) = let z = rw (le-ltb a 2 (omega arith), eq-eqb a 2 e, lt-ltb b 2 l, le-ltb c 2 (omega arith)) at h in absurd (omega (arith, z))

    three : a ≡ 2 → Dec (b < 2) → Simply a b c
    three e (yes g) = four e g (dec_lt c 2)
    three e (no g) = let z = rw (le-ltb a 2 (omega arith), eq-eqb a 2 e, le-ltb b 2 (omega arith)) at h in absurd (omega (arith, z))

    two : 2 ≤ a → Dec (a ≡ 2) → Simply a b c
    two l (yes e) = three e (dec_lt b 2)
    two l (no e) = let z = rw (le-ltb a 2 l, ne_eqb a 2 e) at h in absurd (omega (arith, z))

    one : Dec (a < 2) → Simply a b c
    one (yes l) = leafy l (rw (lt-ltb a 2 l))
    one (no l) = two (omega arith) (ℕ_discrete a 2)

-- THE OPERATION of an arithmetic's number is the node's
numbered_is : (i b c : ℕ) (o : Operation) → arithmetic_of i b ≡ Arithmetic o c → numbered i ≡ o
unfolding arithmetic_of tag_for
numbered_is i b c o e = by (operation_of i) e
  where
    by : (r : Option Operation) → option_map_or (λ z. Arithmetic z b) r Unknown ≡ Arithmetic o c → unwrap_or r Equal ≡ o
    by (Some z) e = cc
    by None e = let x : ◌≡◌ {A = ℕ} 7 2 = ap tag_for e in absurd (omega arith)

pub two_node : (w : List ℕ) (f p : ℕ) (o : Operation) (b : ℕ) → tag_at w (start_of w f) p ≡ 2 → node_at w (start_of w f) p ≡ Arithmetic o b → numbered (a_at w (start_of w f) p) ≡ o
unfolding node_of
two_node w f p o b t e = numbered_is (a_at w (start_of w f) p) (b_at w (start_of w f) p) b o (rw t at e)

-- a number that is none of 0 to 5
pub last_operation : (n : ℕ) → (n ≡ 0 → ⊥) → (n ≡ 1 → ⊥) → (n ≡ 2 → ⊥) → (n ≡ 3 → ⊥) → (n ≡ 4 → ⊥) → (n ≡ 5 → ⊥) → numbered n ≡ Equal
last_operation zero n0 n1 n2 n3 n4 n5 = absurd (n0 refl)
last_operation (suc zero) n0 n1 n2 n3 n4 n5 = absurd (n1 refl)
last_operation (suc (suc zero)) n0 n1 n2 n3 n4 n5 = absurd (n2 refl)
last_operation (suc (suc (suc zero))) n0 n1 n2 n3 n4 n5 = absurd (n3 refl)
last_operation (suc (suc (suc (suc zero)))) n0 n1 n2 n3 n4 n5 = absurd (n4 refl)
last_operation (suc (suc (suc (suc (suc zero))))) n0 n1 n2 n3 n4 n5 = absurd (n5 refl)
last_operation (suc (suc (suc (suc (suc (suc zero)))))) n0 n1 n2 n3 n4 n5 = refl
last_operation (suc (suc (suc (suc (suc (suc (suc n))))))) n0 n1 n2 n3 n4 n5 = refl

-- A LEAF by its node
module _ (w : List ℕ) (f p : ℕ) where
  zero_node : tag_at w (start_of w f) p ≡ 0 → node_at w (start_of w f) p ≡ Constant (a_at w (start_of w f) p + 4294967296 * b_at w (start_of w f) p)
  unfolding node_of
  zero_node e = rw e

  one_node : tag_at w (start_of w f) p ≡ 1 → node_at w (start_of w f) p ≡ Local (a_at w (start_of w f) p)
  unfolding node_of
  one_node e = rw e

  -- it is a tree by itself
  leaf_ends : {level k q : ℕ} → Subtree w (body_at w f) level p k q → tag_at w (start_of w f) p < 2 → q ≡ p + 1
  leaf_ends {level} {k} {q} t h = on (ℕ_discrete (tag_at w (start_of w f) p) 0)
    where
      by_constant : {v : ℕ} → Assured w (body_at w f) level p k q (Constant v) → q ≡ p + 1
      by_constant (constant e) = e

      by_local : {slot : ℕ} → Assured w (body_at w f) level p k q (Local slot) → q ≡ p + 1
      by_local (local l e) = e

      on : Dec (tag_at w (start_of w f) p ≡ 0) → q ≡ p + 1
      on (yes e) = by_constant (rw (zero_node e) at (assured w (body_at w f) t))
      on (no e) = by_local (rw (one_node (omega arith)) at (assured w (body_at w f) t))

-- A NODE of function f at position p, whose words begin at `at`
abbrev operand : ℕ → ℕ → ℕ → List ℕ → ℕ → Code
operand f p k vs from = record { function = f; node = p; locals = take k (drop from vs) }

module _ (w : List ℕ) (f : ℕ) (table : WellFormed w) (vs : List ℕ) (from : ℕ) {p k : ℕ} (s : Stands w f p k) (at : ℕ) (e : at ≡ start_of w f + 4 * p) where
  tag_is : tag_at w (start_of w f) p ≡ get_or w at 0
  tag_is = rw e

  a_is : a_at w (start_of w f) p ≡ get_or w (at + 1) 0
  a_is = rw e

  b_is : b_at w (start_of w f) p ≡ get_or w (at + 2) 0
  b_is = rw e

  local_is : (get_or w at 0 ≡ 0 → ⊥) → get_or w at 0 < 2 → node_at w (start_of w f) p ≡ Local (get_or w (at + 1) 0)
  local_is n h = one_node w f p (omega (arith, tag_is)) ∙ ap Local a_is

  pub leaf_fits : get_or w at 0 < 2 → from + k ≤ length vs → LeafAt w at vs from
  leaf_fits h l = record {
    inside = omega (arith, (inside w table s).0);
    bound = λ n. omega (arith, local_in w table s (get_or w (at + 1) 0) (local_is n h));
  }

  pub leaf_leads : get_or w at 0 < 2 → Leads (language w) (operand f p k vs from) (return (leaf_at w at vs from)) 1 0
  leaf_leads h = on (ℕ_discrete (get_or w at 0) 0)
    where
      on : Dec (get_or w at 0 ≡ 0) → Leads (language w) (operand f p k vs from) (return (leaf_at w at vs from)) 1 0
      on (yes z) = rw (eq-eqb _ _ z, ← a_is, ← b_is) (constant_leads w f p (take k (drop from vs)) _ (zero_node w f p (tag_is ∙ z)))
      on (no z) =
          let n = local_is z h in
          let x = get_or-take k (drop from vs) (get_or w (at + 1) 0) 0 (local_in w table s _ n) ∙ get_or-drop from vs (get_or w (at + 1) 0) 0 in
          rw (ne_eqb _ _ z, ← x) (local_leads w f p (take k (drop from vs)) _ n)

-- and those of its children, where it is an arithmetic
module _ (w : List ℕ) (f : ℕ) (table : WellFormed w) (vs : List ℕ) (from : ℕ) {p k : ℕ} (s : Stands w f p k) (at : ℕ) (e : at ≡ start_of w f + 4 * p) where
  two_tag : get_or w at 0 ≡ 2 → tag_at w (start_of w f) p ≡ 2
  two_tag t = tag_is w f table vs from s at e ∙ t

  left_in : get_or w at 0 ≡ 2 → Stands w f (p + 1) k
  left_in t = (arithmetic_in w table s (two_tag t)).0

  left_at : at + 4 ≡ start_of w f + 4 * (p + 1)
  left_at = omega arith

  right_at_lem : at + 8 ≡ start_of w f + 4 * (p + 2)
  right_at_lem = omega arith

  pair_ends : get_or w at 0 ≡ 2 → get_or w (at + 4) 0 < 2 → b_at w (start_of w f) p ≡ p + 2
  pair_ends t h =
      let a = at_arithmetic w (body_at w f) s.tree (two_tag t) in
      omega (arith, leaf_ends w f (p + 1) a.2 (rw (← left_at) h))

  right_in : get_or w at 0 ≡ 2 → get_or w (at + 4) 0 < 2 → Stands w f (p + 2) k
  right_in t h = rw (pair_ends t h) at (arithmetic_in w table s (two_tag t)).1

  pub cost_fits : CostAt w at
  cost_fits = record {
    inside = omega (arith, (inside w table s).0);
    children = λ t. let a = at_arithmetic w (body_at w f) s.tree (two_tag t) in omega (arith, moves w (body_at w f) a.2, inside w table (arithmetic_in w table s (two_tag t)).1);
  }

  pub simple_fits : from + k ≤ length vs → 0 < cost_at w at → SimpleAt w at vs from
  simple_fits l some = on (simply (get_or w at 0) (get_or w (at + 4) 0) (get_or w (at + 8) 0) some)
    where
      on : Simply (get_or w at 0) (get_or w (at + 4) 0) (get_or w (at + 8) 0) → SimpleAt w at vs from
      on (leafy h u) = record {
        inside = omega (arith, (inside w table s).0);
        own = λ g. leaf_fits w f table vs from s at e g l;
        left = λ g. absurd (omega arith);
        right = λ g. absurd (omega arith);
      }
      on (paired t a b u) = record {
        inside = omega (arith, (inside w table s).0);
        own = λ g. absurd (omega arith);
        left = λ g. leaf_fits w f table vs from (left_in t) (at + 4) left_at a l;
        right = λ g. leaf_fits w f table vs from (right_in t a) (at + 8) right_at_lem b l;
      }

  pub simple_leads : from + k ≤ length vs → 0 < cost_at w at → (v : ℕ) → simple_at w at vs from ≡ Ok v
      → Leads (language w) (operand f p k vs from) (return v) (cost_at w at) (frames_of (cost_at w at))
  simple_leads l some v q = on (simply (get_or w at 0) (get_or w (at + 4) 0) (get_or w (at + 8) 0) some)
    where
      on : Simply (get_or w at 0) (get_or w (at + 4) 0) (get_or w (at + 8) 0)
          → Leads (language w) (operand f p k vs from) (return v) (cost_at w at) (frames_of (cost_at w at))
      on (leafy h u) =
          let x : Ok (leaf_at w at vs from) ≡ Ok v = rw (lt-ltb _ _ h) at q in
          let y : leaf_at w at vs from ≡ v = cc in
          rw (u, ← y) (leaf_leads w f table vs from s at e h)
      on (paired t a b u) =
          let o = at_arithmetic w (body_at w f) s.tree (two_tag t) in
          let n : numbered (get_or w (at + 1) 0) ≡ o.0 = rw (← a_is w f table vs from s at e) (two_node w f p o.0 (b_at w (start_of w f) p) (two_tag t) o.1) in
          let x : computed (numbered (get_or w (at + 1) 0)) (leaf_at w (at + 4) vs from) (leaf_at w (at + 8) vs from) ≡ Ok v = rw (le-ltb (get_or w at 0) 2 (omega arith)) at q in
          rw u (arithmetic_leads w f p (take k (drop from vs)) o.0 (b_at w (start_of w f) p) _ _ v 1 1 0 0 o.1
          (leaf_leads w f table vs from (left_in t) (at + 4) left_at a)
          (rw (pair_ends t a) (leaf_leads w f table vs from (right_in t a) (at + 8) right_at_lem b))
          (rw n at x))
