-- Simple operands, by their words: a constant, a local, or an arithmetic of two of these. Its node stands at the word `at`; the values of the
-- locals stand from word `from` of `vs` on.
use Rattle.std.specs.Prelude.{ℕ, ◌+◌, ◌*◌, ◌≤◌, ◌<◌, ◌≡◌, cond, List, length, get_or, ltb, eqb, Result, Ok}
use Rattle.std.specs.Option.{unwrap_or}
use Rattle.table.specs.declared.Operation.{Operation}
use Rattle.table.specs.declared.Operation.TheVariants.{Equal}
use Rattle.table.specs.Nodes.{operation_of}
use Rattle.arithmetic.specs.declared.Failure.{Failure}
use Rattle.arithmetic.specs.Operate.{computed}

-- the operation of a number; above 6 the last
abbrev pub numbered : ℕ → Operation
numbered i = unwrap_or (operation_of i) Equal

-- the value of a constant or a local
abbrev pub leaf_at : List ℕ → ℕ → List ℕ → ℕ → ℕ
leaf_at w at vs from = cond (eqb (get_or w at 0) 0) (get_or w (at + 1) 0 + 4294967296 * get_or w (at + 2) 0) (get_or vs (from + get_or w (at + 1) 0) 0)

-- the transitions of a simple operand: 1, or 5 for an arithmetic; 0 for any other node
abbrev pub cost_of : ℕ → ℕ → ℕ → ℕ
cost_of a b c = cond (ltb a 2) 1 (cond (eqb a 2) (cond (ltb b 2) (cond (ltb c 2) 5 0) 0) 0)

abbrev pub cost_at : List ℕ → ℕ → ℕ
cost_at w at = cost_of (get_or w at 0) (get_or w (at + 4) 0) (get_or w (at + 8) 0)

-- the frames that it opens, by its transitions
abbrev pub frames_of : ℕ → ℕ
frames_of k = cond (eqb k 5) 1 0

-- two costs together, 0 if one of them is
abbrev pub both_of : ℕ → ℕ → ℕ
both_of k l = cond (eqb k 0) 0 (cond (eqb l 0) 0 (k + l))

-- its value
abbrev pub simple_at : List ℕ → ℕ → List ℕ → ℕ → Result ℕ Failure
simple_at w at vs from = cond (ltb (get_or w at 0) 2) (Ok (leaf_at w at vs from)) (computed (numbered (get_or w (at + 1) 0)) (leaf_at w (at + 4) vs from) (leaf_at w (at + 8) vs from))

-- these words are there
pub record LeafAt (w : List ℕ) (at : ℕ) (vs : List ℕ) (from : ℕ) : Type 0 where
  pub inside : at + 4 ≤ length w
  pub bound : (get_or w at 0 ≡ 0 → ⊥) → from + get_or w (at + 1) 0 < length vs

pub record SimpleAt (w : List ℕ) (at : ℕ) (vs : List ℕ) (from : ℕ) : Type 0 where
  pub inside : at + 4 ≤ length w
  pub own : get_or w at 0 < 2 → LeafAt w at vs from
  pub left : 2 ≤ get_or w at 0 → LeafAt w (at + 4) vs from
  pub right : 2 ≤ get_or w at 0 → LeafAt w (at + 8) vs from

pub record CostAt (w : List ℕ) (at : ℕ) : Type 0 where
  pub inside : at + 4 ≤ length w
  pub children : get_or w at 0 ≡ 2 → at + 12 ≤ length w
