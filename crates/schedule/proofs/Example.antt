-- 01's table A ("Settled runs") as a frame machine: constants, locals and forks. Its rows are computed from the definitions, and demand 3 holds
-- of it, so that what the theorem asks can be met. The job language's own rows are proved where that language is defined.
use Prim.Native.Nat.{ℕ, zero, suc}
use mathlib.Core.Path.{◌≡◌, refl}
use mathlib.Core.List.{List, [], ◌∷◌, ◌++◌}
use native.Mathlib.Omega.{arith}
use lib.ListN.{get_or}
use Rattle.schedule.specs.Graph.{Graph, empty, transition, work, span}
use Rattle.schedule.specs.Algebra.{graphs}
use Rattle.schedule.specs.FrameMachine.{Place, return, Next, go_on, open_fork, fail, FrameMachine}
use Rattle.schedule.specs.Machine.{promotable, promote, value, stop, Result, ended, ongoing, Schedule, sequential, parallel, heartbeat, promoted_at_birth, promotion_due, with_fuel, with_frame, evaluated, arrived, move, step, start}
use Rattle.schedule.specs.Runs.{and_then, run, outcome}
use Rattle.schedule.specs.Demand.{DemandOfRuns}
use Rattle.schedule.proofs.Demand.{demand_3}

-- Each node with its position.
data Term : Type 0 where
  constant : ℕ → ℕ → Term
  local : ℕ → ℕ → Term
  both : ℕ → Term → Term → Term → Term

record Closure : Type 0 where
  term : Term
  locals : List ℕ

record Both : Type 0 where
  node : ℕ
  right : Term
  body : Term
  locals : List ℕ

node_of : Term → ℕ
node_of (constant n v) = n
node_of (local n k) = n
node_of (both n l r b) = n

next_of : Term → List ℕ → Next Closure (Unit {0}) Both
next_of (constant n v) s = go_on (return v)
next_of (local n k) s = go_on (return (get_or s k 0))
next_of (both n l r b) s = open_fork (record { node = n; right = r; body = b; locals = s }) (record { term = l; locals = s })

at : ℕ → Place
at n = record { function = 0; node = n }

-- No ordinary frame is ever opened.
abbrev language : FrameMachine
language = record {
  Code = Closure;
  Frame = Unit {0};
  Fork = Both;
  next = λ c. next_of c.term c.locals;
  arrive = λ f v. fail 0;
  right = λ b. record { term = b.right; locals = b.locals };
  body = λ b w v. record { term = b.body; locals = b.locals ++ (w ∷ v ∷ []) };
  code_place = λ c. at (node_of c.term);
  frame_place = λ f. at 0;
  fork_place = λ b. at b.node;
}

table_A : Closure
table_A = record { term = both 0 (both 1 (constant 2 3) (constant 3 4) (local 4 1)) (constant 5 5) (local 6 0); locals = [] }

-- Value, work, span, forks and depth; or stop, node and transitions.
told : ℕ → Result graphs language → List ℕ
told τ (ended (value v) g t) = v ∷ work τ g ∷ span τ g ∷ t.forks ∷ t.deepest ∷ []
told τ (ended (stop i p) g t) = i ∷ p.node ∷ t.transitions ∷ []
told τ (ongoing s) = []

row : (fuel frames τ : ℕ) → Schedule → List ℕ
row fuel frames τ m = told τ (outcome graphs language fuel frames m table_A)

rows : List (List ℕ)
rows = row 100 256 2 sequential ∷ row 100 256 2 parallel ∷ row 100 256 2 (heartbeat 3) ∷ row 100 256 1 (heartbeat 1)
    ∷ row 100 256 2 (heartbeat 10000) ∷ row 11 256 2 sequential ∷ row 10 256 2 sequential ∷ row 4 256 2 parallel ∷ row 5 256 2 parallel
    ∷ row 100 1 2 sequential ∷ row 100 1 2 (heartbeat 3) ∷ row 100 1 2 parallel ∷ []

settled : rows ≡ (4 ∷ 11 ∷ 11 ∷ 0 ∷ 2 ∷ []) ∷ (4 ∷ 9 ∷ 7 ∷ 2 ∷ 2 ∷ []) ∷ (4 ∷ 11 ∷ 10 ∷ 1 ∷ 2 ∷ []) ∷ (4 ∷ 9 ∷ 7 ∷ 2 ∷ 2 ∷ [])
    ∷ (4 ∷ 11 ∷ 11 ∷ 0 ∷ 2 ∷ []) ∷ (4 ∷ 11 ∷ 11 ∷ 0 ∷ 2 ∷ []) ∷ (20 ∷ 6 ∷ 10 ∷ []) ∷ (20 ∷ 6 ∷ 4 ∷ []) ∷ (4 ∷ 9 ∷ 7 ∷ 2 ∷ 2 ∷ [])
    ∷ (21 ∷ 1 ∷ 1 ∷ []) ∷ (21 ∷ 1 ∷ 1 ∷ []) ∷ (21 ∷ 1 ∷ 0 ∷ []) ∷ []
unfolding rows row told table_A at node_of next_of work span outcome run and_then step start move evaluated arrived with_fuel with_frame promotable promote promoted_at_birth promotion_due
settled = refl

chain : ℕ → Graph
chain zero = empty
chain (suc n) = transition (chain n)

met : DemandOfRuns language 100 256 3 2 table_A 4 (chain 11)
unfolding table_A at node_of next_of chain outcome run and_then step start move evaluated arrived with_fuel with_frame promotable promote promoted_at_birth promotion_due
met = demand_3 language 100 256 3 2 table_A 4 (chain 11) (record { transitions = 11; forks = 0; deepest = 2 }) (omega arith) (omega arith) refl
