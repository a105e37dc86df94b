-- The settled runs of document 01 and the further ones, by computation: each row's table is read, accepted, and run.
use Prim.Native.Nat.{ℕ, ◌<◌}
use mathlib.Core.Path.{◌≡◌, refl, sym, ◌∙◌}
use mathlib.Core.List.{List, [], ◌∷◌}
use native.Mathlib.Omega.{arith}
use Rattle.table.specs.Words.{nodes_before}
use Rattle.table.specs.Nodes.{arithmetic_of, node_of}
use Rattle.table.specs.Walk as walk
use Rattle.table.specs.Read.{◌then◌, header, entry, exact, root_of, body_read, each, contents, bodies, read_of}
use Rattle.arithmetic.specs.Operate.{computed}
use Rattle.schedule.specs.Graph.{work, span}
use Rattle.schedule.specs.Machine.{promotable, promote, promoted_at_birth, promotion_due, with_fuel, with_frame, evaluated, arrived, move, step, start}
use Rattle.schedule.specs.Runs.{and_then, run, outcome}
use Rattle.language.specs.Language.{result, operated, call, next, gathered, arrive}
use Rattle.language.specs.Checks.{range_of, arguments_of, workspace_of, settings_of, checked_of}
use Rattle.language.specs.declared.Counts.{Counts}
use Rattle.language.specs.declared.Stop.{Stop}
use Rattle.language.specs.declared.Answer.{Answer}
use Rattle.language.specs.declared.Answer.TheVariants.{Value, Stopped}
use Rattle.language.specs.Answers.{told_by, after_check, run_of, answer_of, Machine, parallel_of, heartbeat_of}
use Rattle.language.specs.Settled.{Row, table_a, rows, answered, told, SettledRuns}
use Rattle.language.specs.Examples.{examples, ExampleRuns}
use Rattle.language.specs.ExampleStops.{stop_examples, StopExampleRuns}
use Rattle.language.specs.ExampleDepths.{depth_examples, DepthExampleRuns}
use Rattle.language.specs.ExampleAgreement.{joined, agreement_examples, AgreementExampleRuns, AtStop20, EqualTransitions, NotAt20, NotEqual}
use Rattle.language.specs.ExampleRefusals.{lets, bindings, refusal_examples, RefusalExampleRuns}

-- The answers of rows; to unfold it is to unfold all that an answer is computed by.
by_computation : List Row → List Answer
unfolding answered told answer_of after_check run_of told_by checked_of settings_of workspace_of arguments_of range_of read_of bodies contents each body_read root_of exact entry header ◌then◌ nodes_before arithmetic_of node_of computed work span promotable promote promoted_at_birth promotion_due with_fuel with_frame evaluated arrived move step start and_then run outcome result operated call next gathered arrive walk.unused_of walk.call_shape walk.shape_of walk.next walk.after_first walk.children walk.own walk.walk_of
by_computation rs = answered rs

pub settled : SettledRuns
unfolding rows by_computation
settled = refl

pub worked : ExampleRuns
unfolding examples by_computation
worked = refl

pub stops_worked : StopExampleRuns
unfolding stop_examples by_computation
stops_worked = refl

pub depths_worked : DepthExampleRuns
unfolding depth_examples by_computation
depths_worked = refl

pub agreement_worked : AgreementExampleRuns
unfolding agreement_examples by_computation
agreement_worked = refl

-- A stop at a node of the entry.
abbrev stop_at : ℕ → ℕ → ℕ → ℕ → Stop
stop_at number node transitions deepest = record { number = number; function = 0; node = node; transitions = transitions; deepest = deepest }

-- Table A with fuel 10 stops with 20 on the sequential machine; a machine that has a value then does not agree.
value_beside_20 : (machine : Machine) (v : ℕ) (counts : Counts) → machine table_a [] 10 3 2 8192 ≡ Value v counts → AtStop20 machine → ⊥
unfolding by_computation
value_beside_20 machine v counts e h =
    let z = sym e ∙ (h table_a [] 10 3 2 8192 (stop_at 20 6 10 2) refl refl).is in
    let no : ◌≡◌ {A = ℕ} 0 1 = cc in
    omega arith

pub not_at_20 : NotAt20
unfolding by_computation
not_at_20 = (value_beside_20 parallel_of 4 _ refl, value_beside_20 heartbeat_of 4 _ refl)

-- A difference below 0 after a both is stop 23, after 9 sequential transitions.
fewer_at_23 : (machine : Machine) (k : ℕ) → k < 9 → machine (joined 1) (0 ∷ 1 ∷ []) 100 1 2 8192 ≡ Stopped (stop_at 23 3 k 1)
    → EqualTransitions machine → ⊥
unfolding by_computation
fewer_at_23 machine k l e h =
    let same = h (joined 1) (0 ∷ 1 ∷ []) 100 1 2 8192 (stop_at 23 3 9 1) (stop_at 23 3 k 1) refl (omega arith) (omega arith) e in
    omega (arith, l, same)

pub not_equal : NotEqual
unfolding by_computation
not_equal = (fewer_at_23 parallel_of 6 (omega arith) refl, fewer_at_23 heartbeat_of 7 (omega arith) refl)

pub refusals_worked : RefusalExampleRuns
unfolding lets bindings refusal_examples by_computation
refusals_worked = refl
