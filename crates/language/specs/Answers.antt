-- What a machine answers, for every input (01, "Transitions", "Turned away by the input" and "Stopped by the run's state"). "Where an
-- answer is an enum, a definition gives this paper's number and values for each of its cases, and the promises use that definition": it
-- is `answer_of`.
use Rattle.std.specs.Prelude.{ℕ, ◌+◌, ◌*◌, ◌≡◌, List, length, Ok, Err}
use Rattle.schedule.specs.Graph.{Graph, work, span}
use Rattle.schedule.specs.Algebra.{graphs}
use Rattle.schedule.specs.FrameMachine.{Place}
use Rattle.schedule.specs.Machine.{value, stop, Outcome, ended, ongoing, Schedule, sequential, parallel, heartbeat}
use Rattle.schedule.specs.Runs.{outcome}
use Rattle.table.specs.declared.Refusal.{Refusal}
use Rattle.table.specs.Read.{Reading}
use Rattle.language.specs.declared.Counts.{Counts}
use Rattle.language.specs.declared.Answer.{Answer}
use Rattle.language.specs.declared.Answer.TheVariants.{Value, Stopped, Refused}
use Rattle.language.specs.Language.{Code, entered, language}
use Rattle.language.specs.Checks.{frames_in, checked_of}

-- "Function 0 is the entry": its body, from its root, with the arguments as locals, "arguments first"
abbrev pub entry_code : List ℕ → Code
entry_code arguments = entered 0 arguments

-- "The counts are transitions, forks, work and span." 02, P7: "The counts of every value and every stop gain the largest number of frames occupied
-- at once." It is called the depth.
abbrev pub counts_of : ℕ → ℕ → ℕ → ℕ → ℕ → Counts
counts_of transitions forks work span deepest =
    record { transitions = transitions; forks = forks; work = record { 0 = work }; span = record { 0 = span }; deepest = deepest }

-- "The answer is the number, function, node and transitions made."; and the depth reached.
abbrev pub stopped : ℕ → Place → ℕ → ℕ → Answer
stopped number p transitions deepest =
    Stopped (record { number = number; function = p.function; node = p.node; transitions = transitions; deepest = deepest })

-- No run is unfinished (crate schedule, theorem `finishes`), so that this is never told.
abbrev pub unfinished : Answer
unfinished = stopped 0 (record { function = 0; node = 0 }) 0 0

-- "An answer is either a value with its counts or a stop with its place." Work and span are those of the run's cost graph, priced by τ.
unfoldable pub told_by : {X : Type 0} → ℕ → Outcome Graph X → Answer
told_by τ (ended (value v) g t) = Value v (counts_of t.transitions t.forks (work τ g) (span τ g) t.deepest)
told_by τ (ended (stop i p) g t) = stopped i p t.transitions t.deepest
told_by τ (ongoing s) = unfinished

-- The same for code, which keeps no graph but its span, as a number s; work is counted: transitions + τ · forks. Nobody need believe it:
-- that it tells the same is a theorem (proofs/Told.antt, `told_by_spans_lem`).
unfoldable pub told_by_spans : {X : Type 0} → ℕ → Outcome ℕ X → Answer
told_by_spans τ (ended (value v) s t) = Value v (counts_of t.transitions t.forks (t.transitions + τ * t.forks) s t.deepest)
told_by_spans τ (ended (stop i p) s t) = stopped i p t.transitions t.deepest
told_by_spans τ (ongoing s) = unfinished

-- "Nothing runs" where the check refuses; the answer is then the refusal.
unfoldable pub after_check : Reading → Answer → Answer
after_check (Ok _) answer = answer
after_check (Err r) answer = Refused r

-- What a machine tells of an input that is accepted.
unfoldable pub run_of : Schedule → List ℕ → List ℕ → ℕ → ℕ → ℕ → Answer
run_of machine w arguments fuel τ workspace =
    told_by τ (outcome graphs (language w) fuel (frames_in workspace) machine (entry_code arguments))

-- THE ANSWER of a machine, for any table, arguments, fuel, N, τ and length of the workspace.
unfoldable pub answer_of : Schedule → List ℕ → List ℕ → ℕ → ℕ → ℕ → ℕ → Answer
answer_of machine w arguments fuel N τ workspace =
    after_check (checked_of w (length arguments) fuel N τ workspace) (run_of machine w arguments fuel τ workspace)

-- A machine's answer to a table, arguments, fuel, N, τ and the length of the workspace; 01's "Sequential", "Parallel" and "Heartbeat".
abbrev pub Machine : Type 0
Machine = List ℕ → List ℕ → ℕ → ℕ → ℕ → ℕ → Answer

abbrev pub sequential_of : Machine
sequential_of = answer_of sequential

abbrev pub parallel_of : Machine
parallel_of = answer_of parallel

abbrev pub heartbeat_of : Machine
heartbeat_of w arguments fuel N τ workspace = answer_of (heartbeat N) w arguments fuel N τ workspace

-- The depth that an answer shows; a refusal shows none.
unfoldable pub deepest_of : Answer → ℕ
deepest_of (Value v counts) = counts.deepest
deepest_of (Stopped s) = s.deepest
deepest_of (Refused r) = 0

-- THEOREM (proofs/Told.antt, `refused_alike`): a refusal is of the input and not of a machine. Where one machine answers it, so does every
-- other: "All three machines check all eleven."
abbrev pub RefusedAlike : Type 0
RefusedAlike = (m n : Schedule) (w arguments : List ℕ) (fuel N τ workspace : ℕ) (r : Refusal)
    → answer_of m w arguments fuel N τ workspace ≡ Refused r → answer_of n w arguments fuel N τ workspace ≡ Refused r
