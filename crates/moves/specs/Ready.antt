-- What a run keeps true of its words and registers, and what each function tells of them.
use Rattle.std.specs.Prelude.{ℕ, zero, suc, ◌+◌, ◌*◌, ◌/◌, ◌≤◌, ◌<◌, ◌^◌, ◌≡◌, Bool, true, false, cond, List, [], ◌∷◌, length, get_or, ltb, Result, Ok, Err}
use Rattle.schedule.specs.Algebra.{spans}
use Rattle.schedule.specs.Machine.{move}
use Rattle.schedule.specs.Bounds.{Bounded, step_by}
use Rattle.table.specs.Words.{functions, arity_at, start_of, body_at, tag_at, a_at, b_at, c_at}
use Rattle.table.specs.WellFormed.{Subtree, WellFormed}
use Rattle.table.specs.Nodes.{node_at}
use Rattle.table.specs.declared.Node.{Node}
use Rattle.table.specs.declared.Node.TheVariants.{Constant, Local, Arithmetic, Choose, Let, Call, Both, Unknown}
use Rattle.arithmetic.specs.declared.Failure.{Failure}
use Rattle.arithmetic.specs.Operate.{computed, number_of}
use Rattle.frames.specs.Frames.{locals_word, frame_kind, frame_function, frame_node, frame_count, frame_value, frame_place_at, frame_right, pushed, marked, loaded, appended}
use Rattle.moves.specs.declared.Control.{Control}
use Rattle.moves.specs.declared.Control.TheVariants.{Eval, Ret}
use Rattle.moves.specs.declared.Registers.{Registers}
use Rattle.moves.specs.declared.Plan.{Plan}
use Rattle.frames.specs.declared.Seat.{Seat}
use Rattle.moves.specs.declared.Stopped.{Stopped}
use Rattle.moves.specs.declared.Step.{Step}
use Rattle.moves.specs.declared.Step.TheVariants.{Go, Value, Halt}
use Rattle.language.specs.Language.{language}
use Rattle.moves.specs.Layout.{stack_of, control_of, run_counts_of, state_of, result_of, ticked, restarted, risen, oldest_with, halted}

-- a subtree of function f's body stands at p, with k locals bound: what the machine knows of a node
pub record Stands (w : List ℕ) (f p k : ℕ) : Type 0 where
  pub function : f < functions w
  pub few : k ≤ 16
  pub level : ℕ
  pub after : ℕ
  pub tree : Subtree w (body_at w f) level p k after

-- the tag of a frame's node, by its kind
abbrev pub tag_of : ℕ → ℕ
tag_of kind = get_or (2 ∷ 2 ∷ 3 ∷ 4 ∷ 5 ∷ []) kind 6

-- a frame fits the table: its node stands there and is of its kind, and a call awaits one more argument
pub record Fitting (w : List ℕ) (kind f p k n : ℕ) : Type 0 where
  pub stands : Stands w f p k
  pub tag : tag_at w (start_of w f) p ≡ tag_of kind
  pub awaits : kind ≡ 4 → n < arity_at w (a_at w (start_of w f) p)

abbrev pub FittingAt : List ℕ → List ℕ → ℕ → Type 0
FittingAt w ws b = Fitting w (frame_kind ws b) (frame_function ws b) (frame_node ws b) (frame_count ws b) (frame_value ws b)

unfoldable pub Held : List ℕ → List ℕ → ℕ → Type 0
Held w ws zero = Unit {0}
Held w ws (suc d) = FittingAt w ws (32 * d) × Held w ws d

unfoldable pub Controlled : List ℕ → Control → Type 0
Controlled w (Eval seat) = Stands w seat.function seat.node seat.count
Controlled w (Ret v) = Unit {0}

-- THE OLDEST PLAIN FORK that awaits its left (kind 5): none lies below `oldest`; at `oldest` there is one, or it is 4096 and there is none;
-- every promoted frame (kind 7 and above) lies below it
pub record Oldest (ws : List ℕ) (d o : ℕ) : Type 0 where
  pub below : (j : ℕ) → j < d → j < o → frame_kind ws (32 * j) ≡ 5 → ⊥
  pub is : o < d → frame_kind ws (32 * o) ≡ 5
  pub none : d ≤ o → o ≡ 4096
  pub past : (j : ℕ) → j < d → 7 ≤ frame_kind ws (32 * j) → j < o

-- what each move leaves true; `birth`: a fork is promoted at its birth
pub record Kept (w ws ls : List ℕ) (birth : Bool) (c : Control) (d o : ℕ) : Type 0 where
  pub table : WellFormed w
  pub sixteen : length ls ≡ 16
  pub room : 32 * d ≤ length ws
  pub held : Held w ws d
  pub control : Controlled w c
  pub oldest : Oldest ws d o
  pub born : birth ≡ true → o ≡ 4096

-- the ranges of the settings, which keep every count small
pub record Limits (ws : List ℕ) (plan : Plan) : Type 0 where
  pub fuel : plan.fuel.0 ≤ 100000000
  pub tau : plan.tau ≤ 10000
  pub frames : length ws / 32 ≤ 4096

-- with what the theory keeps true of every state
pub record Ready (w ws ls : List ℕ) (plan : Plan) (s : Registers) : Type 0 where
  pub kept : Kept w ws ls plan.birth s.control s.depth s.oldest
  pub limits : Limits ws plan
  pub bounded : Bounded plan.tau (language w) plan.fuel.0 (length ws / 32) (control_of s.control ls) (stack_of ws s.depth) s.credits.0 s.span.0 (run_counts_of s)

abbrev pub Paid : Plan → Registers → Type 0
Paid plan s = s.transitions < plan.fuel.0

unfoldable pub KeptBy : List ℕ → List ℕ → List ℕ → Bool → Step → Type 0
KeptBy w ws ls birth (Go s) = Kept w ws ls birth s.control s.depth s.oldest
KeptBy w ws ls birth (Value v) = Unit {0}
KeptBy w ws ls birth (Halt h) = Unit {0}

-- the places that forks keep (document 02, P1) are as they were, in every frame: no move looks at them or writes them
abbrev pub Spared : List ℕ → List ℕ → Type 0
Spared ws ws' = (j : ℕ) → (frame_place_at ws' (32 * j) ≡ frame_place_at ws (32 * j)) × (frame_right ws' (32 * j) ≡ frame_right ws (32 * j))

-- WHAT A MOVE TELLS: the flat machine's move of the state that the words held is what they hold now
pub record Stepped (w ws ls : List ℕ) (plan : Plan) (s : Registers) (ws' ls' : List ℕ) (r : Step) : Type 0 where
  pub same : move (spans plan.tau) (language w) plan.fuel.0 (length ws / 32) plan.birth (state_of w plan.tau ws ls s) ≡ result_of w plan.tau ws' ls' s r
  pub kept : KeptBy w ws' ls' plan.birth r
  pub spared : Spared ws ws'

-- where a move goes on, it is by one transition of the same machine: credits, span and transitions are one more, and the oldest fork is kept
unfoldable pub Ticks : Registers → Step → Type 0
Ticks s (Go next) =
    (next.credits.0 ≡ s.credits.0 + 1) × (next.span.0 ≡ s.span.0 + 1) × (next.transitions ≡ s.transitions + 1) × (next.oldest ≡ s.oldest)
Ticks s (Value v) = Unit {0}
Ticks s (Halt h) = Unit {0}

-- it goes on by a machine that starts afresh, and the oldest fork is kept
unfoldable pub Restarts : Registers → Step → Type 0
Restarts s (Go next) = next.oldest ≡ s.oldest
Restarts s (Value v) = ⊥
Restarts s (Halt h) = ⊥

-- and with the promotion that may be due
pub record Advanced (w ws ls : List ℕ) (plan : Plan) (s : Registers) (ws' ls' : List ℕ) (r : Step) : Type 0 where
  pub same : step_by (spans plan.tau) (language w) plan.fuel.0 (length ws / 32) plan.birth plan.period (state_of w plan.tau ws ls s) ≡ result_of w plan.tau ws' ls' s r
  pub kept : KeptBy w ws' ls' plan.birth r
  pub spared : Spared ws ws'

-- a value returns to the frame at `top`, of a kind
pub record Returns (w ws ls : List ℕ) (plan : Plan) (s : Registers) (v top kind : ℕ) : Type 0 where
  pub ready : Ready w ws ls plan s
  pub is : s.control ≡ Ret v
  pub depth : s.depth ≡ top + 1
  pub of_kind : frame_kind ws (32 * top) ≡ kind

-- a frame for a node can be written, and the counts can rise
pub record Framed (ws ls : List ℕ) (s : Registers) (seat : Seat) : Type 0 where
  pub room : 32 * s.depth ≤ length ws
  pub frames : length ws / 32 ≤ 4096
  pub sixteen : length ls ≡ 16
  pub few : seat.count ≤ 16
  pub node : seat.node < 4000
  pub credits : s.credits.0 < 2 ^ 60
  pub span : s.span.0 < 2 ^ 60
  pub transitions : s.transitions < 2 ^ 60
  pub forks : s.forks < 2 ^ 60

-- a node's first child
abbrev pub first_at : Seat → Seat
first_at seat = record { function = seat.function; node = seat.node + 1; count = seat.count }

-- a transition that opens no frame: fuel is looked for
abbrev pub transited : Plan → Registers → Seat → Control → Step
transited plan s seat c = cond (ltb s.transitions plan.fuel.0) (Go (ticked s c s.depth s.oldest)) (halted 20 seat.function seat.node)

-- one that opens a frame: fuel, then a free frame
pub data Opened (ws ws' ls : List ℕ) (plan : Plan) (s : Registers) (seat : Seat) (kind oldest : ℕ) (r : Step) : Type 0 where
  dry : plan.fuel.0 ≤ s.transitions → ws' ≡ ws → r ≡ halted 20 seat.function seat.node → Opened ws ws' ls plan s seat kind oldest r
  full : s.transitions < plan.fuel.0 → length ws / 32 ≤ s.depth → ws' ≡ ws → r ≡ halted 21 seat.function seat.node → Opened ws ws' ls plan s seat kind oldest r
  opens : s.transitions < plan.fuel.0 → s.depth < length ws / 32 → ws' ≡ pushed ws (32 * s.depth) kind seat.function seat.node seat.count ls 0
      → r ≡ Go (ticked (risen s) (Eval (first_at seat)) (s.depth + 1) oldest) → Opened ws ws' ls plan s seat kind oldest r

-- a fork that is promoted at its birth: a free frame
pub data Forked (ws ws' ls : List ℕ) (s : Registers) (seat : Seat) (r : Step) : Type 0 where
  full : length ws / 32 ≤ s.depth → ws' ≡ ws → r ≡ halted 21 seat.function seat.node → Forked ws ws' ls s seat r
  forks : s.depth < length ws / 32 → ws' ≡ pushed ws (32 * s.depth) 7 seat.function seat.node seat.count ls s.span.0
      → r ≡ Go (restarted (risen s) (Eval (first_at seat)) (s.depth + 1) s.oldest 0 (s.forks + 1)) → Forked ws ws' ls s seat r

pub data OpenedBoth (ws ws' ls : List ℕ) (plan : Plan) (s : Registers) (seat : Seat) (r : Step) : Type 0 where
  born : plan.birth ≡ true → Forked ws ws' ls s seat r → OpenedBoth ws ws' ls plan s seat r
  plain : plan.birth ≡ false → Opened ws ws' ls plan s seat 5 (oldest_with s.oldest s.depth) r → OpenedBoth ws ws' ls plan s seat r

-- the frame at word b with its node in the table
pub record Sitting (w ws ls : List ℕ) (b : ℕ) : Type 0 where
  pub table : WellFormed w
  pub room : b + 32 ≤ length ws
  pub sixteen : length ls ≡ 16
  pub stands : Stands w (frame_function ws b) (frame_node ws b) (frame_count ws b)

-- the locals that a frame saves, brought back
abbrev pub locals_at : List ℕ → List ℕ → ℕ → List ℕ
locals_at ls ws b = loaded ls ws (locals_word b) (frame_count ws b)

-- the second or the third child of a frame's node, with the frame's locals
pub record Child (w ws ls : List ℕ) (b : ℕ) (last : Bool) (ls' : List ℕ) (r : Seat) : Type 0 where
  pub seat : r ≡ record {
    function = frame_function ws b;
    node = cond last (c_at w (start_of w (frame_function ws b)) (frame_node ws b)) (b_at w (start_of w (frame_function ws b)) (frame_node ws b));
    count = frame_count ws b;
  }
  pub locals : ls' ≡ locals_at ls ws b

-- the body of a fork's node: its third child, with the left's value and the right's added
pub record Concluded (w ws ls : List ℕ) (b v : ℕ) (ls' : List ℕ) (r : Control) : Type 0 where
  pub is : r ≡ Eval (record {
    function = frame_function ws b;
    node = c_at w (start_of w (frame_function ws b)) (frame_node ws b);
    count = frame_count ws b + 2;
  })
  pub locals : ls' ≡ appended (appended (locals_at ls ws b) (frame_count ws b) (frame_value ws b)) (frame_count ws b + 1) v

-- the next plain fork from a place on, upward
pub record Found (ws : List ℕ) (from d r : ℕ) : Type 0 where
  pub after : from ≤ r
  pub below : (j : ℕ) → from ≤ j → j < d → j < r → frame_kind ws (32 * j) ≡ 5 → ⊥
  pub is : r < d → frame_kind ws (32 * r) ≡ 5
  pub none : d ≤ r → r ≡ 4096

-- what a promotion of the fork at `oldest` leaves
pub record Promoted (ws : List ℕ) (s : Registers) (ws' : List ℕ) (r : Registers) : Type 0 where
  pub words : ws' ≡ marked ws (32 * s.oldest) 7 s.span.0
  pub registers : r ≡ restarted s s.control s.depth r.oldest 0 (s.forks + 1)
  pub next : Found ws' (s.oldest + 1) s.depth r.oldest

-- the function that a call's frame calls
abbrev pub called_at : List ℕ → List ℕ → ℕ → ℕ
called_at w ws b = a_at w (start_of w (frame_function ws b)) (frame_node ws b)

-- an arithmetic frame, and what its operation gives
pub record Operand (w ws : List ℕ) (b : ℕ) : Type 0 where
  pub table : WellFormed w
  pub room : b + 32 ≤ length ws
  pub stands : Stands w (frame_function ws b) (frame_node ws b) (frame_count ws b)
  pub tag : tag_at w (start_of w (frame_function ws b)) (frame_node ws b) ≡ 2

-- a stop by its number, function and node
abbrev pub stopped_at : ℕ → ℕ → ℕ → Stopped
stopped_at i f p = record { number = i; function = f; node = p }

-- what an operation gives, its stop with function and node
unfoldable pub placed_result : ℕ → ℕ → Result ℕ Failure → Result ℕ Stopped
placed_result f p (Ok r) = Ok r
placed_result f p (Err e) = Err (stopped_at (number_of e) f p)

unfoldable pub operation_of : ℕ → ℕ → ℕ → ℕ → Node → Result ℕ Stopped
operation_of f p x y (Constant v) = Err (stopped_at 4 f p)
operation_of f p x y (Local slot) = Err (stopped_at 4 f p)
operation_of f p x y (Arithmetic o b) = placed_result f p (computed o x y)
operation_of f p x y (Choose b c) = Err (stopped_at 4 f p)
operation_of f p x y (Let b) = Err (stopped_at 4 f p)
operation_of f p x y (Call g b c) = Err (stopped_at 4 f p)
operation_of f p x y (Both b c) = Err (stopped_at 4 f p)
operation_of f p x y Unknown = Err (stopped_at 4 f p)

abbrev pub operation : List ℕ → List ℕ → ℕ → ℕ → Result ℕ Stopped
operation w ws b v = operation_of (frame_function ws b) (frame_node ws b) (frame_value ws b) v (node_at w (start_of w (frame_function ws b)) (frame_node ws b))

-- after an operation: its result is returned by a transition, or its stop ends the run
pub data Resumed (s : Registers) (top : ℕ) (computed : Result ℕ Stopped) (r : Step) : Type 0 where
  resumes : (v : ℕ) → computed ≡ Ok v → r ≡ Go (ticked s (Ret v) top s.oldest) → Resumed s top computed r
  stays : (h : Stopped) → computed ≡ Err h → r ≡ Halt h → Resumed s top computed r
