-- What a stride tells: it is one step of the definition, or several at once. And what the functions under it tell.
use Rattle.std.specs.Prelude.{ℕ, ◌+◌, ◌*◌, ◌/◌, ◌≤◌, ◌<◌, ◌≡◌, true, false, ◌&&◌, List, length, get_or, take, ltb, leb, Option, Some, None, MatchOption}
use Rattle.schedule.specs.FrameMachine.{return}
use Rattle.schedule.specs.Algebra.{spans}
use Rattle.schedule.specs.Machine.{ongoing}
use Rattle.schedule.specs.Runs.{run}
use Rattle.schedule.specs.Bounds.{step_by}
use Rattle.schedule.specs.Stretch.{Leads, Through}
use Rattle.table.specs.Words.{arity_at, start_of, tag_at}
use Rattle.table.specs.WellFormed.{WellFormed}
use Rattle.frames.specs.Frames.{frame_kind, pushed, turned}
use Rattle.language.specs.Language.{Code, left_operand, language}
use Rattle.moves.specs.declared.Control.{Control}
use Rattle.moves.specs.declared.Control.TheVariants.{Eval, Ret}
use Rattle.moves.specs.declared.kind.Kind.{Kind}
use Rattle.moves.specs.declared.kind.Kind.TheVariants.{LeftOperand, Condition, Binding, Argument}
use Rattle.moves.specs.declared.Registers.{Registers}
use Rattle.moves.specs.declared.Plan.{Plan}
use Rattle.frames.specs.declared.Seat.{Seat}
use Rattle.moves.specs.declared.Step.{Step}
use Rattle.moves.specs.declared.Step.TheVariants as step
use Rattle.moves.specs.Layout.{word_of, code_at, control_of, state_of}
use Rattle.moves.specs.Ready.{Stands, Controlled, Paid, Kept, Ready, Spared, Advanced, Opened}
use Rattle.compact.specs.declared.Compact.{Compact}
use Rattle.compact.specs.declared.Progress.{Progress}
use Rattle.compact.specs.declared.Event.{Event}
use Rattle.compact.specs.declared.Event.TheVariants.{Fork, Turn, Join}
use Rattle.compact.specs.declared.Progress.TheVariants.{Go, Free, Paused}
use Rattle.compact.specs.declared.Pause.{Pause}
use Rattle.compact.specs.declared.Pause.TheVariants as pause
use Rattle.compact.specs.Compact.{full, step_of, Paced, PacedBy, Transits, later_of, Small, Roomy}
use Rattle.operands.specs.Operands.{frames_of}

-- SEVERAL STEPS of the definition, from the state that the words held to the one that they hold
pub record Many (w ws ls : List ℕ) (plan : Plan) (s : Registers) (ws' ls' : List ℕ) (next : Registers) : Type 0 where
  pub more : ℕ
  pub same : run (step_by (spans plan.tau) (language w) plan.fuel.0 (length ws / 32) plan.birth plan.period) (more + 1) (state_of w plan.tau ws ls s) ≡ ongoing (state_of w plan.tau ws' ls' next)
  pub kept : Kept w ws' ls' plan.birth next.control next.depth next.oldest
  pub spared : Spared ws ws'

-- A STRIDE: one step, or several, each of which is a transition
pub data Strode (w ws ls : List ℕ) (plan : Plan) (s : Registers) (ws' ls' : List ℕ) (r : Step) : Type 0 where
  one : Advanced w ws ls plan s ws' ls' r → Strode w ws ls plan s ws' ls' r
  many : (next : Registers) → r ≡ step.Go next → (m : Many w ws ls plan s ws' ls' next) → next.transitions ≡ s.transitions + (m.more + 1)
      → Strode w ws ls plan s ws' ls' r

-- what a stride starts from
pub record Starts (w ws ls : List ℕ) (plan : Plan) (g : Compact) : Type 0 where
  pub ready : Ready w ws ls plan (full g)
  pub paced : Paced plan g

-- with no promotion due
pub record Calm (w ws ls : List ℕ) (plan : Plan) (g : Compact) : Type 0 where
  pub starts : Starts w ws ls plan g
  pub not_due : (leb plan.period (full g).credits.0 && ltb g.oldest g.depth) ≡ false

-- a value returns to the frame `top` of a kind
pub record Returning (w ws ls : List ℕ) (plan : Plan) (g : Compact) (v top kind : ℕ) : Type 0 where
  pub calm : Calm w ws ls plan g
  pub is : g.control ≡ Ret v
  pub depth : g.depth ≡ top + 1
  pub of_kind : frame_kind ws (32 * top) ≡ kind

-- WHICH FREE MOVE is made, by its event. A fork begins where a promotion was due, in the oldest plain fork, or in a new frame, promoted at its
-- birth; its left graph ends where a value arrives at a promoted frame that awaits its left, and both end where one awaits its right.
pub data Forks (w ws ls : List ℕ) (plan : Plan) (g next : Compact) (at : ℕ) : Type 0 where
  promoted : (leb plan.period (full g).credits.0 && ltb g.oldest g.depth) ≡ true → at ≡ g.oldest → Forks w ws ls plan g next at
  born : Calm w ws ls plan g → plan.birth ≡ true → next.forks ≡ g.forks + 1 → at ≡ g.depth → Forks w ws ls plan g next at

unfoldable pub Occurs : (w ws ls : List ℕ) (plan : Plan) (g next : Compact) → Event → Type 0
Occurs w ws ls plan g next (Fork at) = Forks w ws ls plan g next at
Occurs w ws ls plan g next (Turn at) = (v : ℕ) × Returning w ws ls plan g v at 7
Occurs w ws ls plan g next (Join at) = (v : ℕ) × (kind : ℕ) × Returning w ws ls plan g v at kind × (8 ≤ kind)

-- A STRIDE by compact registers: where it goes on, transitions were made
pub record Strides (w ws ls : List ℕ) (plan : Plan) (g : Compact) (ws' ls' : List ℕ) (r : Progress) : Type 0 where
  pub strode : Strode w ws ls plan (full g) ws' ls' (step_of r)
  pub paced : PacedBy plan r
  pub transits : Transits g r

-- A FREE MOVE by compact registers: it is one step, and goes on
pub record Frees (w ws ls : List ℕ) (plan : Plan) (g : Compact) (event : Event) (ws' ls' : List ℕ) (r : Progress) : Type 0 where
  pub next : Compact
  pub is : r ≡ Free next event
  pub advanced : Advanced w ws ls plan (full g) ws' ls' (step.Go (full next))
  pub paced : Paced plan next
  pub occurs : Occurs w ws ls plan g next event

-- WHAT A PAUSE AWAITS: the limit is reached; a promotion is due; a fork that is promoted at its birth is evaluated; a value arrives at a promoted fork
unfoldable pub Awaits : (w ws ls : List ℕ) (plan : Plan) (g : Compact) → Pause → Type 0
Awaits w ws ls plan g pause.Limit = g.limit ≤ g.transitions
Awaits w ws ls plan g pause.Promotion = (leb plan.period (full g).credits.0 && ltb g.oldest g.depth) ≡ true
Awaits w ws ls plan g (pause.Fork seat) =
    Calm w ws ls plan g × (g.control ≡ Eval seat) × (tag_at w (start_of w seat.function) seat.node ≡ 6) × (plan.birth ≡ true)
Awaits w ws ls plan g (pause.Turn v top) = Returning w ws ls plan g v top 7
Awaits w ws ls plan g (pause.Join v top) = Returning w ws ls plan g v top (frame_kind ws (32 * top)) × (8 ≤ frame_kind ws (32 * top))

-- A STRIDE OR A PAUSE, which changes nothing
pub data Passes (w ws ls : List ℕ) (plan : Plan) (g : Compact) (ws' ls' : List ℕ) (r : Progress) : Type 0 where
  made : Strides w ws ls plan g ws' ls' r → Passes w ws ls plan g ws' ls' r
  pauses : (p : Pause) → r ≡ Paused p → ws' ≡ ws → ls' ≡ ls → Awaits w ws ls plan g p → Passes w ws ls plan g ws' ls' r

-- and one that makes no transition: what comes at the limit
pub record Ends (w ws ls : List ℕ) (plan : Plan) (g : Compact) (r : Progress) : Type 0 where
  pub passes : Passes w ws ls plan g ws ls r
  pub resolved : r ≡ Paused pause.Limit → ⊥
  pub stays : (next : Compact) → r ≡ Go next → ⊥

-- A NODE that is evaluated, at the word `at` of the body that begins at `start`
pub record Sited (w ls : List ℕ) (g : Compact) (seat : Seat) (start at : ℕ) : Type 0 where
  pub table : WellFormed w
  pub stands : Stands w seat.function seat.node seat.count
  pub place : start ≡ start_of w seat.function
  pub word : at ≡ start + 4 * seat.node
  pub sixteen : length ls ≡ 16
  pub small : Small g

-- of a tag
pub record Tagged (w ls : List ℕ) (g : Compact) (seat : Seat) (start at tag : ℕ) : Type 0 where
  pub site : Sited w ls g seat start at
  pub is : get_or w at 0 ≡ tag

pub record Evaluating (w ws ls : List ℕ) (plan : Plan) (g : Compact) (seat : Seat) (start at tag : ℕ) : Type 0 where
  pub calm : Calm w ws ls plan g
  pub is : g.control ≡ Eval seat
  pub place : start ≡ start_of w seat.function
  pub word : at ≡ start + 4 * seat.node
  pub tagged : get_or w at 0 ≡ tag
  pub paid : Paid plan (full g)

abbrev pub code_of : Seat → ℕ → List ℕ → Code
code_of seat p ls = record { function = seat.function; node = p; locals = take seat.count ls }

-- WHAT A NODE LEADS TO, with no frame written
pub record Jump (w ls : List ℕ) (g : Compact) (seat : Seat) (ls' : List ℕ) (next : Compact) : Type 0 where
  pub to : Control
  pub more : ℕ
  pub most : ℕ
  pub is : next ≡ later_of g to g.depth (more + 1)
  pub leads : Leads (language w) (code_of seat seat.node ls) (control_of to ls') (more + 1) most
  pub room : Roomy g (more + 1) most
  pub stands : Controlled w to
  pub sixteen : length ls' ≡ 16

-- or nothing comes of it
abbrev pub Jumps : (w ls : List ℕ) (g : Compact) (seat : Seat) (ls' : List ℕ) → Option Compact → Type 0
Jumps w ls g seat ls' (Some next) = Jump w ls g seat ls' next
Jumps w ls g seat ls' None = ls' ≡ ls

-- AN ARITHMETIC'S FRAME WITH ITS LEFT OPERAND x, which has its value by k transitions and so many frames: the right operand at q is next
pub record Half (w ws ls : List ℕ) (g : Compact) (seat : Seat) (ws' : List ℕ) (next : Compact) : Type 0 where
  pub left : ℕ
  pub cost : ℕ
  pub most : ℕ
  pub right : ℕ
  pub is : next ≡ later_of g (Eval (record { function = seat.function; node = right; count = seat.count })) (g.depth + 1) (cost + 2)
  pub first : Leads (language w) (code_of seat (seat.node + 1) ls) (return left) cost most
  pub second : right ≡ get_or w (start_of w seat.function + 4 * seat.node + 2) 0
  pub room : Roomy g (cost + 2) (most + 1)
  pub words : ws' ≡ turned (pushed ws (32 * g.depth) 1 seat.function seat.node seat.count ls 0) (32 * g.depth) 1 left 0

-- an arithmetic whose left operand is simple: both operands, or its frame with the left one
pub data Paired (w ws ls : List ℕ) (g : Compact) (seat : Seat) (ws' : List ℕ) (r : Option Compact) : Type 0 where
  whole : (next : Compact) → r ≡ Some next → ws' ≡ ws → Jump w ls g seat ls next → Paired w ws ls g seat ws' r
  half : (next : Compact) → r ≡ Some next → Half w ws ls g seat ws' next → Paired w ws ls g seat ws' r
  neither : r ≡ None → ws' ≡ ws → Paired w ws ls g seat ws' r

-- the body of a function, with so many arguments
abbrev pub body_of : ℕ → ℕ → Seat
body_of f k = record { function = f; node = 0; count = k }

-- WHAT A CALL COMES TO, of the function in the word after `at`: with no arguments it is entered; with some that are simple it jumps
pub data Calls (w ls : List ℕ) (g : Compact) (seat : Seat) (at : ℕ) (ls' : List ℕ) (r : Option Compact) : Type 0 where
  alone : arity_at w (get_or w (at + 1) 0) ≡ 0 → ls' ≡ ls → r ≡ Some (later_of g (Eval (body_of (get_or w (at + 1) 0) 0)) g.depth 1) → Calls w ls g seat at ls' r
  given : 0 < arity_at w (get_or w (at + 1) 0) → Jumps w ls g seat ls' r → Calls w ls g seat at ls' r

-- THE KIND OF THE FRAME that the node at word `at` opens for its first child: an arithmetic, a choose, a let, or a call with arguments
pub data Opens (w : List ℕ) (at : ℕ) (kind : Kind) : Type 0 where
  operand : get_or w at 0 ≡ 2 → kind ≡ LeftOperand → Opens w at kind
  condition : get_or w at 0 ≡ 3 → kind ≡ Condition → Opens w at kind
  binding : get_or w at 0 ≡ 4 → kind ≡ Binding → Opens w at kind
  argument : get_or w at 0 ≡ 5 → 0 < arity_at w (get_or w (at + 1) 0) → kind ≡ Argument → Opens w at kind

-- A STRIDE, where it was made; else a step that opens a frame of this kind
abbrev pub OrOpened : (ws ls : List ℕ) (plan : Plan) (g : Compact) (seat : Seat) → Kind → Option Compact → List ℕ → Progress → Type 0
OrOpened ws ls plan g seat kind stride ws' r =
    MatchOption stride (Opened ws ws' ls plan (full g) seat (word_of kind) g.oldest (step_of r) × PacedBy plan r × Transits g r) (λ next. (r ≡ Go next) × (ws' ≡ ws))

-- its first child has the value x by k transitions
pub record Led (w ls : List ℕ) (seat : Seat) (x k : ℕ) : Type 0 where
  pub some : 0 < k
  pub few : k ≤ 5
  pub first : Leads (language w) (code_of seat (seat.node + 1) ls) (return x) k (frames_of k)

-- WHAT A VALUE LEADS TO at the arithmetic frame `top`, with the frame closed, or nothing comes of it
pub record Rebound (w ws : List ℕ) (g : Compact) (v top : ℕ) (next : Compact) : Type 0 where
  pub value : ℕ
  pub more : ℕ
  pub most : ℕ
  pub is : next ≡ later_of g (Ret value) top (more + 1)
  pub through : Through (language w) (left_operand (code_at ws (32 * top))) v (return value) (more + 1) most
  pub room : Roomy g (more + 1) most

abbrev pub Rebounds : (w ws : List ℕ) (g : Compact) (v top : ℕ) → Option Compact → Type 0
Rebounds w ws g v top (Some next) = Rebound w ws g v top next
Rebounds w ws g v top None = Unit {0}
