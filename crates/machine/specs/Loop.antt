-- What the functions of the loop tell: strides until there is no more of them, and then a free move, with the words of the graph marked before it.
use Rattle.std.specs.Prelude.{ℕ, ◌/◌, ◌<◌, ◌≡◌, List, length}
use Rattle.moves.specs.declared.Plan.{Plan}
use Rattle.compact.specs.declared.Compact.{Compact}
use Rattle.compact.specs.declared.Event.{Event}
use Rattle.compact.specs.declared.Event.TheVariants as event
use Rattle.compact.specs.declared.Pause.{Pause}
use Rattle.compact.specs.declared.Pause.TheVariants.{Limit, Promotion, Fork, Turn, Join}
use Rattle.compact.specs.declared.Progress.{Progress}
use Rattle.compact.specs.declared.Progress.TheVariants.{Go, Value, Halt, Free, Paused}
use Rattle.compact.specs.Compact.{full}
use Rattle.strides.specs.Strides.{Starts, Strides, Frees, Passes, Ends}
use Rattle.marks.specs.Marks.{Markable, Marked}
use Rattle.machine.specs.declared.Reached.{Reached}
use Rattle.machine.specs.declared.Moved.{Moved}

-- STRIDES, one after the other, or none
pub data Far (w : List ℕ) (plan : Plan) (ws ls : List ℕ) (g : Compact) : List ℕ → List ℕ → Compact → Type 0 where
  here : Far w plan ws ls g ws ls g
  more : {ws₁ ls₁ : List ℕ} {h : Compact} {ws' ls' : List ℕ} {next : Compact} → Far w plan ws ls g ws₁ ls₁ h → Strides w ws₁ ls₁ plan h ws' ls' (Go next)
      → length ws' ≡ length ws₁ → Far w plan ws ls g ws' ls' next

-- A STEP THAT GOES NO FURTHER by transitions
abbrev pub Stays : Progress → Type 0
Stays r = (next : Compact) → r ≡ Go next → ⊥

-- A STEP THAT ENDS THE RUN, in a value or a stop
abbrev pub Final : Progress → Type 0
Final (Value v) = Unit {0}
Final (Halt h) = Unit {0}
Final (Go next) = ⊥
Final (Free next event) = ⊥
Final (Paused pause) = ⊥

-- WHERE STRIDES COME TO NO MORE: the last call of a stride ended the run, or paused
pub record Onward (w ws ls : List ℕ) (plan : Plan) (from : Compact) (ws' ls' : List ℕ) (r : Reached) : Type 0 where
  pub words : List ℕ
  pub locals : List ℕ
  pub far : Far w plan ws ls from words locals r.registers
  pub starts : Starts w words locals plan r.registers
  pub last : Passes w words locals plan r.registers ws' ls' r.step
  pub stays : Stays r.step

-- WHERE THE LIMIT IS REACHED it is looked at what comes then; else the step is as it was
pub data Resolved (w ws ls : List ℕ) (plan : Plan) (g : Compact) (before r : Progress) : Type 0 where
  as_before : r ≡ before → (before ≡ Paused Limit → ⊥) → Resolved w ws ls plan g before r
  at_limit : before ≡ Paused Limit → Ends w ws ls plan g r → Resolved w ws ls plan g before r

-- the event of the free move that a pause awaits; the limit awaits none, and what is told of it here is never asked
unfoldable pub event_of : Compact → Pause → Event
event_of g Limit = event.Fork 0
event_of g Promotion = event.Fork g.oldest
event_of g (Fork seat) = event.Fork g.depth
event_of g (Turn v top) = event.Turn top
event_of g (Join v top) = event.Join top

-- a frame is free for a fork that is promoted at its birth
unfoldable pub Fits : List ℕ → Compact → Pause → Type 0
Fits ws g Limit = Unit {0}
Fits ws g Promotion = Unit {0}
Fits ws g (Fork seat) = g.depth < length ws / 32
Fits ws g (Turn v top) = Unit {0}
Fits ws g (Join v top) = Unit {0}

-- what a free move's words ask for, beside a buffer that has some
abbrev pub MarkableAt : (ws graph : List ℕ) (g : Compact) (n : ℕ) → Event → Type 0
MarkableAt ws graph g n event = 0 < length graph → Markable ws n (full g).credits.0 event

-- A FREE MOVE: the words of its graph are marked, and then it is made; or there is no frame for it, and the run ends
pub data Moves (w ws ls graph : List ℕ) (plan : Plan) (g : Compact) (n : ℕ) (event : Event) (ws' ls' graph' : List ℕ) (r : Moved) : Type 0 where
  frees : (ws₁ : List ℕ) → Marked ws graph n (full g).credits.0 event ws₁ graph' r.words → Frees w ws₁ ls plan g event ws' ls' r.step
      → Moves w ws ls graph plan g n event ws' ls' graph' r
  stops : graph' ≡ graph → r.words ≡ n → Strides w ws ls plan g ws' ls' r.step → Stays r.step → Moves w ws ls graph plan g n event ws' ls' graph' r
