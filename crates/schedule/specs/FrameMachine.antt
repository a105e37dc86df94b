-- The abstract frame machine: a language as the schedules see it (01, "Transitions"; 004, Figures 2 and 3). They know its frames and forks, and
-- nothing of tables, nodes or locals, so that every theorem holds for every language of this kind. The job language is one such record.
use Rattle.std.specs.Prelude.{ℕ}

-- Where a stop is told. 01: "The answer is the number, function, node and transitions made."
pub record Place : Type 0 where
  pub function : ℕ
  pub node : ℕ

-- 01: "A state evaluates a node with its locals, or returns a value to the top frame."
pub data Control (Code : Type 0) : Type 0 where
  evaluate : Code → Control Code
  return : ℕ → Control Code

-- What one transition makes of a node: it goes on at once with a value or with other code, it opens an ordinary frame and evaluates the
-- first child, it is a "both" whose left branch is evaluated first, or it stops with a number of 01's list.
pub data Next (Code Frame Fork : Type 0) : Type 0 where
  go_on : Control Code → Next Code Frame Fork
  open_frame : Frame → Code → Next Code Frame Fork
  open_fork : Fork → Code → Next Code Frame Fork
  stuck : ℕ → Next Code Frame Fork

-- What one transition makes of a value that returns to an ordinary frame: it closes the frame and goes on, it keeps a frame in its place
-- and evaluates the next child, or it stops.
pub data Arrival (Code Frame : Type 0) : Type 0 where
  close : Control Code → Arrival Code Frame
  keep : Frame → Code → Arrival Code Frame
  fail : ℕ → Arrival Code Frame

-- `Code` is a node with its locals; `Fork` is what a "both" keeps until its join. 01: "both awaiting left (evaluate right with the fork's own
-- locals); both awaiting right (close, evaluate the body)", with left's value first.
pub record FrameMachine : Type 1 where
  pub Code : Type 0
  pub Frame : Type 0
  pub Fork : Type 0
  pub next : Code → Next Code Frame Fork
  pub arrive : Frame → ℕ → Arrival Code Frame
  pub right : Fork → Code
  pub body : Fork → ℕ → ℕ → Code
  pub code_place : Code → Place
  pub frame_place : Frame → Place
  pub fork_place : Fork → Place
