-- The job language of document 01 as a frame machine, over the words of an accepted table (01, "Transitions").
use Rattle.std.specs.Prelude.{ℕ, zero, suc, ◌+◌, cond, List, [], ◌∷◌, ◌++◌, length, get_or, ltb, eqb, Result, Ok, Err}
use Rattle.schedule.specs.FrameMachine.{Place, evaluate, return, Next, go_on, open_frame, open_fork, stuck, Arrival, close, keep, fail, FrameMachine}
use Rattle.table.specs.declared.Node.{Node}
use Rattle.table.specs.declared.Node.TheVariants.{Constant, Local, Arithmetic, Choose, Let, Call, Both, Unknown}
use Rattle.table.specs.Words.{arity_at, start_of, a_at, b_at, c_at}
use Rattle.table.specs.Nodes.{node_at}
use Rattle.arithmetic.specs.declared.Failure.{Failure}
use Rattle.arithmetic.specs.Operate.{computed, number_of}

-- "A state evaluates a node with its locals": a node of a function, with the locals that are bound there, oldest first
pub record Code : Type 0 where
  pub function : ℕ
  pub node : ℕ
  pub locals : List ℕ

-- the frames that are no fork's: an arithmetic awaiting its left operand, or its right one with the left's value; a choose awaiting its
-- condition; a let awaiting its first; a call with the arguments so far
pub data Frame : Type 0 where
  left_operand : Code → Frame
  right_operand : Code → ℕ → Frame
  condition : Code → Frame
  binding : Code → Frame
  argument : Code → List ℕ → Frame

abbrev pub place : Code → Place
place c = record { function = c.function; node = c.node }

abbrev pub frame_place : Frame → Place
frame_place (left_operand c) = place c
frame_place (right_operand c x) = place c
frame_place (condition c) = place c
frame_place (binding c) = place c
frame_place (argument c vs) = place c

-- another node of the same body; the body of a called function "with just the arguments"
abbrev pub at : Code → ℕ → List ℕ → Code
at c p ls = record { function = c.function; node = p; locals = ls }

abbrev pub entered : ℕ → List ℕ → Code
entered f vs = record { function = f; node = 0; locals = vs }

-- "A node's first child is the next node"
abbrev pub first : Code → Code
first c = at c (c.node + 1) c.locals

-- what arithmetic gives, or 01's stops 22, 23 and 24; a frame of another node than an arithmetic is in no run of an accepted table
unfoldable pub result : Result ℕ Failure → Arrival Code Frame
result (Ok r) = close (return r)
result (Err e) = fail (number_of e)

unfoldable pub operated : Node → ℕ → ℕ → Arrival Code Frame
operated (Constant v) x y = fail 4
operated (Local slot) x y = fail 4
operated (Arithmetic o b) x y = result (computed o x y)
operated (Choose b c) x y = fail 4
operated (Let b) x y = fail 4
operated (Call f b c) x y = fail 4
operated (Both b c) x y = fail 4
operated Unknown x y = fail 4

module _ (w : List ℕ) where
  -- b is the position of the second child and c that of the third; a call's a is the function
  abbrev pub second : Code → ℕ
  second c = b_at w (start_of w c.function) c.node

  abbrev pub third : Code → ℕ
  third c = c_at w (start_of w c.function) c.node

  abbrev pub called : Code → ℕ
  called c = a_at w (start_of w c.function) c.node

  -- "A call of arity 0: evaluate the called body."
  unfoldable pub call : Code → ℕ → ℕ → Next Code Frame Code
  call c f zero = go_on (evaluate (entered f []))
  call c f (suc n) = open_frame (argument c []) (first c)

  -- "Constant or local: return the value." "Arithmetic, choose, let, both, or a call with arguments: open one frame and evaluate the
  -- first child." An unknown node is in no accepted table.
  unfoldable pub next : Code → Node → Next Code Frame Code
  next c (Constant v) = go_on (return v)
  next c (Local slot) = go_on (return (get_or c.locals slot 0))
  next c (Arithmetic o b) = open_frame (left_operand c) (first c)
  next c (Choose b d) = open_frame (condition c) (first c)
  next c (Let b) = open_frame (binding c) (first c)
  next c (Call f b d) = call c f (arity_at w f)
  next c (Both b d) = open_fork c (first c)
  next c Unknown = stuck 4

  -- "call (evaluate the next argument, or after the last close the frame and evaluate the called body with just the arguments)"
  unfoldable pub gathered : Code → List ℕ → Arrival Code Frame
  gathered c vs = cond (ltb (length vs) (arity_at w (called c)))
      (keep (argument c vs) (at c (cond (ltb 1 (length vs)) (third c) (second c)) c.locals))
      (close (evaluate (entered (called c) vs)))

  -- "A value returns to: an arithmetic frame awaiting its left operand (evaluate the right one); one awaiting its right (close it, return
  -- the result); choose (close, evaluate the chosen branch)", the second where it is not zero; "let (close, evaluate the second child
  -- with the value added)"
  unfoldable pub arrive : Frame → ℕ → Arrival Code Frame
  arrive (left_operand c) v = keep (right_operand c v) (at c (second c) c.locals)
  arrive (right_operand c x) v = operated (node_at w (start_of w c.function) c.node) x v
  arrive (condition c) v = close (evaluate (at c (cond (eqb v 0) (third c) (second c)) c.locals))
  arrive (binding c) v = close (evaluate (at c (second c) (c.locals ++ (v ∷ []))))
  arrive (argument c vs) v = gathered c (vs ++ (v ∷ []))

  -- "both awaiting left (evaluate right with the fork's own locals); both awaiting right (close, evaluate the body)", "body with two
  -- more locals (left's value, then right's)"
  abbrev pub language : FrameMachine
  language = record {
    Code = Code;
    Frame = Frame;
    Fork = Code;
    next = λ c. next c (node_at w (start_of w c.function) c.node);
    arrive = arrive;
    right = λ c. at c (second c) c.locals;
    body = λ c x v. at c (third c) (c.locals ++ (x ∷ v ∷ []));
    code_place = place;
    frame_place = frame_place;
    fork_place = place;
  }
