-- How the words of the workspace and the registers hold a state of the flat machine. Frame d begins at word b = 32 * d; what stands in it is
-- said in specs/Frames of crate `frames`.
use Rattle.std.specs.Prelude.{ℕ, zero, suc, ◌+◌, ◌*◌, max, cond, List, [], ◌∷◌, get_or, take, ltb, eqb}
use Rattle.schedule.specs.FrameMachine.{evaluate, return}
use Rattle.schedule.specs.FrameMachine.{Control as FlatControl}
use Rattle.schedule.specs.Algebra.{spans}
use Rattle.schedule.specs.Machine.{Slot, ordinary, plain_left, plain_right, promoted_left, promoted_right, value, stop, State, state, Result, ended, ongoing}
use Rattle.schedule.specs.Machine.{RunCounts}
use Rattle.frames.specs.Frames.{frame_kind, frame_function, frame_node, frame_value, frame_before, frame_left, frame_locals, frame_arguments}
use Rattle.moves.specs.declared.Control.{Control}
use Rattle.moves.specs.declared.Control.TheVariants.{Eval, Ret}
use Rattle.moves.specs.declared.kind.Kind.{Kind}
use Rattle.moves.specs.declared.kind.Kind.TheVariants.{LeftOperand, RightOperand, Condition, Binding, Argument, PlainLeft, PlainRight, PromotedLeft, PromotedRight}
use Rattle.moves.specs.declared.Registers.{Registers}
use Rattle.moves.specs.declared.Step.{Step}
use Rattle.moves.specs.declared.Step.TheVariants.{Go, Value, Halt}
use Rattle.language.specs.Language.{Code, Frame, left_operand, right_operand, condition, binding, argument, language}

abbrev pub code_at : List ℕ → ℕ → Code
code_at ws b = record { function = frame_function ws b; node = frame_node ws b; locals = frame_locals ws b }

-- a kind's word, and the kind that a word tells: any above 7 tells the last
abbrev pub word_of : Kind → ℕ
word_of LeftOperand = 0
word_of RightOperand = 1
word_of Condition = 2
word_of Binding = 3
word_of Argument = 4
word_of PlainLeft = 5
word_of PlainRight = 6
word_of PromotedLeft = 7
word_of PromotedRight = 8

abbrev pub kinds : List Kind
kinds = LeftOperand ∷ RightOperand ∷ Condition ∷ Binding ∷ Argument ∷ PlainLeft ∷ PlainRight ∷ PromotedLeft ∷ []

unfoldable pub kind_of : ℕ → Kind
kind_of word = get_or kinds word PromotedRight

-- the slots by kind, 0 to 7; any other kind is a promoted fork that awaits its right value
abbrev pub slots : Code → ℕ → List ℕ → ℕ → List (Slot ℕ Frame Code)
slots c v vs g =
    ordinary (left_operand c)
    ∷ ordinary (right_operand c v)
    ∷ ordinary (condition c)
    ∷ ordinary (binding c)
    ∷ ordinary (argument c vs)
    ∷ plain_left c
    ∷ plain_right c v
    ∷ promoted_left g c
    ∷ []

unfoldable pub slot_of : ℕ → Code → ℕ → List ℕ → ℕ → ℕ → Slot ℕ Frame Code
slot_of kind c v vs g l = get_or (slots c v vs g) kind (promoted_right g l c v)

abbrev pub slot_at : List ℕ → ℕ → Slot ℕ Frame Code
slot_at ws b = slot_of (frame_kind ws b) (code_at ws b) (frame_value ws b) (frame_arguments ws b) (frame_before ws b) (frame_left ws b)

-- the newest first
unfoldable pub stack_of : List ℕ → ℕ → List (Slot ℕ Frame Code)
stack_of ws zero = []
stack_of ws (suc d) = slot_at ws (32 * d) ∷ stack_of ws d

unfoldable pub control_of : Control → List ℕ → FlatControl Code
control_of (Eval seat) ls = evaluate (record { function = seat.function; node = seat.node; locals = take seat.count ls })
control_of (Ret v) ls = return v

abbrev pub run_counts_of : Registers → RunCounts
run_counts_of s = record { transitions = s.transitions; forks = s.forks; deepest = s.deepest }

abbrev pub state_of : (w : List ℕ) (τ : ℕ) → List ℕ → List ℕ → Registers → State (spans τ) (language w)
state_of w τ ws ls s = state (control_of s.control ls) (stack_of ws s.depth) s.credits.0 s.span.0 (run_counts_of s)

-- what a move answers
unfoldable pub result_of : (w : List ℕ) (τ : ℕ) → List ℕ → List ℕ → Registers → Step → Result (spans τ) (language w)
result_of w τ ws ls s (Go next) = ongoing (state_of w τ ws ls next)
result_of w τ ws ls s (Value v) = ended (value v) s.span.0 (run_counts_of s)
result_of w τ ws ls s (Halt h) = ended (stop h.number (record { function = h.function; node = h.node })) s.span.0 (run_counts_of s)

-- THE REGISTERS: after a transition; where a machine starts afresh, after a fork, an arrival or a join; at one frame more
abbrev pub ticked : Registers → Control → ℕ → ℕ → Registers
ticked s c d o = record {
  control = c;
  depth = d;
  oldest = o;
  credits = record { 0 = s.credits.0 + 1 };
  span = record { 0 = s.span.0 + 1 };
  transitions = s.transitions + 1;
  forks = s.forks;
  deepest = s.deepest;
}

abbrev pub restarted : Registers → Control → ℕ → ℕ → ℕ → ℕ → Registers
restarted s c d o g f = record {
  control = c;
  depth = d;
  oldest = o;
  credits = record { 0 = 0 };
  span = record { 0 = g };
  transitions = s.transitions;
  forks = f;
  deepest = s.deepest;
}

abbrev pub risen : Registers → Registers
risen s = record {
  control = s.control;
  depth = s.depth;
  oldest = s.oldest;
  credits = s.credits;
  span = s.span;
  transitions = s.transitions;
  forks = s.forks;
  deepest = max s.deepest (s.depth + 1);
}

-- the oldest plain fork that awaits its left where one more is opened at depth d, and where the one at t is none any more; 4096 where
-- there is none
abbrev pub oldest_with : ℕ → ℕ → ℕ
oldest_with o d = cond (ltb o d) o d

abbrev pub oldest_without : ℕ → ℕ → ℕ
oldest_without o t = cond (eqb o t) 4096 o

abbrev pub halted : ℕ → ℕ → ℕ → Step
halted i f p = Halt (record { number = i; function = f; node = p })
