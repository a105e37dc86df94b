-- A value that returns to an arithmetic frame: where the right operand is simple, the operation is made and the frame closed.
use Rattle.std.specs.Prelude.{Ok}
use Prim.Native.Nat.{ℕ, ◌+◌, ◌*◌, ◌≤◌, ◌<◌}
use mathlib.Core.Path.{◌≡◌, ap}
use mathlib.Core.List.{List}
use native.Mathlib.Omega.{arith}
use lib.ListN.{length, get_or}
use Rattle.table.specs.Words.{functions, start_of, body_at, b_at}
use Rattle.table.specs.WellFormed.{WellFormed}
use Rattle.table.proofs.Views.{at_arithmetic}
use Rattle.arithmetic.specs.Operate.{computed}
use Rattle.frames.specs.declared.Seat.{Seat}
use Rattle.frames.specs.Frames.{locals_word, frame_function, frame_node, frame_count, seat_at, frame_locals}
use Rattle.moves.specs.declared.Control.TheVariants.{Ret}
use Rattle.moves.specs.Ready.{Stands, Operand}
use Rattle.moves.proofs.Nodes.{arithmetic_in}
use Rattle.moves.proofs.Frames as frames
use Rattle.compact.specs.declared.Compact.{Compact}
use Rattle.compact.specs.Compact.{later_of, Roomy}
use Rattle.operands.specs.Operands.{numbered, cost_at, frames_of, simple_at, SimpleAt, CostAt}
use Rattle.strides.specs.Strides.{Rebound}
use Rattle.operands.proofs.Leading.{right_through}
use Rattle.operands.proofs.Operands.{two_node, cost_fits, simple_fits, simple_leads}

-- The seat of the frame `top` was read as r; it is of the function F and the node P. The function's body starts at word `start`.
module _ {w ws : List ℕ} (top : ℕ) (op : Operand w ws (32 * top)) {r : Seat} (is : r ≡ seat_at ws (32 * top)) where
  abbrev F : ℕ
  F = frame_function ws (32 * top)

  abbrev P : ℕ
  P = frame_node ws (32 * top)

  pub start_asked : WellFormed w × (r.function < functions w)
  start_asked = frames.frame_start ws (32 * top) op.table op.stands is

  module _ {start : ℕ} (place : start ≡ start_of w r.function) where
    pub frame_inside : start + 4 * r.node + 4 ≤ length w
    frame_inside = frames.frame_inside ws (32 * top) op.table op.stands is place

    start_here : start ≡ start_of w F
    start_here = rw is at place

    node_here : start + 4 * r.node ≡ start_of w F + 4 * P
    node_here = rw (start_here, is)

    -- the right operand's position
    abbrev q : ℕ
    q = get_or w (start + 4 * r.node + 2) 0

    q_is : q ≡ b_at w (start_of w F) P
    q_is = ap (λ (z : ℕ). get_or w (z + 2) 0) node_here

    right_stands : Stands w F q (frame_count ws (32 * top))
    right_stands = rw q_is (arithmetic_in w op.table op.stands op.tag).1

    right_here : start + 4 * q ≡ start_of w F + 4 * q
    right_here = rw start_here

    locals_here : locals_word (32 * top) + frame_count ws (32 * top) ≤ length ws
    locals_here = omega (arith, op.room, op.stands.few)

    pub right_cost : CostAt w (start + 4 * q)
    right_cost = cost_fits w F op.table ws (locals_word (32 * top)) right_stands _ right_here

    pub right_simple : {k : ℕ} → k ≡ cost_at w (start + 4 * q) → 0 < k → SimpleAt w (start + 4 * q) ws (locals_word (32 * top))
    right_simple is-k some = simple_fits w F op.table ws (locals_word (32 * top)) right_stands _ right_here locals_here (rw is-k at some)

    -- it has the value y by k transitions, and the operation the value z
    pub rebounded : {g next : Compact} {v k h y z : ℕ} → k ≡ cost_at w (start + 4 * q) → h ≡ frames_of k
        → (0 < k) × Roomy g (k + 2) h → simple_at w (start + 4 * q) ws (locals_word (32 * top)) ≡ Ok y
        → computed (numbered (get_or w (start + 4 * r.node + 1) 0)) v y ≡ Ok z → next ≡ later_of g (Ret z) top (k + 2) → Rebound w ws g v top next
    rebounded {g} {next} {v} {k} {h} {y} {z} is-k is-h room value result n =
        let a = at_arithmetic w (body_at w F) op.stands.tree op.tag in
        let same = two_node w F P a.0 (b_at w (start_of w F) P) op.tag a.1 in
        let done : computed a.0 v y ≡ Ok z = rw (← same, ← node_here) result in
        let right = simple_leads w F op.table ws (locals_word (32 * top)) right_stands _ right_here locals_here (rw is-k at room.0) y value in
        let through = right_through w F P (frame_locals ws (32 * top)) a.0 (b_at w (start_of w F) P) v y z k h a.1 (rw (← is-k, ← is-h, q_is) at right) done in
        let x : k + 2 ≡ k + 1 + 1 = omega arith in
        record { value = z; more = k + 1; most = h; is = rw x at n; through = rw x at through; room = rw x at room.1 }
