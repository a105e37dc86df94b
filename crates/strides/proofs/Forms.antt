-- What each form of a stride tells of a node at its place.
use Prim.Native.Nat.{ℕ, ◌+◌, ◌-◌, ◌*◌, ◌≤◌, ◌<◌, max}
use mathlib.Core.Path.{◌≡◌, refl, sym, ap, ◌∙◌}
use mathlib.Core.Bool.{Bool, true, false, cond}
use mathlib.Core.List.{List}
use native.Mathlib.Omega.{arith}
use lib.ListN.{length, get_or, take}
use lib.Dec.{eqb}
use Rattle.std.specs.Prelude.{Option, Some, None, Result, Ok, Err}
use Rattle.std.specs.Result.{result_ok}
use Rattle.schedule.specs.FrameMachine.{return}
use Rattle.schedule.specs.Stretch.{Leads}
use Rattle.table.specs.Words.{start_of, tag_at, b_at, c_at}
use Rattle.arithmetic.specs.declared.Failure.{Failure}
use Rattle.arithmetic.specs.Operate.{computed}
use Rattle.frames.specs.Frames.{pushed, turned, appended}
use Rattle.frames.proofs.Writes.{is_appended}
use Rattle.language.specs.Language.{language}
use Rattle.moves.specs.declared.Control.{Control}
use Rattle.moves.specs.declared.Control.TheVariants.{Eval, Ret}
use Rattle.frames.specs.declared.Seat.{Seat}
use Rattle.moves.specs.Layout.{control_of}
use Rattle.moves.specs.Ready.{Stands, Controlled}
use Rattle.moves.proofs.Nodes.{inside, arithmetic_in, operation_in, choose_in, let_in}
use Rattle.compact.specs.declared.Compact.{Compact}
use Rattle.compact.specs.Compact.{later_of, Roomy}
use Rattle.operands.specs.Operands.{numbered, cost_at, frames_of, simple_at, LeafAt, SimpleAt, CostAt}
use Rattle.strides.specs.Strides.{Sited, Tagged, code_of, Jump, Jumps, Paired, whole, half, neither, Led}
use Rattle.operands.proofs.Leading.{arithmetic_leads, choose_leads, let_leads}
use Rattle.operands.proofs.Operands.{cost_few, frames_few, two_node, cost_fits, leaf_fits, simple_fits, simple_leads}

-- A NODE at its place, and its children there
module _ (w ls : List ℕ) (g : Compact) (seat : Seat) (start at : ℕ) (site : Sited w ls g seat start at) where
  there : (q a : ℕ) → a ≡ start + 4 * q → a ≡ start_of w seat.function + 4 * q
  there q a e = rw site.place at e

  few_locals : 0 + seat.count ≤ length ls
  few_locals = omega (arith, site.sixteen, site.stands.few)

  pub here : at ≡ start_of w seat.function + 4 * seat.node
  here = there seat.node at site.word

  pub tag_here : (i : ℕ) → get_or w at 0 ≡ i → tag_at w (start_of w seat.function) seat.node ≡ i
  tag_here i t = rw here at t

  pub first_word : at + 4 ≡ start + 4 * (seat.node + 1)
  first_word = omega (arith, site.word)

  pub child_inside : (q a : ℕ) → Stands w seat.function q seat.count → a ≡ start + 4 * q → a + 4 ≤ length w
  child_inside q a t e = rw (there q a e) (inside w site.table t).0

  pub here_inside : at + 4 ≤ length w
  here_inside = child_inside seat.node at site.stands site.word

  pub child_cost : (q a : ℕ) → Stands w seat.function q seat.count → a ≡ start + 4 * q → CostAt w a
  child_cost q a t e = cost_fits w seat.function site.table ls 0 t a (there q a e)

  pub child_simple : (q a k : ℕ) → Stands w seat.function q seat.count → a ≡ start + 4 * q → k ≡ cost_at w a → 0 < k → SimpleAt w a ls 0
  child_simple q a k t e u h = simple_fits w seat.function site.table ls 0 t a (there q a e) few_locals (rw u at h)

  pub child_leads : (q a k : ℕ) → Stands w seat.function q seat.count → a ≡ start + 4 * q → k ≡ cost_at w a → 0 < k
      → (y : ℕ) → simple_at w a ls 0 ≡ Ok y → Leads (language w) (code_of seat q ls) (return y) k (frames_of k)
  child_leads q a k t e u h y d = rw u (simple_leads w seat.function site.table ls 0 t a (there q a e) few_locals (rw u at h) y d)

  -- a jump, by its number of transitions
  pub jump : (ls' : List ℕ) (next : Compact) (to : Control) (k h : ℕ) → 1 ≤ k → next ≡ later_of g to g.depth k → Roomy g k h
      → Leads (language w) (code_of seat seat.node ls) (control_of to ls') k h → Controlled w to → length ls' ≡ 16 → Jump w ls g seat ls' next
  jump ls' next to k h some is room leads stands long =
      let x : k ≡ (k - 1) + 1 = omega arith in
      record { to = to; more = k - 1; most = h; is = rw x at is; leads = rw x at leads; room = rw x at room; stands = stands; sixteen = long }

-- a value that was taken out of a Result
pub ok_is : {r s : Result ℕ Failure} {o : Option ℕ} {x : ℕ} → r ≡ s → o ≡ result_ok r → o ≡ Some x → s ≡ Ok x
ok_is {r = Ok y} {x = x} e u v = let z : y ≡ x = cc in rw z at (sym e)
ok_is {r = Err f} e u v = cc

-- WHAT A FORM HAS IN COMMON with the others: its first child is looked at
pub within : {w ls : List ℕ} {g : Compact} {seat : Seat} {start at : ℕ} → Sited w ls g seat start at → at + 4 ≤ length w
within {w} {ls} {g} {seat} {start} {at} site = here_inside w ls g seat start at site

pub first_few : {w ls : List ℕ} {g : Compact} {seat : Seat} {start at : ℕ} → Sited w ls g seat start at → (k : ℕ) → k ≡ cost_at w (at + 4) → k ≤ 5
first_few {w} {ls} {g} {seat} {start} {at} site k e = rw e (cost_few w (at + 4))

pub one_frame : (h k : ℕ) → h ≡ frames_of k → h ≤ 1
one_frame h k e = rw e (frames_few k)

pub one_frame_of_two : (k l a b h : ℕ) → a ≡ frames_of k → b ≡ frames_of l → h ≡ max a b → h ≤ 1
one_frame_of_two k l a b h e u v = omega (arith, one_frame a k e, one_frame b l u)

pub two_few : {w ls : List ℕ} {seat : Seat} {x k : ℕ} → Led w ls seat x k → (right l : ℕ) → l ≡ cost_at w right → k + l ≤ 10
two_few {w} led right l e = omega (arith, led.few, cost_few w right)

module _ {w ls : List ℕ} {g : Compact} {seat : Seat} {start at : ℕ} (site : Sited w ls g seat start at) (t : Stands w seat.function (seat.node + 1) seat.count) where
  pub first_cost : CostAt w (at + 4)
  first_cost = child_cost w ls g seat start at site (seat.node + 1) (at + 4) t (first_word w ls g seat start at site)

  pub first_simple : (k : ℕ) → k ≡ cost_at w (at + 4) → 0 < k → SimpleAt w (at + 4) ls 0
  first_simple k e h = child_simple w ls g seat start at site (seat.node + 1) (at + 4) k t (first_word w ls g seat start at site) e h

  pub first_led : (k : ℕ) → k ≡ cost_at w (at + 4) → 0 < k → (x : ℕ) → simple_at w (at + 4) ls 0 ≡ Ok x → Led w ls seat x k
  first_led k e h x v = record {
    some = h;
    few = first_few site k e;
    first = child_leads w ls g seat start at site (seat.node + 1) (at + 4) k t (first_word w ls g seat start at site) e h x v;
  }

-- a constant or a local
pub leaf_here : {w ls : List ℕ} {g : Compact} {seat : Seat} {start at : ℕ} → Sited w ls g seat start at → get_or w at 0 < 2 → LeafAt w at ls 0
leaf_here {w} {ls} {g} {seat} {start} {at} site h =
    leaf_fits w seat.function site.table ls 0 site.stands at (here w ls g seat start at site) h (few_locals w ls g seat start at site)

-- A CHOOSE
module _ {w ls : List ℕ} {g : Compact} {seat : Seat} {start at : ℕ} (t : Tagged w ls g seat start at 3) where
  chooses : Stands w seat.function (seat.node + 1) seat.count × Stands w seat.function (b_at w (start_of w seat.function) seat.node) seat.count
      × Stands w seat.function (c_at w (start_of w seat.function) seat.node) seat.count
  chooses = choose_in w t.site.table t.site.stands (tag_here w ls g seat start at t.site 3 t.is)

  pub choose_first : Stands w seat.function (seat.node + 1) seat.count
  choose_first = chooses.0

  pub jump_choose : (next : Compact) (x k h q : ℕ) → Led w ls seat x k → h ≡ frames_of k → Roomy g (k + 2) (h + 1)
      → q ≡ cond (eqb x 0) (get_or w (at + 3) 0) (get_or w (at + 2) 0) → next ≡ later_of g (Eval (record { function = seat.function; node = q; count = seat.count })) g.depth (k + 2)
      → Jump w ls g seat ls next
  unfolding control_of Controlled
  jump_choose next x k h q led eh room eq n =
      let q' : q ≡ cond (eqb x 0) (c_at w (start_of w seat.function) seat.node) (b_at w (start_of w seat.function) seat.node) = rw (here w ls g seat start at t.site) at eq in
      let lead = choose_leads w seat.function seat.node (take seat.count ls) x k (frames_of k) (tag_here w ls g seat start at t.site 3 t.is) led.first in
      jump w ls g seat start at t.site ls next (Eval (record { function = seat.function; node = q; count = seat.count })) (k + 2) (h + 1) (omega arith) n room (rw (q', eh) lead)
      (rw q' (on (eqb x 0) chooses.1 chooses.2)) t.site.sixteen
    where
      on : (z : Bool) {i j : ℕ} → Stands w seat.function i seat.count → Stands w seat.function j seat.count → Stands w seat.function (cond z j i) seat.count
      on true i j = j
      on false i j = i

-- A LET
module _ {w ls : List ℕ} {g : Compact} {seat : Seat} {start at : ℕ} (t : Tagged w ls g seat start at 4) where
  lets : (seat.count + 1 ≤ 16) × Stands w seat.function (seat.node + 1) seat.count
      × Stands w seat.function (b_at w (start_of w seat.function) seat.node) (seat.count + 1)
  lets = let_in w t.site.table t.site.stands (tag_here w ls g seat start at t.site 4 t.is)

  pub let_first : Stands w seat.function (seat.node + 1) seat.count
  let_first = lets.1

  pub let_few : seat.count < 16
  let_few = omega (arith, lets.0)

  pub jump_let : (ls' : List ℕ) (next : Compact) (x k h q : ℕ) → Led w ls seat x k → h ≡ frames_of k → Roomy g (k + 2) (h + 1)
      → q ≡ get_or w (at + 2) 0 → ls' ≡ appended ls seat.count x → next ≡ later_of g (Eval (record { function = seat.function; node = q; count = seat.count + 1 })) g.depth (k + 2)
      → Jump w ls g seat ls' next
  unfolding control_of Controlled
  jump_let ls' next x k h q led eh room eq u n =
      let q' : q ≡ b_at w (start_of w seat.function) seat.node = rw (here w ls g seat start at t.site) at eq in
      let lead = let_leads w seat.function seat.node (take seat.count ls) x k (frames_of k) (tag_here w ls g seat start at t.site 4 t.is) led.first in
      let more = is_appended ls ls' seat.count x let_few t.site.sixteen u in
      jump w ls g seat start at t.site ls' next (Eval (record { function = seat.function; node = q; count = seat.count + 1 })) (k + 2) (h + 1) (omega arith) n room (rw (q', eh, more.are) lead)
      (rw q' lets.2) more.sixteen

-- AN ARITHMETIC
module _ {w ls : List ℕ} {g : Compact} {seat : Seat} {start at : ℕ} (t : Tagged w ls g seat start at 2) where
  pairs : Stands w seat.function (seat.node + 1) seat.count × Stands w seat.function (b_at w (start_of w seat.function) seat.node) seat.count
  pairs = arithmetic_in w t.site.table t.site.stands (tag_here w ls g seat start at t.site 2 t.is)

  b_is : get_or w (at + 2) 0 ≡ b_at w (start_of w seat.function) seat.node
  b_is = ap (λ (z : ℕ). get_or w (z + 2) 0) (here w ls g seat start at t.site)

  pub pair_first : Stands w seat.function (seat.node + 1) seat.count
  pair_first = pairs.0

  pub pair_right : Stands w seat.function (get_or w (at + 2) 0) seat.count
  pair_right = rw b_is pairs.1

  pub right_inside : (q : ℕ) → q ≡ get_or w (at + 2) 0 → start + 4 * q + 4 ≤ length w
  right_inside q e = child_inside w ls g seat start at t.site q (start + 4 * q) (rw e pair_right) refl

  pub right_cost : (q : ℕ) → q ≡ get_or w (at + 2) 0 → CostAt w (start + 4 * q)
  right_cost q e = child_cost w ls g seat start at t.site q (start + 4 * q) (rw e pair_right) refl

  -- both operands are simple
  pub jump_pair : (next : Compact) (x k l a b h right y v : ℕ) → Led w ls seat x k → right ≡ start + 4 * get_or w (at + 2) 0 → l ≡ cost_at w right → 0 < l
      → simple_at w right ls 0 ≡ Ok y → computed (numbered (get_or w (at + 1) 0)) x y ≡ Ok v
      → a ≡ frames_of k → b ≡ frames_of l → h ≡ max a b → Roomy g (k + l + 3) (h + 1) → next ≡ later_of g (Ret v) g.depth (k + l + 3)
      → Jump w ls g seat ls next
  unfolding control_of Controlled
  jump_pair next x k l a b h right y v led er el some ey ev ea eb eh room n =
      let t' = tag_here w ls g seat start at t.site 2 t.is in
      let o = operation_in w t.site.table t.site.stands t' in
      let same = two_node w seat.function seat.node o.0 (b_at w (start_of w seat.function) seat.node) t' o.1 in
      let op : computed o.0 x y ≡ Ok v = rw (← same, ← here w ls g seat start at t.site) ev in
      let lead = arithmetic_leads w seat.function seat.node (take seat.count ls) o.0 (b_at w (start_of w seat.function) seat.node) x y v k l (frames_of k) (frames_of l) o.1
      led.first (rw (← b_is) (child_leads w ls g seat start at t.site (get_or w (at + 2) 0) right l pair_right er el some y ey)) op in
      jump w ls g seat start at t.site ls next (Ret v) (k + l + 3) (h + 1) (omega arith) n room (rw (eh, ea, eb) lead) tt t.site.sixteen

  -- or its frame is written with the left one
  pub half_paired : (ws ws₁ ws' : List ℕ) (next : Compact) (x k h q : ℕ) → Led w ls seat x k → h ≡ frames_of k → Roomy g (k + 2) (h + 1) → q ≡ get_or w (at + 2) 0
      → ws₁ ≡ pushed ws (32 * g.depth) 1 seat.function seat.node seat.count ls 0 → ws' ≡ turned ws₁ (32 * g.depth) 1 x 0
      → next ≡ later_of g (Eval (record { function = seat.function; node = q; count = seat.count })) (g.depth + 1) (k + 2) → Paired w ws ls g seat ws' (Some next)
  half_paired ws ws₁ ws' next x k h q led eh room eq e₁ e n = half next refl (record {
    left = x;
    cost = k;
    most = h;
    right = q;
    is = n;
    first = rw eh led.first;
    second = eq ∙ b_is;
    room = room;
    words = rw (← e₁) e;
  })

pub whole_paired : (w ws ls : List ℕ) (g : Compact) (seat : Seat) (r : Option Compact) → Jumps w ls g seat ls r → Paired w ws ls g seat ws r
whole_paired w ws ls g seat (Some next) j = whole next refl refl j
whole_paired w ws ls g seat None j = neither refl refl
