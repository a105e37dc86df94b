-- Strides that are several steps of the definition at once, and those that are one.
use Prim.Native.Nat.{ℕ, ◌+◌, ◌-◌, ◌*◌, ◌/◌, ◌≤◌, ◌<◌}
use mathlib.Core.Path.{◌≡◌, refl, sym, ap, ◌∙◌}
use mathlib.Core.Bool.{Bool}
use mathlib.Core.List.{List, ◌∷◌}
use native.Mathlib.Omega.{arith}
use lib.ListN.{length, get_or, take, drop}
use Rattle.std.specs.Prelude.{Option, Some}
use borrow.Author.Tests.{ltb-true}
use Rattle.schedule.specs.FrameMachine.{return, open_frame}
use Rattle.schedule.specs.FrameMachine.{Control as FlatControl}
use Rattle.schedule.specs.Algebra.{CostAlgebra, spans}
use Rattle.schedule.specs.Machine.{Slot, ordinary, promotable, state, Result, ongoing}
use Rattle.schedule.specs.Stretch.{later, transits, Room}
use Rattle.schedule.proofs.Stretch.{raise_within, code_leads, value_leads, code_opens, transits_span}
use Rattle.table.specs.Words.{functions, start_of, tag_at}
use Rattle.table.specs.WellFormed.{WellFormed}
use Rattle.table.specs.Nodes.{node_at}
use Rattle.table.specs.declared.Node.{Node}
use Rattle.table.specs.declared.Node.TheVariants.{Constant, Local, Arithmetic, Choose, Let, Call, Both, Unknown}
use Rattle.table.proofs.Views.{tag_for}
use Rattle.frames.specs.Frames.{locals_word, frame_kind, pushed}
use Rattle.frames.proofs.Writes.{Pushed, Turned, is_pushed, is_turned}
use Rattle.language.specs.Language.{Code, Frame, left_operand, right_operand, at, first, second, next, arrive, language}
use Rattle.moves.specs.declared.Control.{Control}
use Rattle.moves.specs.declared.Control.TheVariants.{Eval, Ret}
use Rattle.moves.specs.declared.Registers.{Registers}
use Rattle.moves.specs.declared.Plan.{Plan}
use Rattle.frames.specs.declared.Seat.{Seat}
use Rattle.moves.specs.declared.Step.{Step}
use Rattle.moves.specs.declared.Step.TheVariants as step
use Rattle.moves.specs.Layout.{code_at, slot_of, slot_at, stack_of, control_of, run_counts_of, state_of}
use Rattle.moves.specs.Ready.{Stands, Controlled, Paid, Stepped, Ticks, Returns, Operand}
use Rattle.moves.proofs.Nodes.{inside, known, tag_is, arithmetic_in, operation_in}
use Rattle.moves.proofs.Stacks.{length_stack, stack_more, held_more, held_top, same_slots}
use Rattle.moves.proofs.OldestFork.{oldest_other, oldest_under}
use Rattle.moves.proofs.Promotion.{due_is}
use Rattle.moves.proofs.Sparing.{spared_same, spared_turned, spared_pushed}
use Rattle.moves.proofs.Returning.{room, stepped_done}
use Rattle.moves.proofs.Returning.{top as frame-top, tag_here as frame-tag}
use Rattle.compact.specs.declared.Compact.{Compact}
use Rattle.compact.specs.declared.Progress.{Progress}
use Rattle.compact.specs.declared.Progress.TheVariants.{Go, Value}
use Rattle.compact.specs.Compact.{full, step_of, PacedBy, settled_of, Settles, kept_by, Transits, later_of, Roomy, Paced, Continues}
use Rattle.compact.proofs.Keeping.{kept_ticks}
use Rattle.strides.specs.Strides.{Many, one, many, Strides, Starts, Calm, Tagged, Evaluating, code_of, Jump, Half, Rebound, Rebounds, Returning}
use Rattle.strides.proofs.Settling.{small, move_advances, move_settles, move_strides, paid_rises, kept_strides, returning_returns, site_stands, paid_continues}

module _ {w ws ls : List ℕ} {plan : Plan} {g : Compact} (s : Starts w ws ls plan g) where
  abbrev K : CostAlgebra
  K = spans plan.tau

  -- SEVERAL STEPS: there is room for them
  roomy : (able : Bool) (d k h : ℕ) → able ≡ promotable (stack_of ws g.depth) → d ≡ g.depth → Roomy g k h
      → Room plan.fuel.0 (length ws / 32) plan.period able d (full g).credits.0 (run_counts_of (full g)) k h
  roomy able d k h a e m = record {
    within_fuel = omega (arith, m.transitions, s.paced.fuel);
    within_frames = omega (arith, m.within, s.ready.bounded.depth);
    calm = λ y. calm (ltb-true _ _ (sym (due_is ws g.depth g.oldest s.ready.kept.oldest) ∙ sym a ∙ y));
  }
    where
      calm : g.oldest < g.depth → (full g).credits.0 + k ≤ plan.period
      calm l = omega (arith, m.transitions, s.paced.since, s.paced.calm (omega (arith, l, s.ready.kept.room, s.ready.limits.frames)))

  -- the state at their end
  ends : (to : Control) (d n k h : ℕ) (ws' ls' : List ℕ) (c : FlatControl Code) (S : List (Slot ℕ Frame Code)) → control_of to ls' ≡ c → stack_of ws' d ≡ S → n ≡ g.depth → Roomy g k h
      → ◌≡◌ {A = Result K (language w)} (ongoing (state c S ((full g).credits.0 + k) (transits K k (full g).span.0) (later k n h (run_counts_of (full g)))))
      (ongoing (state_of w plan.tau ws' ls' (full (later_of g to d k))))
  ends to d n k h ws' ls' c S a b e m =
      let x : g.transitions - g.since + k ≡ g.transitions + k - g.since = omega (arith, s.paced.since) in
      let y : g.before.0 + (g.transitions - g.since) + k ≡ g.before.0 + (g.transitions + k - g.since) = omega (arith, s.paced.since) in
      rw (transits_span plan.tau k (full g).span.0, a, b, e, x, y, raise_within g.deepest g.depth h m.within)

  -- the registers then
  many_strides : (to : Control) (d k : ℕ) (ws' ls' : List ℕ) (next : Compact) → next ≡ later_of g to d k → (m : Many w ws ls plan (full g) ws' ls' (full (later_of g to d k)))
      → k ≡ m.more + 1 → Strides w ws ls plan g ws' ls' (Go next)
  unfolding step_of PacedBy Transits
  many_strides to d k ws' ls' next e m n = rw e (record {
    strode = many (full (later_of g to d k)) refl m (omega arith);
    transits = omega arith;
    paced = record { since = omega (arith, s.paced.since); fuel = s.paced.fuel; calm = s.paced.calm; exact = s.paced.exact };
  })

  -- a node
  module _ (seat : Seat) (e : g.control ≡ Eval seat) where
    pub jump_strides : (ls' : List ℕ) (next : Compact) → Jump w ls g seat ls' next → Strides w ws ls plan g ws ls' (Go next)
    unfolding control_of
    jump_strides ls' next j =
        let S = stack_of ws g.depth in
        let n = length_stack ws g.depth in
        let k = j.more + 1 in
        let runs = code_leads K (language w) plan.fuel.0 (length ws / 32) plan.birth plan.period _ _ k j.most j.leads S (full g).credits.0 (full g).span.0 (run_counts_of (full g)) (roomy (promotable S) (length S) k j.most refl n j.room) in
        many_strides j.to g.depth k ws ls' next j.is (record {
          more = j.more;
          same = rw e (runs ∙ ends j.to g.depth (length S) k j.most ws ls' _ S refl refl n j.room);
          kept = record {
            table = s.ready.kept.table;
            sixteen = j.sixteen;
            room = s.ready.kept.room;
            held = s.ready.kept.held;
            control = j.stands;
            oldest = s.ready.kept.oldest;
            born = s.ready.kept.born;
          };
          spared = spared_same ws;
        }) refl

    here : Stands w seat.function seat.node seat.count
    unfolding Controlled
    here = rw e at s.ready.kept.control

    pub half_strides : (ws' : List ℕ) (next : Compact) → tag_at w (start_of w seat.function) seat.node ≡ 2 → Half w ws ls g seat ws' next → Strides w ws ls plan g ws' ls (Go next)
    unfolding control_of Controlled slot_of next arrive
    half_strides ws' n t j =
        let d = g.depth in
        let kept = s.ready.kept in
        let S = stack_of ws d in
        let l = length_stack ws d in
        let code = code_of seat seat.node ls in
        let room : 32 * d + 32 ≤ length ws = omega (arith, j.room.within, s.ready.bounded.depth) in
        let ws₁ = pushed ws (32 * d) 1 seat.function seat.node seat.count ls 0 in
        let p : Pushed ws ws₁ (32 * d) 1 seat.function seat.node seat.count ls 0 = is_pushed ws ws₁ (32 * d) room 1 seat.function seat.node seat.count ls 0 here.few kept.sixteen refl in
        let u : Turned ws₁ ws' (32 * d) 1 j.left 0 = is_turned ws₁ ws' (32 * d) (omega (arith, p.long)) 1 j.left 0 j.words in
        let same = same_slots w ws ws' kept.table (u.long ∙ p.long) d (sym (u.below ∙ p.below)) kept.room kept.held in
        let f = u.is_function ∙ p.is_function in
        let q = u.is_node ∙ p.is_node in
        let c = u.is_count ∙ p.is_count in
        let locals : take seat.count (drop (locals_word (32 * d)) ws') ≡ take seat.count ls = ap (take seat.count) u.above ∙ p.is_locals in
        let slot : slot_at ws' (32 * d) ≡ ordinary (right_operand code j.left) = rw (u.is_kind, f, q, c, u.is_value, locals) in
        let stack : stack_of ws' (d + 1) ≡ ordinary (right_operand code j.left) ∷ S = sym (stack_more ws' d) ∙ rw (slot, same.0) in
        let opens : next w code (node_at w (start_of w seat.function) seat.node) ≡ open_frame (left_operand code) (first code) = rw (operation_in w kept.table here t).1 in
        let k = j.cost + 2 in
        let two : j.cost + 1 + 1 ≡ k = omega arith in
        let runs = code_opens K (language w) plan.fuel.0 (length ws / 32) plan.birth plan.period code (first code) (at code (second w code) code.locals) (left_operand code) (right_operand code j.left) j.left j.cost j.most opens j.first refl
        S (full g).credits.0 (full g).span.0 (run_counts_of (full g)) (roomy (promotable S) (length S) k (j.most + 1) refl l j.room) in
        let to = Eval (record { function = seat.function; node = j.right; count = seat.count }) in
        many_strides to (d + 1) k ws' ls n j.is (record {
          more = j.cost + 1;
          same = rw (two, e) (runs ∙ ends to (d + 1) (length S) k (j.most + 1) ws' ls _ _ (rw j.second) stack l j.room);
          kept = record {
            table = kept.table;
            sixteen = kept.sixteen;
            room = omega (arith, u.long, p.long);
            held = held_more w ws' d (rw (u.is_kind, f, q, c, u.is_value) (record { stands = here; tag = t; awaits = λ y. absurd (omega arith) })) same.1;
            control = rw j.second (arithmetic_in w kept.table here t).1;
            oldest = oldest_other ws ws' d (sym (u.below ∙ p.below)) g.oldest (omega (arith, s.ready.limits.frames)) kept.oldest (λ y. omega (arith, u.is_kind)) (λ y. absurd (omega (arith, u.is_kind)));
            born = kept.born;
          };
          spared = λ i. (
            (spared_turned ws₁ ws' d (omega (arith, p.long)) 1 j.left 0 j.words i).0 ∙ (spared_pushed ws ws₁ d room 1 seat.function seat.node seat.count ls 0 here.few kept.sixteen refl i).0,
            (spared_turned ws₁ ws' d (omega (arith, p.long)) 1 j.left 0 j.words i).1 ∙ (spared_pushed ws ws₁ d room 1 seat.function seat.node seat.count ls 0 here.few kept.sixteen refl i).1,
          );
        }) (sym two)

  -- a value
  module _ (v top : ℕ) (e : g.control ≡ Ret v) (d : g.depth ≡ top + 1) (k : frame_kind ws (32 * top) ≡ 0) where
    pub rebound_strides : (next : Compact) → Rebound w ws g v top next → Strides w ws ls plan g ws ls (Go next)
    unfolding control_of Controlled slot_of promotable
    rebound_strides next j =
        let S = stack_of ws top in
        let n = length_stack ws top in
        let F : Slot ℕ Frame Code = ordinary (left_operand (code_at ws (32 * top))) in
        let newest : slot_at ws (32 * top) ≡ F = rw k in
        let whole : stack_of ws g.depth ≡ F ∷ S = ap (stack_of ws) d ∙ sym (stack_more ws top) ∙ ap (λ (x : Slot ℕ Frame Code). x ∷ S) newest in
        let able : promotable S ≡ promotable (stack_of ws g.depth) = ap promotable (sym whole) in
        let deep : length S + 1 ≡ g.depth = omega arith in
        let i = j.more + 1 in
        let runs = value_leads K (language w) plan.fuel.0 (length ws / 32) plan.birth plan.period _ v (return j.value) i j.most j.through S (full g).credits.0 (full g).span.0 (run_counts_of (full g)) (roomy (promotable S) (length S + 1) i j.most able deep j.room) in
        many_strides (Ret j.value) top i ws ls next j.is (record {
          more = j.more;
          same = rw (e, whole) (runs ∙ ends (Ret j.value) top (length S + 1) i j.most ws ls _ S refl refl deep j.room);
          kept = record {
            table = s.ready.kept.table;
            sixteen = s.ready.kept.sixteen;
            room = omega (arith, s.ready.kept.room, d);
            held = (held_top w ws top (rw d at s.ready.kept.held)).1;
            control = tt;
            oldest = oldest_under ws top g.oldest (rw d at s.ready.kept.oldest) (λ z. omega (arith, k));
            born = s.ready.kept.born;
          };
          spared = spared_same ws;
        }) refl

-- A NODE IS EVALUATED
module _ {w ws ls : List ℕ} {plan : Plan} {g : Compact} {seat : Seat} {start at tag : ℕ} (v : Evaluating w ws ls plan g seat start at tag) where
  abbrev set_out : Starts w ws ls plan g
  set_out = v.calm.starts

  pub tagged : Tagged w ls g seat start at tag
  tagged = record {
    site = record { table = set_out.ready.kept.table; stands = site_stands v; place = v.place; word = v.word; sixteen = set_out.ready.kept.sixteen; small = small set_out };
    is = v.tagged;
  }

  -- by one step
  pub one_strides : (ws' ls' : List ℕ) (r : Progress) → Stepped w ws ls plan (full g) ws' ls' (step_of r) → PacedBy plan r × Transits g r → Strides w ws ls plan g ws' ls' r
  one_strides ws' ls' r m p = kept_strides v.calm ws' ls' (step_of r) m r refl p.0 p.1

-- the node's word
tag_low : (n : Node) → (n ≡ Unknown → ⊥) → tag_for n < 7
unfolding tag_for
tag_low (Constant v) h = omega arith
tag_low (Local slot) h = omega arith
tag_low (Arithmetic o b) h = omega arith
tag_low (Choose b c) h = omega arith
tag_low (Let b) h = omega arith
tag_low (Call f b c) h = omega arith
tag_low (Both b c) h = omega arith
tag_low Unknown h = absurd (h refl)

pub leaf_tag : (t : ℕ) → (t ≡ 2 → ⊥) → (t ≡ 3 → ⊥) → (t ≡ 4 → ⊥) → (t ≡ 5 → ⊥) → (t ≡ 6 → ⊥) → t < 7 → t < 2
leaf_tag t n2 n3 n4 n5 n6 h = low (high n5 n6 h) n2 n3 n4
  where
    high : (t ≡ 5 → ⊥) → (t ≡ 6 → ⊥) → t < 7 → t < 5
    high n5 n6 h = omega arith

    low : t < 5 → (t ≡ 2 → ⊥) → (t ≡ 3 → ⊥) → (t ≡ 4 → ⊥) → t < 2
    low h n2 n3 n4 = omega arith

module _ {w ws ls : List ℕ} {plan : Plan} {g : Compact} (c : Calm w ws ls plan g) {seat : Seat} (e : g.control ≡ Eval seat) where
  site_here : Stands w seat.function seat.node seat.count
  site_here = here c.starts seat e

  pub start_asked : WellFormed w × (seat.function < functions w)
  start_asked = (c.starts.ready.kept.table, site_here.function)

  -- the body starts at word `start`
  module _ {start : ℕ} (place : start ≡ start_of w seat.function) where
    pub word_inside : start + 4 * seat.node + 4 ≤ length w
    word_inside = rw place (inside w c.starts.ready.kept.table site_here).0

    pub tag_here : get_or w (start + 4 * seat.node) 0 ≡ tag_at w (start_of w seat.function) seat.node
    tag_here = rw place

    pub tag_few : get_or w (start + 4 * seat.node) 0 < 7
    tag_few = rw place (omega (arith, tag_is w c.starts.ready.kept.table site_here, tag_low (node_at w (start_of w seat.function) seat.node) (known w c.starts.ready.kept.table site_here)))

    pub evaluating : Paid plan (full g) → {tag : ℕ} → get_or w (start + 4 * seat.node) 0 ≡ tag → Evaluating w ws ls plan g seat start (start + 4 * seat.node) tag
    evaluating h t = record { calm = c; is = e; place = place; word = refl; tagged = t; paid = h }

-- A MOVE BY THE REGISTERS s that g stands for
module _ {w ws ls : List ℕ} {plan : Plan} {g : Compact} (c : Calm w ws ls plan g) (s : Registers) (e : s ≡ full g) (ws' ls' : List ℕ) (o : Step) (m : Stepped w ws ls plan s ws' ls' o) where
  pub settles : Settles plan o
  settles = move_settles c ws' ls' o (rw e at m)

-- to a frame that is not promoted
pub paid_strides : {w ws ls : List ℕ} {plan : Plan} {g : Compact} {v top kind : ℕ} (q : Returning w ws ls plan g v top kind) → kind < 7 → (s : Registers) → s ≡ full g
    → (ws' ls' : List ℕ) (o : Step) → Stepped w ws ls plan s ws' ls' o → (r : Progress) → r ≡ settled_of plan o → Strides w ws ls plan g ws' ls' r
paid_strides {w} {ws} {ls} {plan} {g} {v} {top} {kind} q low s e ws' ls' o m r u =
    let n : Stepped w ws ls plan (full g) ws' ls' o = rw e at m in
    move_strides q.calm ws' ls' o n (paid_rises w ws ls plan (full g) v top kind (returning_returns q refl) low ws' ls' o n) r u

pub paid_goes_on : {w ws ls : List ℕ} {plan : Plan} {g : Compact} {v top kind : ℕ} (q : Returning w ws ls plan g v top kind) → kind < 7 → (s : Registers) → s ≡ full g
    → (ws' ls' : List ℕ) (o : Step) → Stepped w ws ls plan s ws' ls' o → Paced plan g × Settles plan o × Continues g o
paid_goes_on {w} {ws} {ls} {plan} {g} {v} {top} {kind} q low s e ws' ls' o m =
    (q.calm.starts.paced, settles q.calm s e ws' ls' o m, paid_continues w ws ls plan g v top kind (returning_returns q refl) low q.calm.starts.paced.since ws' ls' o (rw e at m))

-- by the same machine
pub ticks_strides : {w ws ls : List ℕ} {plan : Plan} {g : Compact} {v top kind : ℕ} (q : Returning w ws ls plan g v top kind) (s : Registers) → s ≡ full g
    → (ws' ls' : List ℕ) (o : Step) → Stepped w ws ls plan s ws' ls' o × Ticks s o → (r : Progress) → r ≡ kept_by g o → Strides w ws ls plan g ws' ls' r
ticks_strides {w} {ws} {ls} {plan} {g} {v} {top} {kind} q s e ws' ls' o m r u =
    let t = kept_ticks q.calm.starts.paced e u m.1 in
    kept_strides q.calm ws' ls' o (rw e at m.0) r t.0 t.1 t.2

-- A VALUE RETURNS
module _ {w ws ls : List ℕ} {plan : Plan} {g : Compact} {v top kind : ℕ} (q : Returning w ws ls plan g v top kind) where
  pub returned : Returns w ws ls plan (full g) v top kind
  returned = returning_returns q refl

  -- at the kind that it is
  pub kind_is : (j : ℕ) → kind ≡ j → Returning w ws ls plan g v top j
  kind_is j e = record { calm = q.calm; is = q.is; depth = q.depth; of_kind = q.of_kind ∙ e }

  -- what a move of moves asks for
  pub asked : (s : Registers) → s ≡ full g → (j : ℕ) → kind ≡ j → Paid plan (full g) → Returns w ws ls plan s v top j × Paid plan s
  asked s e j k p = rw (e, ← k) (returned, p)

module _ {w ws ls : List ℕ} {plan : Plan} {g : Compact} {v top : ℕ} (q : Returning w ws ls plan g v top 0) where
  pub operand : Operand w ws (32 * top)
  operand =
      let t = returned q in
      record { table = t.ready.kept.table; room = room t; stands = (frame-top t).stands; tag = frame-tag t }

  pub rebounds_strides : (r : Option Compact) (next : Compact) → r ≡ Some next → Rebounds w ws g v top r → Strides w ws ls plan g ws ls (Go next)
  rebounds_strides r next e j = rebound_strides q.calm.starts v top q.is q.depth q.of_kind next (rw e at j)

-- NO FRAME LEFT
pub done_strides : {w ws ls : List ℕ} {plan : Plan} {g : Compact} → Calm w ws ls plan g → (v : ℕ) → g.control ≡ Ret v → g.depth ≡ 0 → Strides w ws ls plan g ws ls (Value v)
unfolding step_of PacedBy Transits
done_strides {w} {ws} {ls} {plan} {g} c v e d = record { strode = one (move_advances c ws ls (step.Value v) (stepped_done w ws ls plan (full g) v e d)); paced = tt; transits = tt }
