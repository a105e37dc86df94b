-- What a value that returns to a frame tells: the flat machine's move of the state that the words held is the state that they hold.
use Prim.Native.Nat.{ℕ, zero, suc, ◌+◌, ◌*◌, ◌/◌, ◌<◌, ◌≤◌, ◌^◌, max}
use Rattle.std.specs.Prelude as prelude
use Rattle.std.specs.Prelude.{Ok, Err}
use mathlib.Core.Path.{◌≡◌, refl, sym, ap, ◌∙◌}
use mathlib.Core.Bool.{Bool, true, false, cond}
use mathlib.Core.List.{List, [], ◌∷◌, ◌++◌}
use native.Mathlib.Omega.{arith}
use lib.ListN.{length, take, drop, length-drop, length-append, get_or-eq_default}
use lib.Seq.{length-take-le}
use lib.Dec.{ltb, eqb}
use borrow.Author.Tests.{lt-ltb, le-ltb}
use Rattle.schedule.specs.FrameMachine.{evaluate, return, Arrival, close, keep, fail}
use Rattle.schedule.specs.FrameMachine.{Control as FlatControl}
use Rattle.schedule.specs.Algebra.{CostAlgebra, spans}
use Rattle.schedule.specs.Machine.{Slot, ordinary, plain_right, promoted_right, stop, state, Result, ended, ongoing, after_transition, with_fuel, arrived, move}
use Rattle.schedule.specs.Bounds.{total, kept_spans}
use Rattle.table.specs.Words.{functions, arity_at, start_of, tag_at, a_at, b_at}
use Rattle.table.specs.Nodes.{node_at}
use Rattle.frames.specs.Frames.{seat_at, locals_word, arguments_word, frame_kind, frame_function, frame_node, frame_count, frame_value, frame_before, frame_left, frame_locals, frame_arguments, turned, collected, loaded, appended}
use Rattle.frames.proofs.Writes.{Turned, Loaded, is_turned, is_collected, is_loaded, is_appended}
use Rattle.table.specs.declared.Operation.{Operation}
use Rattle.table.specs.declared.Node.TheVariants.{Arithmetic}
use Rattle.arithmetic.specs.declared.Failure.{Failure}
use Rattle.arithmetic.specs.Operate.{computed, number_of}
use Rattle.language.specs.Language.{Code, Frame, left_operand, right_operand, condition, binding, argument, place, frame_place, at, entered, second, third, called, arrive, gathered, result, operated, language}
use Rattle.moves.specs.declared.Control.{Control}
use Rattle.moves.specs.declared.Control.TheVariants.{Eval, Ret}
use Rattle.moves.specs.declared.Registers.{Registers}
use Rattle.moves.specs.declared.Plan.{Plan}
use Rattle.frames.specs.declared.Seat.{Seat}
use Rattle.moves.specs.declared.Stopped.{Stopped}
use Rattle.moves.specs.declared.Step.{Step}
use Rattle.moves.specs.declared.Step.TheVariants.{Go, Value, Halt}
use Rattle.moves.specs.Layout.{code_at, slots, slot_of, slot_at, stack_of, control_of, run_counts_of, state_of, result_of, ticked, restarted, oldest_without, halted}
use Rattle.moves.specs.Ready.{Stands, tag_of, Fitting, FittingAt, Held, Controlled, Oldest, Kept, Ready, Paid, KeptBy, Stepped, Returns, Sitting, Child, Concluded, Operand, called_at, stopped_at, placed_result, operation_of, operation, Resumed, resumes, stays}
use Rattle.moves.proofs.Nodes.{arithmetic_in, operation_in, choose_in, let_in, both_in, called_in, argument_later, enter}
use Rattle.moves.proofs.Frames.{frame_locals_lem, body_locals}
use Rattle.moves.proofs.Stacks.{stack_more, held_more, held_top, same_slots, few_arguments}
use Rattle.moves.proofs.OldestFork.{oldest_other, oldest_under, oldest_without_lem, without_none}
use Rattle.moves.proofs.Sparing.{spared_same, spared_turned, spared_collected}

module _ {w ws ls : List ℕ} {plan : Plan} {s : Registers} {v t kind : ℕ} (q : Returns w ws ls plan s v t kind) where
  abbrev r : Ready w ws ls plan s
  r = q.ready

  abbrev cap : ℕ
  cap = length ws / 32

  abbrev K : CostAlgebra
  K = spans plan.tau

  abbrev code : Code
  code = code_at ws (32 * t)

  pub top : FittingAt w ws (32 * t)
  top = (held_top w ws t (rw q.depth at r.kept.held)).0

  rest : Held w ws t
  rest = (held_top w ws t (rw q.depth at r.kept.held)).1

  pub room : 32 * t + 32 ≤ length ws
  room = omega (arith, r.kept.room, q.depth)

  small : t < 4096
  small = omega (arith, r.limits.frames, room)

  oldest_here : Oldest ws (t + 1) s.oldest
  oldest_here = rw q.depth at r.kept.oldest

  pub tag_here : tag_at w (start_of w (frame_function ws (32 * t))) (frame_node ws (32 * t)) ≡ tag_of kind
  tag_here = rw q.of_kind at top.tag

  pub sitting : Sitting w ws ls (32 * t)
  sitting = record { table = r.kept.table; room = room; sixteen = r.kept.sixteen; stands = top.stands }

  pub sitting_turned : (kind' g : ℕ) (ws' : List ℕ) → length ws' ≡ length ws → ws' ≡ turned ws (32 * t) kind' v g → Sitting w ws' ls (32 * t)
  sitting_turned kind' g ws' long e = let u = is_turned ws ws' (32 * t) room kind' v g e in record { table = r.kept.table; room = omega (arith, room); sixteen = r.kept.sixteen; stands = rw (u.is_function, u.is_node, u.is_count) top.stands }

  pub sitting_collected : (n : ℕ) → n < 3 → (ws' : List ℕ) → length ws' ≡ length ws → ws' ≡ collected ws (32 * t) n v → Sitting w ws' ls (32 * t)
  sitting_collected n few ws' long e = let u = is_collected ws ws' (32 * t) room n v few e in record { table = r.kept.table; room = omega (arith, room); sixteen = r.kept.sixteen; stands = rw (u.is_function, u.is_node, u.is_count) top.stands }

  -- the move, by the slot that the words hold
  abbrev pub from : Slot ℕ Frame Code → Result K (language w)
  from x = move K (language w) plan.fuel.0 cap plan.birth (state (return v) (x ∷ stack_of ws t) s.credits.0 s.span.0 (run_counts_of s))

  slot_is : slot_at ws (32 * t) ≡ slot_of kind code (frame_value ws (32 * t)) (frame_arguments ws (32 * t)) (frame_before ws (32 * t)) (frame_left ws (32 * t))
  slot_is = rw q.of_kind

  pub returned : move K (language w) plan.fuel.0 cap plan.birth (state_of w plan.tau ws ls s)
      ≡ from (slot_of kind code (frame_value ws (32 * t)) (frame_arguments ws (32 * t)) (frame_before ws (32 * t)) (frame_left ws (32 * t)))
  unfolding control_of
  returned = rw (q.is, q.depth, ← stack_more ws t, slot_is)

  abbrev to : FlatControl Code → List (Slot ℕ Frame Code) → Result K (language w)
  to c S = ongoing (after_transition K (language w) c S s.credits.0 s.span.0 (run_counts_of s))

  -- an ordinary frame, by what arrives there
  module _ (paid : Paid plan s) (fr : Frame) where
    closes : (c : FlatControl Code) → arrive w fr v ≡ close c → from (ordinary fr) ≡ to c (stack_of ws t)
    unfolding move arrived with_fuel
    closes c e = rw (e, lt-ltb _ _ paid)

    keeps : (fr' : Frame) (c : Code) → arrive w fr v ≡ keep fr' c → from (ordinary fr) ≡ to (evaluate c) (ordinary fr' ∷ stack_of ws t)
    unfolding move arrived with_fuel
    keeps fr' c e = rw (e, lt-ltb _ _ paid)

    fails : (i : ℕ) → arrive w fr v ≡ fail i → from (ordinary fr) ≡ ended (stop i (frame_place fr)) s.span.0 (run_counts_of s)
    unfolding move arrived with_fuel
    fails i e = rw (e, lt-ltb _ _ paid)

  -- the frame is closed
  closed_kept : (ls' : List ℕ) (c : Control) → length ls' ≡ 16 → Controlled w c → (kind ≡ 5 → ⊥) → Kept w ws ls' plan.birth c t s.oldest
  closed_kept ls' c l h n = record {
    table = r.kept.table;
    sixteen = l;
    room = omega (arith, room);
    held = rest;
    control = h;
    oldest = oldest_under ws t s.oldest oldest_here (λ z. n (sym q.of_kind ∙ z));
    born = r.kept.born;
  }

  closed : (ls' : List ℕ) (c : Control) (d : FlatControl Code) → control_of c ls' ≡ d → length ls' ≡ 16 → Controlled w c → (kind ≡ 5 → ⊥)
      → from (slot_of kind code (frame_value ws (32 * t)) (frame_arguments ws (32 * t)) (frame_before ws (32 * t)) (frame_left ws (32 * t))) ≡ to d (stack_of ws t)
      → (n : Registers) → n ≡ ticked s c t s.oldest → Stepped w ws ls plan s ws ls' (Go n)
  unfolding result_of KeptBy
  closed ls' c d x l h k m n u = rw u (record { same = returned ∙ m ∙ rw x; kept = closed_kept ls' c l h k; spared = spared_same ws })

  -- a child of the frame's node, with the frame's locals
  module _ (last : Bool) (ls' : List ℕ) (seat : Seat) (h : Child w ws ls (32 * t) last ls' seat) where
    child_locals : Loaded ws (locals_word (32 * t)) (frame_count ws (32 * t)) ls'
    child_locals = frame_locals_lem w ws ls (32 * t) sitting ls' h.locals

    child_code : control_of (Eval seat) ls' ≡ evaluate (at code (cond last (third w code) (second w code)) code.locals)
    unfolding control_of
    child_code = rw (h.seat, child_locals.are)

  -- a frame turned to its second child
  module _ (kind' g : ℕ) (ws' ls' : List ℕ) (seat : Seat) (long : length ws' ≡ length ws) (e : ws' ≡ turned ws (32 * t) kind' v g) (h : Child w ws' ls (32 * t) false ls' seat) where
    turned_words : Turned ws ws' (32 * t) kind' v g
    turned_words = is_turned ws ws' (32 * t) room kind' v g e

    turned_locals : Loaded ws' (locals_word (32 * t)) (frame_count ws' (32 * t)) ls'
    turned_locals = frame_locals_lem w ws' ls (32 * t) (sitting_turned kind' g ws' long e) ls' h.locals

    turned_below : (stack_of ws t ≡ stack_of ws' t) × Held w ws' t
    turned_below = same_slots w ws ws' r.kept.table long t (sym turned_words.below) (omega (arith, room)) rest

    turned_code : control_of (Eval seat) ls' ≡ evaluate (at code (second w code) code.locals)
    unfolding control_of
    turned_code = rw (h.seat, turned_locals.are, turned_words.is_function, turned_words.is_node, turned_words.is_count, turned_words.above)

    turned_stack : (x : Slot ℕ Frame Code) → ((vs : List ℕ) → slot_of kind' code v vs (frame_before ws (32 * t)) g ≡ x) → stack_of ws' (t + 1) ≡ x ∷ stack_of ws t
    turned_stack x k =
        let y : slot_at ws' (32 * t) ≡ slot_of kind' code v (frame_arguments ws' (32 * t)) (frame_before ws (32 * t)) g =
        rw (turned_words.is_kind, turned_words.is_function, turned_words.is_node, turned_words.is_count, turned_words.is_value, turned_words.is_before, turned_words.is_branch, turned_words.above) in
        sym (stack_more ws' t) ∙ rw (y, k (frame_arguments ws' (32 * t)), turned_below.0)

    turned_kept : (o : ℕ) → Fitting w kind' (frame_function ws (32 * t)) (frame_node ws (32 * t)) (frame_count ws (32 * t)) v
        → Stands w (frame_function ws (32 * t)) (second w code) (frame_count ws (32 * t)) → Oldest ws' (t + 1) o → (plan.birth ≡ true → o ≡ 4096)
        → Kept w ws' ls' plan.birth (Eval seat) (t + 1) o
    unfolding Controlled
    turned_kept o ok child old bo = record {
      table = r.kept.table;
      sixteen = turned_locals.sixteen;
      room = omega (arith, room);
      held = held_more w ws' t (rw (turned_words.is_kind, turned_words.is_function, turned_words.is_node, turned_words.is_count, turned_words.is_value) ok) turned_below.1;
      control = rw (h.seat, turned_words.is_function, turned_words.is_node, turned_words.is_count) child;
      oldest = old;
      born = bo;
    }

    oldest_turned : (kind ≡ 5 → ⊥) → (kind' ≡ 5 → ⊥) → (7 ≤ kind' → 7 ≤ kind) → Oldest ws' (t + 1) s.oldest
    oldest_turned a c m = oldest_other ws ws' t (sym turned_words.below) s.oldest small (oldest_under ws t s.oldest oldest_here (λ z. a (sym q.of_kind ∙ z))) (λ x. c (sym turned_words.is_kind ∙ x))
        (λ x. oldest_here.past t (omega arith) (omega (arith, q.of_kind, m (omega (arith, turned_words.is_kind)))))

-- an operation that gave a value, and one that failed
value_only : (f p z : ℕ) (c : prelude.Result ℕ Failure) → Ok z ≡ placed_result f p c → result c ≡ close (return z)
unfolding placed_result result
value_only f p z (Ok a) e = let i : a ≡ z = cc in rw i
value_only f p z (Err d) e = let a : ◌≡◌ {A = ℕ} 0 1 = cc in absurd (omega arith)

failure_only : (f p : ℕ) (h : Stopped) (c : prelude.Result ℕ Failure) → Err h ≡ placed_result f p c → (h ≡ stopped_at h.number f p) × (result c ≡ fail h.number)
unfolding placed_result result
failure_only f p h (Ok a) e = let no : ◌≡◌ {A = ℕ} 0 1 = cc in absurd (omega arith)
failure_only f p h (Err d) e = let i : h ≡ stopped_at (number_of d) f p = cc in rw i (refl, refl)

-- one of two children
either : (w : List ℕ) (f k x y : ℕ) (b : Bool) → Stands w f x k → Stands w f y k → Stands w f (cond b x y) k
either w f k x y true a c = a
either w f k x y false a c = c

-- the kinds from 8 on
late_slot : (kind : ℕ) → 8 ≤ kind → (c : Code) (x : ℕ) (vs : List ℕ) (g l : ℕ) → slot_of kind c x vs g l ≡ promoted_right g l c x
unfolding slot_of
late_slot kind h c x vs g l = get_or-eq_default (slots c x vs g) (promoted_right g l c x) h

late_tag : (kind : ℕ) → 8 ≤ kind → tag_of kind ≡ 6
late_tag kind h = let k : 5 ≤ kind = omega arith in get_or-eq_default (2 ∷ 2 ∷ 3 ∷ 4 ∷ 5 ∷ []) 6 k

module _ {w ws ls : List ℕ} {plan : Plan} {s : Registers} {v t : ℕ} where
  -- a left operand, or a left value: the frame turns
  pub stepped_left_operand : (q : Returns w ws ls plan s v t 0) → Paid plan s → (ws' ls' : List ℕ) (seat : Seat) → length ws' ≡ length ws → ws' ≡ turned ws (32 * t) 1 v 0 → Child w ws' ls (32 * t) false ls' seat
      → (n : Registers) → n ≡ ticked s (Eval seat) (t + 1) s.oldest → Stepped w ws ls plan s ws' ls' (Go n)
  unfolding slot_of arrive result_of KeptBy
  stepped_left_operand q paid ws' ls' seat long u h n e =
      let tag = tag_here q in
      let fit = top q in
      let table = q.ready.kept.table in
      rw e (record {
        same = returned q ∙ keeps q paid (left_operand (code_at ws (32 * t))) (right_operand (code_at ws (32 * t)) v) _ refl
            ∙ rw (turned_code q 1 0 ws' ls' seat long u h, turned_stack q 1 0 ws' ls' seat long u h (ordinary (right_operand (code_at ws (32 * t)) v)) (λ vs. refl));
        kept = turned_kept q 1 0 ws' ls' seat long u h s.oldest (record { stands = fit.stands; tag = tag; awaits = λ y. absurd (omega arith) }) (arithmetic_in w table fit.stands tag).1
            (oldest_turned q 1 0 ws' ls' seat long u h (λ z. omega arith) (λ z. omega arith) (λ z. absurd (omega arith))) q.ready.kept.born;
        spared = spared_turned ws ws' t (room q) 1 v 0 u;
      })

  pub stepped_plain_left : (q : Returns w ws ls plan s v t 5) → Paid plan s → (ws' ls' : List ℕ) (seat : Seat) → length ws' ≡ length ws → ws' ≡ turned ws (32 * t) 6 v 0 → Child w ws' ls (32 * t) false ls' seat
      → (o : ℕ) → o ≡ oldest_without s.oldest t → (n : Registers) → n ≡ ticked s (Eval seat) (t + 1) o → Stepped w ws ls plan s ws' ls' (Go n)
  unfolding slot_of move with_fuel result_of KeptBy
  stepped_plain_left q paid ws' ls' seat long u h o m n e =
      let x = turned_words q 6 0 ws' ls' seat long u h in
      let tag = tag_here q in
      let fit = top q in
      let table = q.ready.kept.table in
      rw (e, m) (record {
        same = returned q
            ∙ rw (lt-ltb _ _ paid, turned_code q 6 0 ws' ls' seat long u h, turned_stack q 6 0 ws' ls' seat long u h (plain_right (code_at ws (32 * t)) v) (λ vs. refl));
        kept = turned_kept q 6 0 ws' ls' seat long u h (oldest_without s.oldest t) (record { stands = fit.stands; tag = tag; awaits = λ y. absurd (omega arith) }) (both_in w table fit.stands tag).2
            (oldest_other ws ws' t (sym x.below) (oldest_without s.oldest t) (small q) (oldest_without_lem ws t s.oldest (small q) (oldest_here q)) (λ z. omega (arith, x.is_kind)) (λ z. absurd (omega (arith, x.is_kind))))
            (λ z. without_none s.oldest t (q.ready.kept.born z));
        spared = spared_turned ws ws' t (room q) 6 v 0 u;
      })

  pub stepped_turn : (q : Returns w ws ls plan s v t 7) → (ws' ls' : List ℕ) (seat : Seat) → length ws' ≡ length ws → ws' ≡ turned ws (32 * t) 8 v s.span.0 → Child w ws' ls (32 * t) false ls' seat
      → (n : Registers) → n ≡ restarted s (Eval seat) (t + 1) s.oldest 0 s.forks → Stepped w ws ls plan s ws' ls' (Go n)
  unfolding slot_of move result_of KeptBy
  stepped_turn q ws' ls' seat long u h n e =
      let tag = tag_here q in
      let fit = top q in
      let table = q.ready.kept.table in
      rw e (record {
        same = returned q
            ∙ rw (turned_code q 8 s.span.0 ws' ls' seat long u h, turned_stack q 8 s.span.0 ws' ls' seat long u h (promoted_right (frame_before ws (32 * t)) s.span.0 (code_at ws (32 * t)) v) (λ vs. refl));
        kept = turned_kept q 8 s.span.0 ws' ls' seat long u h s.oldest (record { stands = fit.stands; tag = tag; awaits = λ y. absurd (omega arith) }) (both_in w table fit.stands tag).2
            (oldest_turned q 8 s.span.0 ws' ls' seat long u h (λ z. omega arith) (λ z. omega arith) (λ z. omega arith)) q.ready.kept.born;
        spared = spared_turned ws ws' t (room q) 8 v s.span.0 u;
      })

  pub stepped_condition : (q : Returns w ws ls plan s v t 2) → Paid plan s → (ls' : List ℕ) (seat : Seat) → Child w ws ls (32 * t) (eqb v 0) ls' seat
      → (n : Registers) → n ≡ ticked s (Eval seat) t s.oldest → Stepped w ws ls plan s ws ls' (Go n)
  unfolding slot_of arrive Controlled
  stepped_condition q paid ls' seat h n e =
      let a = choose_in w q.ready.kept.table (top q).stands (tag_here q) in
      closed q ls' (Eval seat) _ (child_code q (eqb v 0) ls' seat h) (child_locals q (eqb v 0) ls' seat h).sixteen
      (rw h.seat (either w _ _ _ _ (eqb v 0) a.2 a.1)) (λ x. omega arith) (closes q paid (condition (code_at ws (32 * t))) _ refl) n e

  pub binding_few : (q : Returns w ws ls plan s v t 3) → frame_count ws (32 * t) + 1 ≤ 16
  binding_few q = (let_in w q.ready.kept.table (top q).stands (tag_here q)).0

  pub plain_few : (q : Returns w ws ls plan s v t 6) → frame_count ws (32 * t) + 2 ≤ 16
  plain_few q = (both_in w q.ready.kept.table (top q).stands (tag_here q)).0

  pub stepped_binding : (q : Returns w ws ls plan s v t 3) → Paid plan s → (ls₁ ls₂ : List ℕ) (seat : Seat) → Child w ws ls (32 * t) false ls₁ seat → ls₂ ≡ appended ls₁ seat.count v
      → (n : Registers) → n ≡ ticked s (Eval (record { function = seat.function; node = seat.node; count = seat.count + 1 })) t s.oldest → Stepped w ws ls plan s ws ls₂ (Go n)
  unfolding slot_of arrive Controlled control_of
  stepped_binding q paid ls₁ ls₂ seat h x n e =
      let l = child_locals q false ls₁ seat h in
      let k : seat.count ≡ frame_count ws (32 * t) = ap (λ (z : Seat). z.count) h.seat in
      let a = is_appended ls₁ ls₂ seat.count v (omega (arith, binding_few q)) l.sixteen x in
      let b = let_in w q.ready.kept.table (top q).stands (tag_here q) in
      closed q ls₂ (Eval (record { function = seat.function; node = seat.node; count = seat.count + 1 })) _ (rw (a.are, h.seat, l.are)) a.sixteen
      (rw h.seat b.2) (λ x. omega arith) (closes q paid (binding (code_at ws (32 * t))) _ refl) n e

  -- the body of a fork's node
  module _ {kind : ℕ} (q : Returns w ws ls plan s v t kind) (up : 6 ≤ kind) (few : frame_count ws (32 * t) + 2 ≤ 16) (ls' : List ℕ) (c : Control) (h : Concluded w ws ls (32 * t) v ls' c) where
    both_locals : (length ls' ≡ 16) × (take (frame_count ws (32 * t) + 2) ls' ≡ frame_locals ws (32 * t) ++ (frame_value ws (32 * t) ∷ v ∷ []))
    both_locals = body_locals w ws ls (32 * t) (sitting q) few (frame_value ws (32 * t)) v ls' h.locals

    body_code : control_of c ls' ≡ evaluate (at (code_at ws (32 * t)) (third w (code_at ws (32 * t))) ((code_at ws (32 * t)).locals ++ (frame_value ws (32 * t) ∷ v ∷ [])))
    unfolding control_of
    body_code = rw (h.is, both_locals.1)

    body_kept : tag_of kind ≡ 6 → Kept w ws ls' plan.birth c t s.oldest
    unfolding Controlled
    body_kept tag = closed_kept q ls' c both_locals.0
        (rw h.is (both_in w q.ready.kept.table (top q).stands (tag_here q ∙ tag)).3) (λ x. omega arith)

  pub stepped_plain_right : (q : Returns w ws ls plan s v t 6) → Paid plan s → (ls' : List ℕ) (c : Control) → Concluded w ws ls (32 * t) v ls' c
      → (n : Registers) → n ≡ ticked s c t s.oldest → Stepped w ws ls plan s ws ls' (Go n)
  unfolding slot_of move with_fuel result_of KeptBy
  stepped_plain_right q paid ls' c h n e = rw e (record {
    same = returned q ∙ rw (lt-ltb _ _ paid, body_code q (omega arith) (plain_few q) ls' c h);
    kept = body_kept q (omega arith) (plain_few q) ls' c h refl;
    spared = spared_same ws;
  })

  module _ {kind : ℕ} (q : Returns w ws ls plan s v t kind) (late : 8 ≤ kind) where
    pub both_few : frame_count ws (32 * t) + 2 ≤ 16
    both_few = (both_in w q.ready.kept.table (top q).stands (tag_here q ∙ late_tag kind late)).0

    stack_late : stack_of ws s.depth ≡ promoted_right (frame_before ws (32 * t)) (frame_left ws (32 * t)) (code_at ws (32 * t)) (frame_value ws (32 * t)) ∷ stack_of ws t
    stack_late = rw (q.depth, ← stack_more ws t, slot_is q, late_slot kind late (code_at ws (32 * t)) (frame_value ws (32 * t)) (frame_arguments ws (32 * t)) (frame_before ws (32 * t)) (frame_left ws (32 * t)))

    -- what a join adds up
    pub join_fits : (frame_before ws (32 * t) < 2 ^ 60) × (plan.tau ≤ 10000) × (frame_left ws (32 * t) < 2 ^ 60) × (s.span.0 < 2 ^ 60)
    unfolding total kept_spans
    join_fits =
        let x = rw stack_late at q.ready.bounded.costs in
        omega (arith, x, q.ready.bounded.within_fuel, q.ready.bounded.forks, q.ready.limits.fuel, q.ready.limits.tau, q.ready.limits.frames)

    pub stepped_join : (ls' : List ℕ) (c : Control) → Concluded w ws ls (32 * t) v ls' c → (m : ℕ) → m ≡ frame_before ws (32 * t) + (plan.tau + max (frame_left ws (32 * t)) s.span.0)
        → (n : Registers) → n ≡ restarted s c t s.oldest m s.forks → Stepped w ws ls plan s ws ls' (Go n)
    unfolding move result_of KeptBy
    stepped_join ls' c h m x n e = rw (e, x) (record {
      same = returned q
          ∙ rw (late_slot kind late (code_at ws (32 * t)) (frame_value ws (32 * t)) (frame_arguments ws (32 * t)) (frame_before ws (32 * t)) (frame_left ws (32 * t)), body_code q (omega arith) both_few ls' c h);
      kept = body_kept q (omega arith) both_few ls' c h (late_tag kind late);
      spared = spared_same ws;
    })

  -- the function that a call's frame calls
  module _ (q : Returns w ws ls plan s v t 4) {r : Seat} (is : r ≡ seat_at ws (32 * t)) {start : ℕ} (e : start ≡ start_of w r.function) {g : ℕ} (is-g : g ≡ a_at w start r.node) where
    pub called_here : g ≡ called_at w ws (32 * t)
    called_here = is-g ∙ rw (e, is)

    pub called_inside : 2 * g + 1 < length w
    called_inside = omega (arith, called_here, called_in w q.ready.kept.table (top q).stands (tag_here q), q.ready.kept.table.contents.header.room)

  -- THE ARGUMENTS OF A CALL
  module _ (q : Returns w ws ls plan s v t 4) (n : ℕ) (is-n : n ≡ frame_value ws (32 * t)) where
    abbrev caller : Code
    caller = code_at ws (32 * t)

    pub few_here : n < 3
    few_here = rw is-n (few_arguments w q.ready.kept.table _ _ _ _ _ (top q) q.of_kind)

    pub awaits_here : n < arity_at w (called_at w ws (32 * t))
    awaits_here = rw is-n ((top q).awaits q.of_kind)

    length_more : length (frame_arguments ws (32 * t) ++ (v ∷ [])) ≡ n + 1
    length_more =
        let x : frame_value ws (32 * t) ≤ length (drop (arguments_word (32 * t)) ws) = simp length-drop (omega (arith, room q, few_here)) in
        length-append (frame_arguments ws (32 * t)) (v ∷ []) ∙ rw (length-take-le _ _ x, ← is-n)

    pub stepped_next_argument : Paid plan s → n + 1 < arity_at w (called_at w ws (32 * t)) → (ws' ls' : List ℕ) (seat : Seat) → length ws' ≡ length ws → ws' ≡ collected ws (32 * t) n v → Child w ws' ls (32 * t) (ltb 1 (n + 1)) ls' seat
        → (m : Registers) → m ≡ ticked s (Eval seat) (t + 1) s.oldest → Stepped w ws ls plan s ws' ls' (Go m)
    unfolding slot_of arrive gathered result_of KeptBy Controlled control_of
    stepped_next_argument paid less ws' ls' seat long c h m e =
        let u = is_collected ws ws' (32 * t) (room q) n v few_here c in
        let l = frame_locals_lem w ws' ls (32 * t) (sitting_collected q n few_here ws' long c) ls' h.locals in
        let table = q.ready.kept.table in
        let fit = top q in
        let tag = tag_here q in
        let more = frame_arguments ws (32 * t) ++ (v ∷ []) in
        let locals = u.is_locals (frame_count ws (32 * t)) fit.stands.few in
        let below = same_slots w ws ws' table long t (sym u.below) (omega (arith, room q)) (rest q) in
        let kind : frame_kind ws' (32 * t) ≡ 4 = u.is_kind ∙ q.of_kind in
        let slot : slot_at ws' (32 * t) ≡ ordinary (argument caller more) = rw (kind, u.is_function, u.is_node, u.is_count, locals, u.is_value, u.is_arguments, is-n) in
        let stack : stack_of ws' (t + 1) ≡ ordinary (argument caller more) ∷ stack_of ws t = sym (stack_more ws' t) ∙ rw (slot, below.0) in
        let control : control_of (Eval seat) ls' ≡ evaluate (at caller (cond (ltb 1 (n + 1)) (third w caller) (second w caller)) caller.locals) =
        rw (h.seat, l.are, u.is_function, u.is_node, u.is_count, locals) in
        rw e (record {
          same = returned q
              ∙ keeps q paid (argument caller (frame_arguments ws (32 * t))) (argument caller more) (at caller (cond (ltb 1 (n + 1)) (third w caller) (second w caller)) caller.locals) (rw (length_more, lt-ltb _ _ less))
              ∙ rw (control, stack);
          kept = record {
            table = table;
            sixteen = l.sixteen;
            room = omega (arith, room q);
            held = held_more w ws' t (rw (kind, u.is_function, u.is_node, u.is_count, u.is_value) (record { stands = fit.stands; tag = tag; awaits = λ y. less })) below.1;
            control = rw (h.seat, u.is_function, u.is_node, u.is_count) (argument_later w table fit.stands tag (n + 1) (omega arith) less);
            oldest = oldest_other ws ws' t (sym u.below) s.oldest (small q) (oldest_under ws t s.oldest (oldest_here q) (λ z. omega (arith, q.of_kind))) (λ z. omega arith) (λ z. absurd (omega arith));
            born = q.ready.kept.born;
          };
          spared = spared_collected ws ws' t (room q) n v few_here c;
        })

    pub stepped_last_argument : Paid plan s → (g : ℕ) → g ≡ called_at w ws (32 * t) → arity_at w g ≤ n + 1 → (ls₁ ls₂ : List ℕ) → ls₁ ≡ loaded ls ws (arguments_word (32 * t)) n → ls₂ ≡ appended ls₁ n v
        → (m : Registers) → m ≡ ticked s (Eval (record { function = g; node = 0; count = n + 1 })) t s.oldest → Stepped w ws ls plan s ws ls₂ (Go m)
    unfolding slot_of arrive gathered Controlled control_of
    stepped_last_argument paid g is-g most ls₁ ls₂ x y m e =
        let l = is_loaded ls ws ls₁ (arguments_word (32 * t)) n (omega (arith, few_here)) (omega (arith, few_here, room q)) q.ready.kept.sixteen x in
        let a = is_appended ls₁ ls₂ n v (omega (arith, few_here)) l.sixteen y in
        let table = q.ready.kept.table in
        let fit = top q in
        let more = frame_arguments ws (32 * t) ++ (v ∷ []) in
        let is-arity : arity_at w g ≡ n + 1 = omega (arith, most, rw (← is-g) at awaits_here) in
        let callee : g < functions w = rw is-g (called_in w table fit.stands (tag_here q)) in
        let control : control_of (Eval (record { function = g; node = 0; count = n + 1 })) ls₂ ≡ evaluate (entered (called w caller) more) = rw (a.are, l.are, is-n, is-g) in
        closed q ls₂ (Eval (record { function = g; node = 0; count = n + 1 })) (evaluate (entered (called w caller) more)) control a.sixteen (rw (← is-arity) (enter w table fit.stands g callee)) (λ x. omega arith)
        (closes q paid (argument caller (frame_arguments ws (32 * t))) (evaluate (entered (called w caller) more)) (rw (length_more, le-ltb _ _ (rw is-g at most)))) m e

-- A RIGHT OPERAND
module _ {w ws ls : List ℕ} {plan : Plan} {s : Registers} {v t : ℕ} (q : Returns w ws ls plan s v t 1) where
  abbrev x : ℕ
  x = frame_value ws (32 * t)

  abbrev frame : Frame
  frame = right_operand (code_at ws (32 * t)) (frame_value ws (32 * t))

  the_operation : (o : Operation) × (node_at w (start_of w (frame_function ws (32 * t))) (frame_node ws (32 * t)) ≡ Arithmetic o (b_at w (start_of w (frame_function ws (32 * t))) (frame_node ws (32 * t))))
  the_operation = operation_in w q.ready.kept.table (top q).stands (tag_here q)

  arrives : arrive w frame v ≡ result (computed the_operation.0 x v)
  unfolding arrive operated
  arrives = rw the_operation.1

  steps : operation w ws (32 * t) v ≡ placed_result (frame_function ws (32 * t)) (frame_node ws (32 * t)) (computed the_operation.0 x v)
  unfolding operation_of
  steps = rw the_operation.1

  pub operand : Operand w ws (32 * t)
  operand = record { table = q.ready.kept.table; room = room q; stands = (top q).stands; tag = tag_here q }

  pub stepped_result : Paid plan s → (z : ℕ) → Ok z ≡ operation w ws (32 * t) v → (n : Registers) → n ≡ ticked s (Ret z) t s.oldest → Stepped w ws ls plan s ws ls (Go n)
  unfolding slot_of control_of Controlled
  stepped_result paid z e n u =
      closed q ls (Ret z) (return z) refl q.ready.kept.sixteen tt (λ y. omega arith)
      (closes q paid frame (return z) (arrives ∙ value_only _ _ z (computed the_operation.0 x v) (e ∙ steps))) n u

  pub stepped_failure : Paid plan s → (h : Stopped) → Err h ≡ operation w ws (32 * t) v → Stepped w ws ls plan s ws ls (Halt h)
  unfolding slot_of result_of KeptBy
  stepped_failure paid h e =
      let o = failure_only _ _ h (computed the_operation.0 x v) (e ∙ steps) in
      rw o.0 (record { same = returned q ∙ fails q paid frame h.number (arrives ∙ o.1); kept = tt; spared = spared_same ws })

  pub stepped_resumed : Paid plan s → (o : prelude.Result ℕ Stopped) → o ≡ operation w ws (32 * t) v → (r : Step) → Resumed s t o r → Stepped w ws ls plan s ws ls r
  stepped_resumed paid o e r (resumes z i u) = rw u (stepped_result paid z (sym i ∙ e) _ refl)
  stepped_resumed paid o e r (stays h i u) = rw u (stepped_failure paid h (sym i ∙ e))

-- NO FUEL: a frame that is not promoted is not reached
module _ {w ws ls : List ℕ} {plan : Plan} {s : Registers} {v t kind : ℕ} (q : Returns w ws ls plan s v t kind) (dry : plan.fuel.0 ≤ s.transitions) where
  abbrev spent : Result (spans plan.tau) (language w)
  spent = ended (stop 20 (place (code_at ws (32 * t)))) s.span.0 (run_counts_of s)

  ordinary_dry : (fr : Frame) (a : Arrival Code Frame) → arrive w fr v ≡ a → frame_place fr ≡ place (code_at ws (32 * t)) → from q (ordinary fr) ≡ spent
  unfolding move arrived with_fuel
  ordinary_dry fr (close c) e p = rw (e, le-ltb _ _ dry, p)
  ordinary_dry fr (keep f c) e p = rw (e, le-ltb _ _ dry, p)
  ordinary_dry fr (fail i) e p = rw (e, le-ltb _ _ dry, p)

  by_kind : (k : ℕ) → k < 7 → (x : ℕ) (vs : List ℕ) (g l : ℕ) → from q (slot_of k (code_at ws (32 * t)) x vs g l) ≡ spent
  unfolding slot_of move with_fuel
  by_kind zero h x vs g l = ordinary_dry (left_operand (code_at ws (32 * t))) _ refl refl
  by_kind (suc zero) h x vs g l = ordinary_dry (right_operand (code_at ws (32 * t)) x) _ refl refl
  by_kind (suc (suc zero)) h x vs g l = ordinary_dry (condition (code_at ws (32 * t))) _ refl refl
  by_kind (suc (suc (suc zero))) h x vs g l = ordinary_dry (binding (code_at ws (32 * t))) _ refl refl
  by_kind (suc (suc (suc (suc zero)))) h x vs g l = ordinary_dry (argument (code_at ws (32 * t)) vs) _ refl refl
  by_kind (suc (suc (suc (suc (suc zero))))) h x vs g l = rw (le-ltb _ _ dry)
  by_kind (suc (suc (suc (suc (suc (suc zero)))))) h x vs g l = rw (le-ltb _ _ dry)
  by_kind (suc (suc (suc (suc (suc (suc (suc k))))))) h x vs g l = absurd (omega arith)

  pub stepped_dry : kind < 7 → (r : Seat) → r ≡ seat_at ws (32 * t) → (o : Step) → o ≡ halted 20 r.function r.node → Stepped w ws ls plan s ws ls o
  unfolding result_of KeptBy
  stepped_dry h r is o e = rw (e, is) (record { same = returned q ∙ by_kind kind h _ _ _ _; kept = tt; spared = spared_same ws })

-- NO FRAME LEFT
pub stepped_done : (w ws ls : List ℕ) (plan : Plan) (s : Registers) (v : ℕ) → s.control ≡ Ret v → s.depth ≡ 0 → Stepped w ws ls plan s ws ls (Value v)
unfolding move stack_of control_of result_of KeptBy
stepped_done w ws ls plan s v e d = record { same = rw (e, d); kept = tt; spared = spared_same ws }
