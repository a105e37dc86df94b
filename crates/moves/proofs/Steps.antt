-- What each way through a move tells: the flat machine's move of the state that the words held is the state that they hold.
use Prim.Native.Nat.{ℕ, zero, suc, ◌+◌, ◌*◌, ◌/◌, ◌<◌, ◌≤◌, ◌^◌}
use mathlib.Core.Path.{◌≡◌, refl, sym, ap, ◌∙◌}
use mathlib.Core.Bool.{Bool, true, false, cond, true≢false}
use mathlib.Core.List.{List, [], ◌∷◌}
use native.Mathlib.Omega.{arith}
use lib.ListN.{length, get_or, take}
use lib.Dec.{ltb}
use lib.Seq.{get_or-take}
use borrow.Author.Tests.{lt-ltb, le-ltb}
use Rattle.schedule.specs.FrameMachine.{Next, go_on, open_frame, open_fork, stuck}
use Rattle.schedule.specs.FrameMachine.{Control as FlatControl}
use Rattle.schedule.specs.Algebra.{CostAlgebra, spans}
use Rattle.schedule.specs.Machine.{Slot, ordinary, plain_left, promoted_left, stop, ended, ongoing, tick, after_transition, with_fuel, with_frame, evaluated, move}
use Rattle.schedule.specs.Machine.{RunCounts}
use Rattle.table.specs.declared.Operation.{Operation}
use Rattle.table.specs.declared.Node.{Node}
use Rattle.table.specs.declared.Node.TheVariants.{Constant, Local, Arithmetic, Choose, Let, Call, Both, Unknown}
use Rattle.table.specs.Words.{arity_at, start_of, tag_at, a_at}
use Rattle.table.specs.Nodes.{node_at}
use Rattle.table.proofs.Views.{tag_for}
use Rattle.frames.specs.Frames.{frame_left, pushed}
use Rattle.frames.proofs.Writes.{Pushed, is_pushed}
use Rattle.language.specs.Language.{Code, Frame, left_operand, condition, binding, argument, place, first, next, call, language}
use Rattle.moves.specs.declared.Control.{Control}
use Rattle.moves.specs.declared.Control.TheVariants.{Eval, Ret}
use Rattle.frames.specs.declared.Seat.{Seat}
use Rattle.moves.specs.declared.Registers.{Registers}
use Rattle.moves.specs.declared.Plan.{Plan}
use Rattle.moves.specs.declared.Step.{Step}
use Rattle.moves.specs.declared.Step.TheVariants.{Go}
use Rattle.moves.specs.Layout.{slot_of, slot_at, stack_of, control_of, run_counts_of, state_of, result_of, ticked, oldest_with, halted}
use Rattle.moves.specs.Ready.{Stands, Fitting, Held, Controlled, Oldest, Kept, Ready, KeptBy, Spared, Stepped, Framed, first_at, transited, Opened, dry, opens, Forked, forks, OpenedBoth, born, plain}
use Rattle.moves.proofs.Nodes.{inside, local_in, tag_is, arithmetic_in, choose_in, let_in, both_in, argument_first, enter, called_is, callee}
use Rattle.moves.proofs.Stacks.{length_stack, stack_more, held_more, same_slots}
use Rattle.moves.proofs.OldestFork.{oldest_other, oldest_with_lem}
use Rattle.moves.proofs.Sparing.{spared_same, spared_pushed}

below_cap : (n d : ℕ) → d < n / 32 → n / 32 ≤ 4096 → (32 * d + 32 ≤ n) × (d < 4096)
below_cap n d h g = omega arith

-- what a frame that was just written holds
pushed_slot : (ws ws' : List ℕ) (d kind f p k : ℕ) (ls : List ℕ) (g : ℕ) → Pushed ws ws' (32 * d) kind f p k ls g
    → slot_at ws' (32 * d) ≡ slot_of kind (record { function = f; node = p; locals = take k ls }) 0 [] g (frame_left ws' (32 * d))
pushed_slot ws ws' d kind f p k ls g u = rw (u.is_kind, u.is_function, u.is_node, u.is_count, u.is_value, u.is_before, u.is_locals)

-- only a "both" opens a fork
pub fork_tag : (w : List ℕ) (c : Code) (n : Node) (b d : Code) → next w c n ≡ open_fork b d → tag_for n ≡ 6
unfolding next tag_for
fork_tag w c (Constant v) b d e = let no : ◌≡◌ {A = ℕ} 0 1 = cc in absurd (omega arith)
fork_tag w c (Local slot) b d e = let no : ◌≡◌ {A = ℕ} 0 1 = cc in absurd (omega arith)
fork_tag w c (Arithmetic o x) b d e = let no : ◌≡◌ {A = ℕ} 0 1 = cc in absurd (omega arith)
fork_tag w c (Choose x y) b d e = let no : ◌≡◌ {A = ℕ} 0 1 = cc in absurd (omega arith)
fork_tag w c (Let x) b d e = let no : ◌≡◌ {A = ℕ} 0 1 = cc in absurd (omega arith)
fork_tag w c (Call f x y) b d e = absurd (on (arity_at w f) e)
  where
    on : (k : ℕ) → call w c f k ≡ open_fork b d → ⊥
    on zero i = unfold call in let no : ◌≡◌ {A = ℕ} 0 1 = cc in omega arith
    on (suc k) i = unfold call in let no : ◌≡◌ {A = ℕ} 0 1 = cc in omega arith
fork_tag w c (Both x y) b d e = refl
fork_tag w c Unknown b d e = let no : ◌≡◌ {A = ℕ} 0 1 = cc in absurd (omega arith)

module _ (w ws ls : List ℕ) (plan : Plan) (s : Registers) (r : Ready w ws ls plan s) where
  abbrev cap : ℕ
  cap = length ws / 32

  abbrev K : CostAlgebra
  K = spans plan.tau

  -- the counts stay small
  pub bounds : (s.credits.0 < 2 ^ 60) × (s.span.0 < 2 ^ 60) × (s.transitions < 2 ^ 60) × (s.forks < 2 ^ 60)
  bounds = omega (arith, r.bounded.within_fuel, r.bounded.credits, r.bounded.costs, r.bounded.forks, r.limits.fuel, r.limits.frames)

  -- a transition leads to this state
  gone : (c : FlatControl Code) (S : List (Slot ℕ Frame Code)) (t : RunCounts) (ws' ls' : List ℕ) (next : Registers)
      → control_of next.control ls' ≡ c → stack_of ws' next.depth ≡ S → next.credits.0 ≡ s.credits.0 + 1 → next.span.0 ≡ s.span.0 + 1 → run_counts_of next ≡ tick t
      → ongoing (after_transition K (language w) c S s.credits.0 s.span.0 t) ≡ result_of w plan.tau ws' ls' s (Go next)
  unfolding result_of
  gone c S t ws' ls' next a b d e f = rw (a, b, d, e, f)

  -- A NODE IS EVALUATED
  module _ (seat : Seat) (e : s.control ≡ Eval seat) where
    abbrev f : ℕ
    f = seat.function

    abbrev p : ℕ
    p = seat.node

    abbrev k : ℕ
    k = seat.count

    pub here : Stands w f p k
    unfolding Controlled
    here = rw e at r.kept.control

    abbrev code : Code
    code = record { function = f; node = p; locals = take k ls }

    evaluates : move K (language w) plan.fuel.0 cap plan.birth (state_of w plan.tau ws ls s)
        ≡ evaluated K (language w) plan.fuel.0 cap plan.birth (place code) (next w code (node_at w (start_of w f) p)) (stack_of ws s.depth) s.credits.0 s.span.0 (run_counts_of s)
    unfolding move control_of
    evaluates = rw e

    -- a frame can be written here
    pub framed : Framed ws ls s seat
    framed = record {
      room = r.kept.room;
      frames = r.limits.frames;
      sixteen = r.kept.sixteen;
      few = here.few;
      node = (inside w r.kept.table here).1;
      credits = bounds.0;
      span = bounds.1;
      transitions = bounds.2;
      forks = bounds.3;
    }

    -- a stop leaves all as it was
    stopped : (i : ℕ) (o : Step) → o ≡ halted i f p
        → move K (language w) plan.fuel.0 cap plan.birth (state_of w plan.tau ws ls s) ≡ ended (stop i (place code)) s.span.0 (run_counts_of s)
        → Stepped w ws ls plan s ws ls o
    unfolding result_of KeptBy
    stopped i o u x = rw u (record { same = x; kept = tt; spared = spared_same ws })

    -- the fuel is spent, at a node that is no fork promoted at its birth
    pub stepped_spent : plan.fuel.0 ≤ s.transitions → ((b d : Code) → next w code (node_at w (start_of w f) p) ≡ open_fork b d → plan.birth ≡ false)
        → (o : Step) → o ≡ halted 20 f p → Stepped w ws ls plan s ws ls o
    unfolding evaluated with_fuel
    stepped_spent spent low o u = stopped 20 o u (evaluates ∙ on (next w code (node_at w (start_of w f) p)) refl)
      where
        on : (x : Next Code Frame Code) → next w code (node_at w (start_of w f) p) ≡ x
            → evaluated K (language w) plan.fuel.0 cap plan.birth (place code) x (stack_of ws s.depth) s.credits.0 s.span.0 (run_counts_of s)
            ≡ ended (stop 20 (place code)) s.span.0 (run_counts_of s)
        on (go_on c) i = rw (le-ltb s.transitions plan.fuel.0 spent)
        on (open_frame fr d) i = rw (le-ltb s.transitions plan.fuel.0 spent)
        on (open_fork b d) i = rw (low b d i, le-ltb s.transitions plan.fuel.0 spent)
        on (stuck j) i = rw (le-ltb s.transitions plan.fuel.0 spent)

    -- no frame is opened
    stepped_transit : (c : Control) (o : Step) → next w code (node_at w (start_of w f) p) ≡ go_on (control_of c ls) → Controlled w c → o ≡ transited plan s seat c
        → Stepped w ws ls plan s ws ls o
    unfolding evaluated with_fuel result_of KeptBy
    stepped_transit c o n h u = rw u (record { same = evaluates ∙ rw n (same (ltb s.transitions plan.fuel.0)); kept = keeps (ltb s.transitions plan.fuel.0); spared = spared_same ws })
      where
        same : (b : Bool) → cond b (ongoing (after_transition K (language w) (control_of c ls) (stack_of ws s.depth) s.credits.0 s.span.0 (run_counts_of s))) (ended (stop 20 (place code)) s.span.0 (run_counts_of s))
            ≡ result_of w plan.tau ws ls s (cond b (Go (ticked s c s.depth s.oldest)) (halted 20 f p))
        same true = refl
        same false = refl

        keeps : (b : Bool) → KeptBy w ws ls plan.birth (cond b (Go (ticked s c s.depth s.oldest)) (halted 20 f p))
        keeps true = record { table = r.kept.table; sixteen = r.kept.sixteen; room = r.kept.room; held = r.kept.held; control = h; oldest = r.kept.oldest; born = r.kept.born }
        keeps false = tt

    pub stepped_constant : (v : ℕ) (o : Step) → node_at w (start_of w f) p ≡ Constant v → o ≡ transited plan s seat (Ret v) → Stepped w ws ls plan s ws ls o
    unfolding next control_of Controlled
    stepped_constant v o n u = stepped_transit (Ret v) o (rw n) tt u

    pub stepped_local : (slot : ℕ) (o : Step) → node_at w (start_of w f) p ≡ Local slot → o ≡ transited plan s seat (Ret (get_or ls slot 0)) → Stepped w ws ls plan s ws ls o
    unfolding next control_of Controlled
    stepped_local slot o n u =
        let h : slot < k = local_in w r.kept.table here slot n in
        stepped_transit (Ret (get_or ls slot 0)) o (rw (n, get_or-take k ls slot 0 h)) tt u

    pub stepped_enter : (g b c : ℕ) (o : Step) → node_at w (start_of w f) p ≡ Call g b c → arity_at w g ≡ 0 → o ≡ transited plan s seat (Eval (record { function = g; node = 0; count = 0 })) → Stepped w ws ls plan s ws ls o
    unfolding next call control_of Controlled
    stepped_enter g b c o n a u = stepped_transit (Eval (record { function = g; node = 0; count = 0 })) o (rw (n, a)) (rw a at (enter w r.kept.table here g (callee w r.kept.table here g b c n))) u

    -- a frame is opened
    opened : (ws' : List ℕ) (kind g : ℕ) → s.depth < cap → ws' ≡ pushed ws (32 * s.depth) kind f p k ls g → Pushed ws ws' (32 * s.depth) kind f p k ls g
    opened ws' kind g h e = is_pushed ws ws' (32 * s.depth) (below_cap (length ws) s.depth h r.limits.frames).0 kind f p k ls g here.few r.kept.sixteen e

    opened_spares : (ws' : List ℕ) (kind g : ℕ) → s.depth < cap → ws' ≡ pushed ws (32 * s.depth) kind f p k ls g → Spared ws ws'
    opened_spares ws' kind g h e = spared_pushed ws ws' s.depth (below_cap (length ws) s.depth h r.limits.frames).0 kind f p k ls g here.few r.kept.sixteen e

    module _ (ws' : List ℕ) (long : length ws' ≡ length ws) (kind g o' : ℕ) (h : s.depth < cap) (u : Pushed ws ws' (32 * s.depth) kind f p k ls g)
        (ok : Fitting w kind f p k 0) (child : Stands w f (p + 1) k) (old : Oldest ws' (s.depth + 1) o') (bo : plan.birth ≡ true → o' ≡ 4096) where
      below : (stack_of ws s.depth ≡ stack_of ws' s.depth) × Held w ws' s.depth
      below = same_slots w ws ws' r.kept.table long s.depth (sym u.below) r.kept.room r.kept.held

      pushed_stack : (x : Slot ℕ Frame Code) → slot_of kind code 0 [] g (frame_left ws' (32 * s.depth)) ≡ x → stack_of ws' (s.depth + 1) ≡ x ∷ stack_of ws s.depth
      pushed_stack x q = sym (stack_more ws' s.depth) ∙ rw (pushed_slot ws ws' s.depth kind f p k ls g u, q, below.0)

      pushed_kept : Kept w ws' ls plan.birth (Eval (first_at seat)) (s.depth + 1) o'
      unfolding Controlled
      pushed_kept = record {
        table = r.kept.table;
        sixteen = r.kept.sixteen;
        room = omega (arith, below_cap (length ws) s.depth h r.limits.frames);
        held = held_more w ws' s.depth (rw (u.is_kind, u.is_function, u.is_node, u.is_count, u.is_value) ok) below.1;
        control = child;
        oldest = old;
        born = bo;
      }

    -- an ordinary frame, of a kind below 5
    stepped_frame : (ws' : List ℕ) → length ws' ≡ length ws → (kind : ℕ) → kind < 5 → (fr : Frame) → ((l : ℕ) → slot_of kind code 0 [] 0 l ≡ ordinary fr)
        → next w code (node_at w (start_of w f) p) ≡ open_frame fr (first code) → Fitting w kind f p k 0 → Stands w f (p + 1) k
        → (o : Step) → Opened ws ws' ls plan s seat kind s.oldest o → Stepped w ws ls plan s ws' ls o
    unfolding evaluated with_fuel with_frame result_of KeptBy control_of
    stepped_frame ws' long kind small fr q n ok child o (dry h c d) = rw (c, d) (record { same = evaluates ∙ rw (n, le-ltb _ _ h); kept = tt; spared = spared_same ws })
    stepped_frame ws' long kind small fr q n ok child o (Opened.full h i c d) = rw (c, d) (record { same = evaluates ∙ rw (n, lt-ltb _ _ h, length_stack ws s.depth, le-ltb _ _ i); kept = tt; spared = spared_same ws })
    stepped_frame ws' long kind small fr q n ok child o (opens h i e d) =
        let u = opened ws' kind 0 i e in
        let low : s.depth < 4096 = (below_cap (length ws) s.depth i r.limits.frames).1 in
        let old = oldest_other ws ws' s.depth (sym u.below) s.oldest low r.kept.oldest (λ x. omega (arith, u.is_kind)) (λ x. absurd (omega (arith, u.is_kind))) in
        rw d (record {
          same = evaluates ∙ rw (n, lt-ltb _ _ h, length_stack ws s.depth, lt-ltb _ _ i, pushed_stack ws' long kind 0 s.oldest i u ok child old r.kept.born (ordinary fr) (q _));
          kept = pushed_kept ws' long kind 0 s.oldest i u ok child old r.kept.born;
          spared = opened_spares ws' kind 0 i e;
        })

    module _ (ws' : List ℕ) (long : length ws' ≡ length ws) (o : Step) where
      pub stepped_arithmetic : (x : Operation) (b : ℕ) → node_at w (start_of w f) p ≡ Arithmetic x b → Opened ws ws' ls plan s seat 0 s.oldest o → Stepped w ws ls plan s ws' ls o
      unfolding next slot_of tag_for
      stepped_arithmetic x b n u =
          let t : tag_at w (start_of w f) p ≡ 2 = tag_is w r.kept.table here ∙ ap tag_for n in
          stepped_frame ws' long 0 (omega arith) (left_operand code) (λ l. refl) (rw n) (record { stands = here; tag = t; awaits = λ y. absurd (omega arith) }) (arithmetic_in w r.kept.table here t).0 o u

      pub stepped_choose : (b c : ℕ) → node_at w (start_of w f) p ≡ Choose b c → Opened ws ws' ls plan s seat 2 s.oldest o → Stepped w ws ls plan s ws' ls o
      unfolding next slot_of tag_for
      stepped_choose b c n u =
          let t : tag_at w (start_of w f) p ≡ 3 = tag_is w r.kept.table here ∙ ap tag_for n in
          stepped_frame ws' long 2 (omega arith) (condition code) (λ l. refl) (rw n) (record { stands = here; tag = t; awaits = λ y. absurd (omega arith) }) (choose_in w r.kept.table here t).0 o u

      pub stepped_let : (b : ℕ) → node_at w (start_of w f) p ≡ Let b → Opened ws ws' ls plan s seat 3 s.oldest o → Stepped w ws ls plan s ws' ls o
      unfolding next slot_of tag_for
      stepped_let b n u =
          let t : tag_at w (start_of w f) p ≡ 4 = tag_is w r.kept.table here ∙ ap tag_for n in
          stepped_frame ws' long 3 (omega arith) (binding code) (λ l. refl) (rw n) (record { stands = here; tag = t; awaits = λ y. absurd (omega arith) }) (let_in w r.kept.table here t).1 o u

      pub stepped_call : (g b c : ℕ) → node_at w (start_of w f) p ≡ Call g b c → (arity_at w g ≡ 0 → ⊥) → Opened ws ws' ls plan s seat 4 s.oldest o → Stepped w ws ls plan s ws' ls o
      unfolding next slot_of call
      stepped_call g b c n a u =
          let x = called_is w r.kept.table here g b c n in
          let some : 0 < arity_at w (a_at w (start_of w f) p) = rw x.1 (omega arith) in
          stepped_frame ws' long 4 (omega arith) (argument code []) (λ l. refl) (ap (next w code) n ∙ more (arity_at w g) a) (record { stands = here; tag = x.0; awaits = λ y. some }) (argument_first w r.kept.table here x.0 some) o u
        where
          more : (m : ℕ) → (m ≡ 0 → ⊥) → call w code g m ≡ open_frame (argument code []) (first code)
          more zero h = absurd (h refl)
          more (suc m) h = refl

      pub stepped_both : (b c : ℕ) → node_at w (start_of w f) p ≡ Both b c → OpenedBoth ws ws' ls plan s seat o → Stepped w ws ls plan s ws' ls o
      unfolding next slot_of tag_for evaluated with_fuel with_frame result_of KeptBy control_of
      stepped_both b c n (born x (Forked.full h q d)) = rw (q, d) (record { same = evaluates ∙ rw (n, x, length_stack ws s.depth, le-ltb _ _ h); kept = tt; spared = spared_same ws })
      stepped_both b c n (born x (forks h e d)) =
          let u = opened ws' 7 s.span.0 h e in
          let t : tag_at w (start_of w f) p ≡ 6 = tag_is w r.kept.table here ∙ ap tag_for n in
          let ok : Fitting w 7 f p k 0 = record { stands = here; tag = t; awaits = λ y. absurd (omega arith) } in
          let child = (both_in w r.kept.table here t).1 in
          let low : s.depth < 4096 = (below_cap (length ws) s.depth h r.limits.frames).1 in
          let old = oldest_other ws ws' s.depth (sym u.below) s.oldest low r.kept.oldest (λ y. omega (arith, u.is_kind)) (λ y. omega (arith, r.kept.born x)) in
          rw d (record {
            same = evaluates ∙ rw (n, x, length_stack ws s.depth, lt-ltb _ _ h, pushed_stack ws' long 7 s.span.0 s.oldest h u ok child old r.kept.born (promoted_left s.span.0 code) refl);
            kept = pushed_kept ws' long 7 s.span.0 s.oldest h u ok child old r.kept.born;
            spared = opened_spares ws' 7 s.span.0 h e;
          })
      stepped_both b c n (plain x (dry h q d)) = rw (q, d) (record { same = evaluates ∙ rw (n, x, le-ltb _ _ h); kept = tt; spared = spared_same ws })
      stepped_both b c n (plain x (Opened.full h i q d)) = rw (q, d) (record { same = evaluates ∙ rw (n, x, lt-ltb _ _ h, length_stack ws s.depth, le-ltb _ _ i); kept = tt; spared = spared_same ws })
      stepped_both b c n (plain x (opens h i e d)) =
          let u = opened ws' 5 0 i e in
          let t : tag_at w (start_of w f) p ≡ 6 = tag_is w r.kept.table here ∙ ap tag_for n in
          let ok : Fitting w 5 f p k 0 = record { stands = here; tag = t; awaits = λ y. absurd (omega arith) } in
          let child = (both_in w r.kept.table here t).1 in
          let o' = oldest_with s.oldest s.depth in
          let old = oldest_with_lem ws ws' s.depth (sym u.below) s.oldest r.kept.oldest u.is_kind in
          let bo : plan.birth ≡ true → o' ≡ 4096 = λ y. absurd (true≢false (sym y ∙ x)) in
          rw d (record {
            same = evaluates ∙ rw (n, x, lt-ltb _ _ h, length_stack ws s.depth, lt-ltb _ _ i, pushed_stack ws' long 5 0 o' i u ok child old bo (plain_left code) refl);
            kept = pushed_kept ws' long 5 0 o' i u ok child old bo;
            spared = opened_spares ws' 5 0 i e;
          })
