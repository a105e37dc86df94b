-- One step by compact registers is a stride.
use Prim.Native.Nat.{ℕ, zero, suc, ◌+◌, ◌*◌, ◌/◌, ◌≤◌, ◌<◌}
use mathlib.Core.Path.{◌≡◌, refl, sym, ap, ◌∙◌, subst}
use mathlib.Core.Bool.{Bool, true, false, true≢false, ◌&&◌}
use mathlib.Core.List.{List, ◌∷◌}
use native.Mathlib.Omega.{arith}
use native.Mathlib.Decide.{ℕ_discrete}
use lib.ListN.{length, get_or}
use lib.Dec.{ltb, leb}
use Rattle.schedule.specs.Algebra.{CostAlgebra, spans}
use Rattle.schedule.specs.FrameMachine.{return, FrameMachine}
use Rattle.schedule.specs.Machine.{Slot, ordinary, plain_left, plain_right, promoted_left, promoted_right, Stack, RunCounts, State, state, Result, ongoing}
use Rattle.schedule.specs.Bounds.{BoundedState, Advances, measure_of}
use Rattle.schedule.proofs.Bounds.{step_by_advances}
use Rattle.schedule.proofs.Moves.{Move, closes, keeps_frame, turns, joins, turns_freely, joins_freely, is_value, is_halt, is_step, MoveView, move_view}
use Rattle.language.specs.Language.{Code, language}
use Rattle.frames.specs.Frames.{frame_kind, frame_value, frame_arguments, frame_before, frame_left}
use Rattle.table.specs.declared.Node.TheVariants.{Constant, Local, Both}
use Rattle.table.specs.Words.{start_of, tag_at, a_at, b_at, c_at}
use Rattle.table.specs.Nodes.{node_of, node_at}
use Rattle.moves.specs.declared.Control.TheVariants.{Eval, Ret}
use Rattle.moves.specs.declared.kind.Kind.{Kind}
use Rattle.moves.specs.declared.kind.Kind.TheVariants.{PromotedRight}
use Rattle.moves.specs.declared.Registers.{Registers}
use Rattle.frames.specs.declared.Seat.{Seat}
use Rattle.moves.specs.declared.Plan.{Plan}
use Rattle.moves.specs.declared.Step.{Step}
use Rattle.moves.specs.declared.Step.TheVariants.{Go, Value, Halt}
use Rattle.moves.specs.Layout.{word_of, kind_of, code_at, slot_of, state_of, result_of}
use Rattle.moves.specs.Ready.{Stands, Stepped, Advanced, Returns, Framed, transited, OpenedBoth, born, plain, Forked, forks, Opened, dry, opens}
use Rattle.moves.proofs.FrameKinds.{word_told}
use Rattle.moves.proofs.Steps.{bounds, here, framed, stepped_constant, stepped_local, stepped_both}
use Rattle.moves.proofs.Advancing.{advanced_move}
use Rattle.moves.proofs.Returning.{returned}
use Rattle.compact.specs.declared.Compact.{Compact}
use Rattle.compact.specs.declared.Event.{Event}
use Rattle.compact.specs.declared.Event.TheVariants.{Fork, Turn, Join}
use Rattle.compact.specs.declared.Progress.{Progress}
use Rattle.compact.specs.Compact.{full, step_of, PacedBy, compact_of, answer_of, settled_of, Settles, freed_by, Transits, Small, Continues}
use Rattle.compact.proofs.Keeping.{compact_full, compact_paced}
use Rattle.operands.specs.Operands.{leaf_at}
use Rattle.strides.specs.Strides.{one, Starts, Calm, Returning, Forks, Occurs, Strides, Frees, Evaluating}
use Rattle.strides.specs.Strides as strides

-- A TRANSITION IS MADE where a step goes on
abbrev pub Rises : ℕ → Step → Type 0
Rises t o = (next : Registers) → o ≡ Go next → t < next.transitions

-- where a value returns to a frame that is not promoted
unfoldable Plain : {Cost X Y : Type 0} → Slot Cost X Y → Type 0
Plain (ordinary f) = Unit {0}
Plain (plain_left b) = Unit {0}
Plain (plain_right b v) = Unit {0}
Plain (promoted_left g b) = ⊥
Plain (promoted_right g l b v) = ⊥

unfoldable made : {K : CostAlgebra} {M : FrameMachine} → State K M → ℕ
made (state c S n g t) = t.transitions

-- the credits
unfoldable aged : {K : CostAlgebra} {M : FrameMachine} → State K M → ℕ
aged (state c S n g t) = n

plain_rises : {K : CostAlgebra} {M : FrameMachine} {fuel frames : ℕ} {born : Bool} {v : ℕ} {x : Slot K.Cost M.Frame M.Fork} {S : Stack K M} {n : ℕ} {g : K.Cost} {t : RunCounts} {u : State K M}
    → Move K M fuel frames born (state (return v) (x ∷ S) n g t) u → Plain x → (made u ≡ t.transitions + 1) × (aged u ≡ n + 1)
unfolding Plain made aged
plain_rises (closes e l) p = (refl, refl)
plain_rises (keeps_frame e l) p = (refl, refl)
plain_rises (turns l) p = (refl, refl)
plain_rises (joins l) p = (refl, refl)
plain_rises turns_freely p = absurd p
plain_rises joins_freely p = absurd p

moved : {K : CostAlgebra} {M : FrameMachine} {fuel frames : ℕ} {born : Bool} {s u : State K M} {o : Result K M} → MoveView K M fuel frames born s o → o ≡ ongoing u → Move K M fuel frames born s u
moved is_value e = cc
moved (is_halt h) e = cc
moved {K} {M} {fuel} {frames} {born} {s} {u} (is_step {u = x} m) e = let same : x ≡ u = cc in subst (λ (y : State K M). Move K M fuel frames born s y) same m

plain_slot : (k : ℕ) (c : Code) (v : ℕ) (vs : List ℕ) (g l : ℕ) → k < 7 → Plain (slot_of k c v vs g l)
unfolding slot_of Plain
plain_slot zero c v vs g l h = tt
plain_slot (suc zero) c v vs g l h = tt
plain_slot (suc (suc zero)) c v vs g l h = tt
plain_slot (suc (suc (suc zero))) c v vs g l h = tt
plain_slot (suc (suc (suc (suc zero)))) c v vs g l h = tt
plain_slot (suc (suc (suc (suc (suc zero))))) c v vs g l h = tt
plain_slot (suc (suc (suc (suc (suc (suc zero)))))) c v vs g l h = tt
plain_slot (suc (suc (suc (suc (suc (suc (suc k))))))) c v vs g l h = absurd (omega arith)

-- by one transition of the same machine
paid_ages : (w ws ls : List ℕ) (plan : Plan) (s : Registers) (v t kind : ℕ) (q : Returns w ws ls plan s v t kind) → kind < 7
    → (ws' ls' : List ℕ) (o : Step) → Stepped w ws ls plan s ws' ls' o → (next : Registers) → o ≡ Go next → (next.transitions ≡ s.transitions + 1) × (next.credits.0 ≡ s.credits.0 + 1)
unfolding result_of made aged
paid_ages w ws ls plan s v t kind q h ws' ls' o m next e =
    let code = code_at ws (32 * t) in
    let x = slot_of kind code (frame_value ws (32 * t)) (frame_arguments ws (32 * t)) (frame_before ws (32 * t)) (frame_left ws (32 * t)) in
    let goes = sym (returned q) ∙ (rw e at m.same) in
    plain_rises (moved (move_view (spans plan.tau) (language w) plan.fuel.0 (length ws / 32) plan.birth _) goes) (plain_slot kind code _ _ _ _ h)

pub paid_rises : (w ws ls : List ℕ) (plan : Plan) (s : Registers) (v t kind : ℕ) (q : Returns w ws ls plan s v t kind) → kind < 7
    → (ws' ls' : List ℕ) (o : Step) → Stepped w ws ls plan s ws' ls' o → Rises s.transitions o
paid_rises w ws ls plan s v t kind q h ws' ls' o m next e = omega (arith, (paid_ages w ws ls plan s v t kind q h ws' ls' o m next e).0)

continues : (g : Compact) → g.since ≤ g.transitions → (o : Step)
    → ((next : Registers) → o ≡ Go next → (next.transitions ≡ g.transitions + 1) × (next.credits.0 ≡ (full g).credits.0 + 1)) → Continues g o
unfolding Continues
continues g h (Go next) p = let x = p next refl in omega (arith, x.0, x.1)
continues g h (Value v) p = tt
continues g h (Halt r) p = tt

pub paid_continues : (w ws ls : List ℕ) (plan : Plan) (g : Compact) (v t kind : ℕ) (q : Returns w ws ls plan (full g) v t kind) → kind < 7 → g.since ≤ g.transitions
    → (ws' ls' : List ℕ) (o : Step) → Stepped w ws ls plan (full g) ws' ls' o → Continues g o
paid_continues w ws ls plan g v t kind q h l ws' ls' o m = continues g l o (paid_ages w ws ls plan (full g) v t kind q h ws' ls' o m)

-- the transitions of a step that goes on
unfoldable transitions_of : Step → ℕ
transitions_of (Go s) = s.transitions
transitions_of (Value v) = 0
transitions_of (Halt h) = 0

-- WHAT A STRIDE STARTS FROM
module _ {w ws ls : List ℕ} {plan : Plan} {g : Compact} (s : Starts w ws ls plan g) where
  pub small : Small g
  small = record { transitions = (bounds w ws ls plan (full g) s.ready).2; depth = omega (arith, s.ready.kept.room, s.ready.limits.frames) }

  -- A STEP'S ANSWER can be made compact, and is a stride
  module _ (ws' ls' : List ℕ) where
    advances : (o : Step) → Advanced w ws ls plan (full g) ws' ls' o
        → Advances plan.tau (language w) plan.fuel.0 (length ws / 32) (measure_of (spans plan.tau) (language w) plan.fuel.0 (length ws / 32) (state_of w plan.tau ws ls (full g)))
        (result_of w plan.tau ws' ls' (full g) o)
    unfolding BoundedState
    advances o a = rw a.same at (step_by_advances plan.tau (language w) plan.fuel.0 (length ws / 32) s.ready.limits.tau plan.birth plan.period (state_of w plan.tau ws ls (full g)) s.ready.bounded)

    pub step_settles : (o : Step) → Advanced w ws ls plan (full g) ws' ls' o → Settles plan o
    unfolding Settles Advances BoundedState result_of
    step_settles (Go next) a = let x = (advances (Go next) a).0 in (x.credits, x.within_fuel, x.spanned)
    step_settles (Value v) a = tt
    step_settles (Halt h) a = tt

    -- a step's answer in any compact registers that stand for it
    step_advanced : (o : Step) → Advanced w ws ls plan (full g) ws' ls' o → (r : Progress) → step_of r ≡ step_of (settled_of plan o) → Advanced w ws ls plan (full g) ws' ls' (step_of r)
    unfolding answer_of step_of Settles
    step_advanced (Go next) a r e = let x = step_settles (Go next) a in rw (e, compact_full plan next x.0 x.1 x.2) a
    step_advanced (Value v) a r e = rw e a
    step_advanced (Halt h) a r e = rw e a

    step_paced : (o : Step) → Advanced w ws ls plan (full g) ws' ls' o → PacedBy plan (settled_of plan o)
    unfolding answer_of PacedBy Settles
    step_paced (Go next) a = let x = step_settles (Go next) a in compact_paced plan next x.0 x.1 x.2
    step_paced (Value v) a = tt
    step_paced (Halt h) a = tt

    -- one that makes a transition
    pub step_strides : (o : Step) → Advanced w ws ls plan (full g) ws' ls' o → Rises g.transitions o → (r : Progress) → r ≡ settled_of plan o → Strides w ws ls plan g ws' ls' r
    step_strides o a up r e = rw e (record { strode = one (step_advanced o a (settled_of plan o) refl); paced = step_paced o a; transits = by o up })
      where
        by : (o : Step) → Rises g.transitions o → Transits g (settled_of plan o)
        by (Go next) up = unfold answer_of Transits in up next refl
        by (Value v) up = unfold answer_of Transits in tt
        by (Halt h) up = unfold answer_of Transits in tt

    -- one that is free
    pub step_frees : (event : Event) (o : Step) → Advanced w ws ls plan (full g) ws' ls' o → (next : Registers) → o ≡ Go next → Occurs w ws ls plan g (compact_of plan next) event
        → (r : Progress) → r ≡ freed_by event (settled_of plan o) → Frees w ws ls plan g event ws' ls' r
    unfolding answer_of freed_by Settles
    step_frees event o a next e occurs r u =
        let b : Advanced w ws ls plan (full g) ws' ls' (Go next) = rw e at a in
        let x = step_settles (Go next) b in
        record {
          next = compact_of plan next;
          is = rw (u, e);
          advanced = rw (compact_full plan next x.0 x.1 x.2) b;
          paced = compact_paced plan next x.0 x.1 x.2;
          occurs = occurs;
        }

-- where no promotion is due, of a move
module _ {w ws ls : List ℕ} {plan : Plan} {g : Compact} (c : Calm w ws ls plan g) (ws' ls' : List ℕ) (o : Step) (m : Stepped w ws ls plan (full g) ws' ls' o) where
  pub move_advances : Advanced w ws ls plan (full g) ws' ls' o
  move_advances = advanced_move w ws ls plan (full g) c.starts.ready false (sym c.not_due) refl ws' ls' o m

  pub move_settles : Settles plan o
  move_settles = step_settles c.starts ws' ls' o move_advances

  pub move_strides : Rises g.transitions o → (r : Progress) → r ≡ settled_of plan o → Strides w ws ls plan g ws' ls' r
  move_strides up r e = step_strides c.starts ws' ls' o move_advances up r e

  pub move_frees : (event : Event) (next : Registers) → o ≡ Go next → Occurs w ws ls plan g (compact_of plan next) event
      → (r : Progress) → r ≡ freed_by event (settled_of plan o) → Frees w ws ls plan g event ws' ls' r
  move_frees event next e occurs r u = step_frees c.starts ws' ls' event o move_advances next e occurs r u

  -- by the same machine
  pub kept_strides : (r : Progress) → step_of r ≡ o → PacedBy plan r → Transits g r → Strides w ws ls plan g ws' ls' r
  kept_strides r e p t = record { strode = one (rw e move_advances); paced = p; transits = t }

-- a value returns to a frame
pub returning_returns : {w ws ls : List ℕ} {plan : Plan} {g : Compact} {v top kind : ℕ} {s : Registers} → Returning w ws ls plan g v top kind → s ≡ full g → Returns w ws ls plan s v top kind
returning_returns t e = rw e (record { ready = t.calm.starts.ready; is = t.is; depth = t.depth; of_kind = t.of_kind })

-- at the newest frame, of the kind that was read there
pub returning_here : {w ws ls : List ℕ} {plan : Plan} {g : Compact} {v top kind : ℕ} → Calm w ws ls plan g → g.control ≡ Ret v → g.depth ≡ top + 1 → kind ≡ frame_kind ws (32 * top)
    → Returning w ws ls plan g v top kind
returning_here c e d k = record { calm = c; is = e; depth = d; of_kind = sym k }

pub returning_told : {w ws ls : List ℕ} {plan : Plan} {g : Compact} {v top : ℕ} {r kind : Kind} → Calm w ws ls plan g → g.control ≡ Ret v → g.depth ≡ top + 1 → r ≡ kind_of (frame_kind ws (32 * top))
    → r ≡ kind → (kind ≡ PromotedRight → ⊥) → Returning w ws ls plan g v top (word_of kind)
returning_told c e d k i n = record { calm = c; is = e; depth = d; of_kind = word_told k i n }

-- where the kind is known
pub returning_kind : {w ws ls : List ℕ} {plan : Plan} {g : Compact} {v top : ℕ} {r kind : Kind} → Returning w ws ls plan g v top (word_of r) → r ≡ kind → Returning w ws ls plan g v top (word_of kind)
returning_kind {w} {ws} {ls} {plan} {g} {v} {top} q e = subst (λ (x : Kind). Returning w ws ls plan g v top (word_of x)) e q

-- WHICH EVENT a free move is
module _ {w ws ls : List ℕ} {plan : Plan} {g : Compact} where
  pub turn_occurs : {v top kind : ℕ} → Returning w ws ls plan g v top kind → kind ≡ 7 → (next : Compact) → Occurs w ws ls plan g next (Turn top)
  unfolding Occurs
  turn_occurs {v} q e next = (v, record { calm = q.calm; is = q.is; depth = q.depth; of_kind = q.of_kind ∙ e })

  pub join_occurs : {v top kind : ℕ} → Returning w ws ls plan g v top kind → 7 ≤ kind → (kind ≡ 7 → ⊥) → (next : Compact) → Occurs w ws ls plan g next (Join top)
  unfolding Occurs
  join_occurs {v} {top} {kind} q h n next = (v, kind, q, omega arith)

pub promote_occurs : (w ws ls : List ℕ) (plan : Plan) (g : Compact) → (leb plan.period (full g).credits.0 && ltb g.oldest g.depth) ≡ true
    → (next : Compact) → Occurs w ws ls plan g next (Fork g.oldest)
unfolding Occurs
promote_occurs w ws ls plan g due next = strides.promoted due refl

-- A FORK, at a node that is a "both"
pub fork_stepped : {w ws ls : List ℕ} {plan : Plan} {g : Compact} {seat : Seat} → Calm w ws ls plan g → g.control ≡ Eval seat
    → tag_at w (start_of w seat.function) seat.node ≡ 6 → (ws' : List ℕ) → length ws' ≡ length ws → {o : Step} → OpenedBoth ws ws' ls plan (full g) seat o → Stepped w ws ls plan (full g) ws' ls o
unfolding node_of
fork_stepped {w} {ws} {ls} {plan} {g} {seat} c e t ws' long {o} u =
    let first = start_of w seat.function in
    let n : node_at w first seat.node ≡ Both (b_at w first seat.node) (c_at w first seat.node) = rw t in
    stepped_both w ws ls plan (full g) c.starts.ready seat e ws' long o _ _ n u

-- in a free frame
pub fork_goes : (g : Compact) {ws ws' ls : List ℕ} {seat : Seat} {o : Step} → Forked ws ws' ls (full g) seat o → g.depth < length ws / 32
    → (next : Registers) × (o ≡ Go next) × (next.forks ≡ g.forks + 1) × (next.oldest ≡ g.oldest)
fork_goes g (Forked.full i q d) h = absurd (omega arith)
fork_goes g (forks i q d) h = (_, d, refl, refl)

-- A NODE IS EVALUATED, by one step
module _ {w ws ls : List ℕ} {plan : Plan} {g : Compact} {seat : Seat} {start at tag : ℕ} (t : Evaluating w ws ls plan g seat start at tag) where
  pub site_word : at ≡ start_of w seat.function + 4 * seat.node
  site_word = omega (arith, t.place, t.word)

  pub site_tag : tag_at w (start_of w seat.function) seat.node ≡ tag
  site_tag = rw site_word at t.tagged

  pub site_stands : Stands w seat.function seat.node seat.count
  site_stands = here w ws ls plan (full g) t.calm.starts.ready seat t.is

  pub site_framed : Framed ws ls (full g) seat
  site_framed = framed w ws ls plan (full g) t.calm.starts.ready seat t.is

  abbrev first : ℕ
  first = start_of w seat.function

  pub both_stepped : tag ≡ 6 → (ws' : List ℕ) → length ws' ≡ length ws → {o : Step} → OpenedBoth ws ws' ls plan (full g) seat o → Stepped w ws ls plan (full g) ws' ls o
  both_stepped e ws' long u = fork_stepped t.calm t.is (site_tag ∙ e) ws' long u

  pub both_rises : plan.birth ≡ false → {ws' : List ℕ} {o : Step} → OpenedBoth ws ws' ls plan (full g) seat o → Rises g.transitions o
  unfolding transitions_of
  both_rises h (born x u) next e = absurd (true≢false (sym x ∙ h))
  both_rises h (plain x (dry i q d)) next e = cc
  both_rises h (plain x (Opened.full i j q d)) next e = cc
  both_rises h (plain x (opens i j q d)) next e = omega (arith, ap transitions_of (sym e ∙ d))

  pub both_continues : plan.birth ≡ false → {ws' : List ℕ} {o : Step} → OpenedBoth ws ws' ls plan (full g) seat o → Continues g o
  unfolding Continues
  both_continues h (born x u) = absurd (true≢false (sym x ∙ h))
  both_continues h (plain x (dry i q d)) = rw d tt
  both_continues h (plain x (Opened.full i j q d)) = rw d tt
  both_continues h (plain x (opens i j q d)) = rw d (omega (arith, t.calm.starts.paced.since))

  pub leaf_stepped : tag < 2 → {o : Step} → o ≡ transited plan (full g) seat (Ret (leaf_at w at ls 0)) → Stepped w ws ls plan (full g) ws ls o
  unfolding node_of
  leaf_stepped h {o} u = on (ℕ_discrete tag 0)
    where
      on : Dec (tag ≡ 0) → Stepped w ws ls plan (full g) ws ls o
      on (yes e) =
          let n : node_at w first seat.node ≡ Constant (a_at w first seat.node + 4294967296 * b_at w first seat.node) = rw (site_tag ∙ e) in
          let v : leaf_at w at ls 0 ≡ a_at w first seat.node + 4294967296 * b_at w first seat.node = rw (site_word, site_tag, e) in
          stepped_constant w ws ls plan (full g) t.calm.starts.ready seat t.is _ o n (rw v at u)
      on (no e) =
          let z : tag ≡ 1 = omega arith in
          let n : node_at w first seat.node ≡ Local (a_at w first seat.node) = rw (site_tag ∙ z) in
          let v : leaf_at w at ls 0 ≡ get_or ls (a_at w first seat.node) 0 = rw (site_word, site_tag, z) (ap (λ i. get_or ls i 0) (omega arith)) in
          stepped_local w ws ls plan (full g) t.calm.starts.ready seat t.is _ o n (rw v at u)
