-- A run beside the buffer that is lent for its graph: what the loop keeps true of the words written, from its start to its end.
--     Over                    a state over graphs stands over the words
--     Tracking                the loop's invariant: there is such a state, whose run is the whole run over graphs, and the buffer tracks it
--     tracking_first          at the start
--     tracking_go             after transitions
--     tracking_far            after strides, one after the other
--     free_markable           what the words of a free move ask for
--     free_next               the invariants after it
--     small_end, wrote        at the end
use Prim.Native.Nat.{ℕ, ◌+◌, ◌-◌, ◌*◌, ◌/◌, ◌<◌, ◌≤◌}
use mathlib.Core.Path.{◌≡◌, refl, sym, ap, ◌∙◌, subst}
use mathlib.Core.Logic.{⊎_elim}
use mathlib.Core.Bool.{Bool, true, false, cond, true≢false, ◌&&◌}
use mathlib.Core.List.{List, [], ◌∷◌}
use native.Mathlib.Omega.{arith}
use native.Mathlib.Decide.{dec_lt}
use lib.ListN.{length, take, get_or-eq_default}
use lib.Dec.{ltb, leb}
use borrow.Author.Tests.{ltb-true}
use Rattle.schedule.specs.Graph.{Graph, span}
use Rattle.schedule.specs.Algebra.{graphs, spans}
use Rattle.schedule.specs.FrameMachine.{return, FrameMachine}
use Rattle.schedule.specs.Machine.{Slot, ordinary, plain_left, plain_right, promoted_left, promoted_right, Stack, promotable, value, RunCounts, split, deeper, State, state, Result, ended, ongoing, Schedule, after_promotion, after_turn, after_join, move, step, start}
use Rattle.schedule.specs.Runs.{and_then, run, outcome}
use Rattle.schedule.specs.Bounds.{step_by, Flags}
use Rattle.schedule.specs.Homomorphism.{map_stack, map_state, map_outcome}
use Rattle.schedule.proofs.Moves.{Move, goes_on, opens, closes, keeps_frame, forks, turns, joins, forks_freely, turns_freely, joins_freely, is_value, is_halt, is_step, MoveView, move_view}
use Rattle.schedule.proofs.Homomorphism.{length_map, promotable_map, span_carried}
use Rattle.schedule.proofs.Runs.{run_next}
use Rattle.schedule.proofs.Stretch.{run_then}
use Rattle.schedule.proofs.Bounds.{start_measure}
use Rattle.table.specs.WellFormed.{WellFormed}
use Rattle.frames.specs.Frames.{frame_value, frame_before, frame_left, frame_arguments, placed, right_placed}
use Rattle.graph.specs.Words.{written}
use Rattle.graph.specs.Writing.{count_ended, lent_ended, lent_forked, lent_filled, TracksState}
use Rattle.graph.proofs.Runs.{made, Within, StepBy, promoting, moving, step_by_view, first_step, no_steps, risen_at_most, within_steps, flags_step, runs_same, step_by_map, steps_map, lifted}
use Rattle.graph.proofs.Tracking.{oldest_in, tracks_start, tracks_places, tracks_promotion, tracks_birth, turn_within, tracks_turn, join_within, tracks_join, tracks_value, tracks_steps}
use Rattle.language.specs.Language.{Code, Frame, language}
use Rattle.language.specs.Answers.{entry_code}
use Rattle.moves.specs.declared.Registers.{Registers}
use Rattle.moves.specs.declared.Plan.{Plan}
use Rattle.moves.specs.declared.Step.{Step}
use Rattle.moves.specs.declared.Step.TheVariants.{Go, Value, Halt}
use Rattle.moves.specs.Layout.{code_at, slots, slot_of, slot_at, stack_of, control_of, run_counts_of, state_of, result_of}
use Rattle.moves.specs.Ready.{Spared}
use Rattle.moves.proofs.Stacks.{length_stack, stack_more}
use Rattle.moves.proofs.Promotion.{due_is}
use Rattle.compact.specs.declared.Compact.{Compact}
use Rattle.compact.specs.declared.Event.{Event}
use Rattle.compact.specs.declared.Event.TheVariants.{Fork, Turn, Join}
use Rattle.compact.specs.declared.Progress.{Progress}
use Rattle.compact.specs.declared.Progress.TheVariants as progress
use Rattle.compact.specs.declared.Pause.{Pause}
use Rattle.compact.specs.declared.Pause.TheVariants as pause
use Rattle.compact.specs.Compact.{full, step_of, Transits, compact_of}
use Rattle.strides.specs.Strides.{Many, one, Starts, Returning, promoted, born, Occurs, Strides, Frees, Awaits}
use Rattle.marks.specs.Marks.{Small, Framed, Markable, places_marked, graph_marked, count_marked, Marked}
use Rattle.machine.specs.Loop.{Far, here, more, Stays, event_of, Fits}
use Rattle.machine.specs.Runs.{begun, Begins}
use Rattle.machine.specs.Written.{Finished, Wrote}
use Rattle.machine.proofs.Places.{place_at, right_at, place_kept, place_other, place_right, right_kept, right_other, right_place, kind_alike, ready_alike, marked_alike, oldest_is}
use Rattle.machine.proofs.Running.{Running, to_go, one_many, strode_exact, advances, running_less, running_next, running_far, last_step, no_further, running_alike}

-- the counts of a state
unfoldable forked : {M : FrameMachine} → State graphs M → ℕ
forked (state c S k h t) = t.forks

unfoldable credited : {M : FrameMachine} → State graphs M → ℕ
credited (state c S k h t) = k

unfoldable frames_in_state : {M : FrameMachine} → State graphs M → ℕ
frames_in_state (state c S k h t) = length S

-- A STATE OVER GRAPHS stands over the state that words, locals and registers hold: its spans are those of its graphs
unfoldable pub Over : (w : List ℕ) (τ : ℕ) (ws ls : List ℕ) (s : Registers) → State graphs (language w) → Type 0
Over w τ ws ls s (state c S k h t) =
    (c ≡ control_of s.control ls) × (map_stack (span τ) S ≡ stack_of ws s.depth) × (k ≡ s.credits.0) × (span τ h ≡ s.span.0) × (t ≡ run_counts_of s)

module _ (w : List ℕ) (τ : ℕ) (ws ls : List ℕ) (s : Registers) where
  over_is : (G : State graphs (language w)) → Over w τ ws ls s G → map_state graphs (spans τ) (language w) (span τ) G ≡ state_of w τ ws ls s
  unfolding Over map_state
  over_is (state c S k h t) o = rw (o.0, o.1, o.2, o.3, o.4)

  is_over : (G : State graphs (language w)) → map_state graphs (spans τ) (language w) (span τ) G ≡ state_of w τ ws ls s → Over w τ ws ls s G
  unfolding Over map_state
  is_over (state c S k h t) e = (cc, cc, cc, cc, cc)

  over_made : (G : State graphs (language w)) → Over w τ ws ls s G → made graphs (language w) G ≡ s.transitions
  unfolding Over made
  over_made (state c S k h t) o = ap (λ (x : RunCounts). x.transitions) o.4

  over_forks : (G : State graphs (language w)) → Over w τ ws ls s G → forked G ≡ s.forks
  unfolding Over forked
  over_forks (state c S k h t) o = ap (λ (x : RunCounts). x.forks) o.4

  over_credits : (G : State graphs (language w)) → Over w τ ws ls s G → credited G ≡ s.credits.0
  unfolding Over credited
  over_credits (state c S k h t) o = o.2

  over_depth : (G : State graphs (language w)) → Over w τ ws ls s G → frames_in_state G ≡ s.depth
  unfolding Over frames_in_state
  over_depth (state c S k h t) o = sym (length_map (span τ) S) ∙ ap length o.1 ∙ length_stack ws s.depth

-- THE LOOP'S INVARIANT, beside `Running`
pub record Tracking (w arguments : List ℕ) (size : ℕ) (plan : Plan) (ws ls : List ℕ) (g : Compact) (lent : List ℕ) (n : ℕ) : Type 0 where
  pub at : State graphs (language w)
  pub over : Over w plan.tau ws ls (full g) at
  pub within : Within graphs (language w) plan.fuel.0 (size / 32) at
  pub left : ℕ
  pub enough : to_go w size plan ws ls (full g) ≤ left
  pub course : (m : Schedule) → Flags plan.fuel.0 m plan.birth plan.period
      → run (step graphs (language w) plan.fuel.0 (size / 32) m) (left + 1) at ≡ outcome graphs (language w) plan.fuel.0 (size / 32) m (entry_code arguments)
  pub tracks : 0 < length lent → TracksState (language w) lent n (place_at ws) (right_at ws) at

pub tracking_first : {w ws ls : List ℕ} {plan : Plan} {count : ℕ} {g : Compact} (lent : List ℕ) → Begins w ws ls plan count → g ≡ compact_of plan (begun count)
    → Tracking w (take count ls) (length ws) plan ws ls g lent 0
unfolding Over Within TracksState stack_of control_of map_stack span start outcome
tracking_first {w} {ws} {ls} {plan} {count} lent b u = rw u (record {
  at = start graphs (language w) (entry_code (take count ls));
  over = (refl, refl, refl, refl, refl);
  within = (omega arith, omega arith);
  left = 5 * plan.fuel.0 + length ws / 32;
  enough = omega (arith, start_measure plan.tau (language w) plan.fuel.0 (length ws / 32) (entry_code (take count ls)));
  course = λ m h. refl;
  tracks = λ h. tracks_start lent (place_at ws) (right_at ws);
})

-- ONE STEP OF THE RUN, over graphs
module _ {w arguments : List ℕ} {size : ℕ} {plan : Plan} {ws ls : List ℕ} {g : Compact} {lent : List ℕ} {n : ℕ}
    (r : Running w arguments size plan ws ls g) (t : Tracking w arguments size plan ws ls g lent n) where
  abbrev M : FrameMachine
  M = language w

  abbrev τ : ℕ
  τ = plan.tau

  abbrev fuel : ℕ
  fuel = plan.fuel.0

  abbrev cap : ℕ
  cap = size / 32

  -- the counts are small
  counts_small : 0 < length lent → Small n (full g).credits.0
  unfolding TracksState Over
  counts_small h = on t.at t.over (t.tracks h)
    where
      on : (G : State graphs M) → Over w τ ws ls (full g) G → TracksState M lent n (place_at ws) (right_at ws) G → Small n (full g).credits.0
      on (state c S k x u) o i =
          let few = rw (o.4, o.2) at i.few in
          let b = r.starts.ready.bounded in
          let l = r.starts.ready.limits in
          record {
            words = omega (arith, few, b.within_fuel, b.forks, l.fuel, l.frames);
            pending = omega (arith, b.within_fuel, b.credits, l.fuel);
          }

  pub small_end : 0 < length lent → Small n (full g).credits.0
  small_end = counts_small

  module _ {ws' ls' : List ℕ} where
    module _ (next : Compact) (m : Many w ws ls plan (full g) ws' ls' (full next)) where
      -- the state that the run over graphs comes to
      reached : (H : State graphs M) × (run (step_by graphs M fuel cap plan.birth plan.period) (m.more + 1) t.at ≡ ongoing H) × Over w τ ws' ls' (full next) H
      reached =
          let carried = steps_map graphs (spans τ) M (span τ) (span_carried τ) fuel cap plan.birth plan.period (m.more + 1) t.at in
          let moved = rw r.long at m.same in
          let x = lifted (span τ) (map_state graphs (spans τ) M (span τ)) (run (step_by graphs M fuel cap plan.birth plan.period) (m.more + 1) t.at) (state_of w τ ws' ls' (full next))
          (sym carried ∙ ap (run (step_by (spans τ) M fuel cap plan.birth plan.period) (m.more + 1)) (over_is w τ ws ls (full g) t.at t.over) ∙ moved) in
          (x.0, x.1, is_over w τ ws' ls' (full next) x.0 x.2)

      onward : (d : Schedule) → Flags fuel d plan.birth plan.period
          → run (step graphs M fuel cap d) ((t.left - (m.more + 1)) + 1) reached.0 ≡ outcome graphs M fuel cap d (entry_code arguments)
      unfolding and_then
      onward d h =
          let f = step graphs M fuel cap d in
          let same = runs_same graphs M fuel cap plan.birth plan.period d h (m.more + 1) t.at t.within ∙ reached.1 in
          let all : (m.more + 1) + ((t.left - (m.more + 1)) + 1) ≡ t.left + 1 = omega (arith, t.enough, (advances r.long r.starts next m).1) in
          let parts = run_then f (m.more + 1) ((t.left - (m.more + 1)) + 1) t.at in
          sym (rw (all, same) at parts) ∙ t.course d h

      -- the invariant then, with what the buffer tracks
      unfoldable onwards : (lent' : List ℕ) (n' : ℕ) → (0 < length lent' → TracksState M lent' n' (place_at ws') (right_at ws') reached.0) → Tracking w arguments size plan ws' ls' next lent' n'
      onwards lent' n' i = record {
        at = reached.0;
        over = reached.2;
        within = within_steps graphs M fuel cap plan.birth plan.period (m.more + 1) t.at reached.0 reached.1 t.within;
        left = t.left - (m.more + 1);
        enough = omega (arith, t.enough, (advances r.long r.starts next m).1);
        course = onward;
        tracks = i;
      }

    -- TRANSITIONS write nothing
    pub tracking_go : {next : Compact} (st : Strides w ws ls plan g ws' ls' (progress.Go next)) → Tracking w arguments size plan ws' ls' next lent n
    unfolding Transits TracksState step_of
    tracking_go {next} st =
        let x = strode_exact st.strode (full next) refl in
        let y = reached next x.0 in
        let up : g.transitions < next.transitions = st.transits in
        let from = over_made w τ ws ls (full g) t.at t.over in
        let to = over_made w τ ws' ls' (full next) y.0 y.2 in
        let most = risen_at_most graphs M fuel cap plan.birth plan.period (x.0.more + 1) t.at y.0 y.1 in
        onwards next x.0 lent n (λ h. spared y.0 (tracks_steps M fuel cap lent n (place_at ws) (right_at ws) plan.birth plan.period (x.0.more + 1) t.at y.0 y.1
        (⊎_elim (λ z. omega arith) (λ z. omega arith) x.1) (t.tracks h)))
      where
        spared : (H : State graphs M) → TracksState M lent n (place_at ws) (right_at ws) H → TracksState M lent n (place_at ws') (right_at ws') H
        spared (state c S k x u) i =
            let same = (strode_exact st.strode (full next) refl).0.spared in
            tracks_places i (place_at ws') (right_at ws') (λ j l. (same j).0) (λ j l. (same j).1)

-- STRIDES, one after the other
pub tracking_far : {w arguments : List ℕ} {size : ℕ} {plan : Plan} {ws ls : List ℕ} {g : Compact} {lent : List ℕ} {n : ℕ} → Running w arguments size plan ws ls g
    → Tracking w arguments size plan ws ls g lent n → {ws' ls' : List ℕ} {h : Compact} → Far w plan ws ls g ws' ls' h → Tracking w arguments size plan ws' ls' h lent n
tracking_far r t here = t
tracking_far r t (more f st l) = tracking_go (running_far r f).0 (tracking_far r t f) st

-- OTHER PLACES IN THE FRAMES: the state is the same
module _ {w arguments : List ℕ} {size : ℕ} {plan : Plan} {ws ls : List ℕ} {g : Compact} {lent : List ℕ} {n : ℕ} where
  unfoldable replaced : (t : Tracking w arguments size plan ws ls g lent n) (ws' : List ℕ) → stack_of ws g.depth ≡ stack_of ws' g.depth → (lent' : List ℕ) (n' : ℕ)
      → (0 < length lent' → TracksState (language w) lent' n' (place_at ws') (right_at ws') t.at) → Tracking w arguments size plan ws' ls g lent' n'
  unfolding Over
  replaced t ws' same lent' n' i = record {
    at = t.at;
    over = on t.at t.over;
    within = t.within;
    left = t.left;
    enough = rw (← same) t.enough;
    course = t.course;
    tracks = i;
  }
    where
      on : (G : State graphs (language w)) → Over w plan.tau ws ls (full g) G → Over w plan.tau ws' ls (full g) G
      on (state c S k h u) o = (o.0, o.1 ∙ same, o.2, o.3, o.4)

-- THE FRAMES of a stack over graphs
module _ {Cost Cost' X Y : Type 0} (h : Cost → Cost') where
  oldest_map : (S : List (Slot Cost X Y)) → oldest_in (map_stack h S) ≡ oldest_in S
  unfolding oldest_in map_stack
  oldest_map [] = refl
  oldest_map (ordinary f ∷ S) = oldest_map S
  oldest_map (plain_left b ∷ S) = rw (promotable_map h S, length_map h S, oldest_map S)
  oldest_map (plain_right b v ∷ S) = oldest_map S
  oldest_map (promoted_left g b ∷ S) = refl
  oldest_map (promoted_right g l b v ∷ S) = refl

  -- a promoted frame on top is one in both
  top_left : (S : List (Slot Cost X Y)) (g : Cost') (b : Y) (R : List (Slot Cost' X Y)) → map_stack h S ≡ promoted_left g b ∷ R
      → (f : Cost) × (T : List (Slot Cost X Y)) × (S ≡ promoted_left f b ∷ T) × (map_stack h T ≡ R)
  unfolding map_stack
  top_left [] g b R e = let no : ◌≡◌ {A = ℕ} 0 1 = cc in absurd (omega arith)
  top_left (ordinary f ∷ S) g b R e = let no : ◌≡◌ {A = ℕ} 0 1 = cc in absurd (omega arith)
  top_left (plain_left x ∷ S) g b R e = let no : ◌≡◌ {A = ℕ} 0 1 = cc in absurd (omega arith)
  top_left (plain_right x v ∷ S) g b R e = let no : ◌≡◌ {A = ℕ} 0 1 = cc in absurd (omega arith)
  top_left (promoted_left f x ∷ S) g b R e = let same : x ≡ b = cc in (f, S, rw same, cc)
  top_left (promoted_right f l x v ∷ S) g b R e = let no : ◌≡◌ {A = ℕ} 0 1 = cc in absurd (omega arith)

  top_right : (S : List (Slot Cost X Y)) (g l : Cost') (b : Y) (v : ℕ) (R : List (Slot Cost' X Y)) → map_stack h S ≡ promoted_right g l b v ∷ R
      → (f : Cost) × (m : Cost) × (T : List (Slot Cost X Y)) × (S ≡ promoted_right f m b v ∷ T) × (map_stack h T ≡ R)
  unfolding map_stack
  top_right [] g l b v R e = let no : ◌≡◌ {A = ℕ} 0 1 = cc in absurd (omega arith)
  top_right (ordinary f ∷ S) g l b v R e = let no : ◌≡◌ {A = ℕ} 0 1 = cc in absurd (omega arith)
  top_right (plain_left x ∷ S) g l b v R e = let no : ◌≡◌ {A = ℕ} 0 1 = cc in absurd (omega arith)
  top_right (plain_right x u ∷ S) g l b v R e = let no : ◌≡◌ {A = ℕ} 0 1 = cc in absurd (omega arith)
  top_right (promoted_left f x ∷ S) g l b v R e = let no : ◌≡◌ {A = ℕ} 0 1 = cc in absurd (omega arith)
  top_right (promoted_right f m x u ∷ S) g l b v R e = let same : x ≡ b = cc in let also : u ≡ v = cc in (f, m, S, rw (same, also), cc)

and_right : (a b : Bool) → (a && b) ≡ true → b ≡ true
and_right true b e = e
and_right false b e = absurd (true≢false (sym e))

and_none : (a : Bool) → (a && false) ≡ false
and_none true = refl
and_none false = refl

-- A FORK PROMOTED AT ITS BIRTH is the only move that makes a fork
module _ (M : FrameMachine) (fuel cap : ℕ) (lent : List ℕ) (n : ℕ) (p₀ r₀ : ℕ → ℕ) where
  birth_tracked : {b : Bool} {G H : State graphs M} → Move graphs M fuel cap b G H → forked H ≡ forked G + 1 → (p r : ℕ → ℕ)
      → p (frames_in_state G) ≡ count_ended n (credited G) → ((j : ℕ) → (j ≡ frames_in_state G → ⊥) → p j ≡ p₀ j) → ((j : ℕ) → r j ≡ r₀ j)
      → TracksState M lent n p₀ r₀ G → TracksState M (lent_forked lent n (credited G)) (count_ended n (credited G) + 3) p r H
  unfolding forked credited frames_in_state TracksState
  birth_tracked (goes_on e l) f p r at other same tr = absurd (omega arith)
  birth_tracked (opens e l x) f p r at other same tr = absurd (omega arith)
  birth_tracked (closes e l) f p r at other same tr = absurd (omega arith)
  birth_tracked (keeps_frame e l) f p r at other same tr = absurd (omega arith)
  birth_tracked (forks e l x) f p r at other same tr = absurd (omega arith)
  birth_tracked (turns l) f p r at other same tr = absurd (omega arith)
  birth_tracked (joins l) f p r at other same tr = absurd (omega arith)
  birth_tracked (forks_freely {b = b} {S = S} {t = u} e x) f p r at other same tr =
      tracks_places (tracks_birth tr p b at other (deeper (length S + 1) (split u)) (omega arith)) p r (λ j y. refl) (λ j y. same j)
  birth_tracked turns_freely f p r at other same tr = absurd (omega arith)
  birth_tracked joins_freely f p r at other same tr = absurd (omega arith)

  birth_deep : {b : Bool} {G H : State graphs M} → Move graphs M fuel cap b G H → forked H ≡ forked G + 1 → frames_in_state H ≡ frames_in_state G + 1
  unfolding forked frames_in_state
  birth_deep (goes_on e l) f = absurd (omega arith)
  birth_deep (opens e l x) f = absurd (omega arith)
  birth_deep (closes e l) f = absurd (omega arith)
  birth_deep (keeps_frame e l) f = absurd (omega arith)
  birth_deep (forks e l x) f = absurd (omega arith)
  birth_deep (turns l) f = absurd (omega arith)
  birth_deep (joins l) f = absurd (omega arith)
  birth_deep (forks_freely e x) f = omega arith
  birth_deep turns_freely f = absurd (omega arith)
  birth_deep joins_freely f = absurd (omega arith)

-- A FREE MOVE, over graphs: what it makes of the state, and what the buffer tracks then, with the places of the frames after it
module _ (w ws ls : List ℕ) (size : ℕ) (plan : Plan) (g : Compact) (lent : List ℕ) (n : ℕ) (c : Starts w ws ls plan g) where
  abbrev N : FrameMachine
  N = language w

  abbrev k : ℕ
  k = (full g).credits.0

  -- the frames of the graph's stack are those of the words
  depth_is : (S : Stack graphs N) → map_stack (span plan.tau) S ≡ stack_of ws g.depth → length S ≡ g.depth
  depth_is S e = sym (length_map (span plan.tau) S) ∙ ap length e ∙ length_stack ws g.depth

  able_is : (S : Stack graphs N) → map_stack (span plan.tau) S ≡ stack_of ws g.depth → promotable S ≡ ltb g.oldest g.depth
  able_is S e = sym (promotable_map (span plan.tau) S) ∙ ap promotable e ∙ due_is ws g.depth g.oldest c.ready.kept.oldest

  few_frames : g.depth ≤ 4096
  few_frames = omega (arith, c.ready.kept.room, c.ready.limits.frames)

  -- a promotion
  promotion_tracked : {G H : State graphs N} → StepBy graphs N plan.fuel.0 (size / 32) plan.birth plan.period G H → Over w plan.tau ws ls (full g) G
      → (leb plan.period k && ltb g.oldest g.depth) ≡ true → (p r : ℕ → ℕ) → p g.oldest ≡ count_ended n k → ((j : ℕ) → (j ≡ g.oldest → ⊥) → p j ≡ place_at ws j)
      → ((j : ℕ) → r j ≡ right_at ws j) → TracksState N lent n (place_at ws) (right_at ws) G → TracksState N (lent_forked lent n k) (count_ended n k + 3) p r H
  unfolding Over TracksState
  promotion_tracked (promoting {S = S} {n = i} {t = u} q) o due p r at other same tr =
      let able : promotable S ≡ true = able_is S o.1 ∙ and_right (leb plan.period k) (ltb g.oldest g.depth) due in
      let l : g.oldest < g.depth = ltb-true _ _ (and_right (leb plan.period k) (ltb g.oldest g.depth) due) in
      let old : oldest_in S ≡ g.oldest = sym (oldest_map (span plan.tau) S) ∙ ap oldest_in o.1 ∙ oldest_is ws g.depth g.oldest c.ready.kept.oldest few_frames l in
      let moved = tracks_promotion tr p able (ap p old ∙ at ∙ ap (count_ended n) (sym o.2)) (λ j z. other j (λ y. z (y ∙ sym old))) (split u) (omega arith) in
      tracks_places (rw o.2 at moved) p r (λ j y. refl) (λ j y. same j)
  promotion_tracked (moving {S = S} {n = i} q mv) o due p r at other same tr =
      let e : (leb plan.period i && promotable S) ≡ true = rw (o.2, able_is S o.1) due in
      absurd (true≢false (sym e ∙ q))

  -- a fork promoted at its birth
  born_tracked : {G H : State graphs N} → StepBy graphs N plan.fuel.0 (size / 32) plan.birth plan.period G H → Over w plan.tau ws ls (full g) G
      → (leb plan.period k && ltb g.oldest g.depth) ≡ false → forked H ≡ g.forks + 1 → (p r : ℕ → ℕ) → p g.depth ≡ count_ended n k
      → ((j : ℕ) → (j ≡ g.depth → ⊥) → p j ≡ place_at ws j) → ((j : ℕ) → r j ≡ right_at ws j)
      → TracksState N lent n (place_at ws) (right_at ws) G → TracksState N (lent_forked lent n k) (count_ended n k + 3) p r H
  unfolding Over
  born_tracked (promoting {S = S} {n = i} q) o not f p r at other same tr =
      let e : (leb plan.period i && promotable S) ≡ false = rw (o.2, able_is S o.1) not in
      absurd (true≢false (sym q ∙ e))
  born_tracked (moving {c = d} {S = S} {n = i} {g = x} {t = u} q mv) o not f p r at other same tr =
      let G : State graphs N = state d S i x u in
      let deep : frames_in_state G ≡ g.depth = unfold frames_in_state in depth_is S o.1 in
      let paid : credited G ≡ k = unfold credited in o.2 in
      let count : forked G ≡ g.forks = unfold forked in ap (λ (y : RunCounts). y.forks) o.4 in
      rw paid at (birth_tracked N plan.fuel.0 (size / 32) lent n (place_at ws) (right_at ws) mv (f ∙ ap (λ (y : ℕ). y + 1) (sym count)) p r (ap p deep ∙ at ∙ ap (count_ended n) (sym paid)) (λ j z. other j (λ y. z (y ∙ sym deep))) same tr)

  born_deep : {G H : State graphs N} → StepBy graphs N plan.fuel.0 (size / 32) plan.birth plan.period G H → Over w plan.tau ws ls (full g) G
      → (leb plan.period k && ltb g.oldest g.depth) ≡ false → forked H ≡ g.forks + 1 → frames_in_state H ≡ g.depth + 1
  unfolding Over
  born_deep (promoting {S = S} {n = i} q) o not f =
      let e : (leb plan.period i && promotable S) ≡ false = rw (o.2, able_is S o.1) not in
      absurd (true≢false (sym q ∙ e))
  born_deep (moving {c = d} {S = S} {n = i} {g = x} {t = u} q mv) o not f =
      let G : State graphs N = state d S i x u in
      let deep : frames_in_state G ≡ g.depth = unfold frames_in_state in depth_is S o.1 in
      let count : forked G ≡ g.forks = unfold forked in ap (λ (y : RunCounts). y.forks) o.4 in
      birth_deep N plan.fuel.0 (size / 32) lent n (place_at ws) (right_at ws) mv (f ∙ ap (λ (y : ℕ). y + 1) (sym count)) ∙ ap (λ (y : ℕ). y + 1) deep

  -- the left's arrival: a promoted frame that awaits its left is on top, in both
  left_here : (S : Stack graphs N) → map_stack (span plan.tau) S ≡ stack_of ws g.depth → (v at : ℕ) → Returning w ws ls plan g v at 7
      → (f : Graph) × (T : Stack graphs N) × (S ≡ promoted_left f (code_at ws (32 * at)) ∷ T) × (length T ≡ at)
  unfolding slot_of
  left_here S o v at q =
      let here : stack_of ws g.depth ≡ promoted_left (frame_before ws (32 * at)) (code_at ws (32 * at)) ∷ stack_of ws at = rw (q.depth, ← stack_more ws at, q.of_kind) in
      let top = top_left (span plan.tau) S _ _ _ (o ∙ here) in
      (top.0, top.1, top.2, sym (length_map (span plan.tau) top.1) ∙ ap length top.3 ∙ length_stack ws at)

  turn_placed : (G : State graphs N) → Over w plan.tau ws ls (full g) G → (v at : ℕ) → Returning w ws ls plan g v at 7 → TracksState N lent n (place_at ws) (right_at ws) G
      → place_at ws at + 3 ≤ count_ended n k
  unfolding Over TracksState
  turn_placed (state d S i x u) o v at q tr =
      let top = left_here S o.1 v at q in
      let tracks = rw (top.2, o.2) at tr in
      rw top.3 at (turn_within tracks)

  turn_tracked : (G H : State graphs N) → step_by graphs N plan.fuel.0 (size / 32) plan.birth plan.period G ≡ ongoing H → Over w plan.tau ws ls (full g) G
      → (v at : ℕ) → Returning w ws ls plan g v at 7 → TracksState N lent n (place_at ws) (right_at ws) G
      → (p r : ℕ → ℕ) → ((j : ℕ) → p j ≡ place_at ws j) → r at ≡ count_ended n k → ((j : ℕ) → (j ≡ at → ⊥) → r j ≡ right_at ws j)
      → TracksState N (lent_filled lent n k (place_at ws at + 1) (place_at ws at + 3)) (count_ended n k) p r H
  unfolding Over TracksState step_by move control_of promotable
  turn_tracked (state d S i x u) H e o v at q tr p r same kept other =
      let top = left_here S o.1 v at q in
      let b = code_at ws (32 * at) in
      let T = top.1 in
      let returns : d ≡ return v = o.0 ∙ rw q.is in
      let deep : length T ≡ at = top.3 in
      let moved = rw (returns, top.2, and_none (leb plan.period i)) at e in
      let to : after_turn graphs N b v top.0 T i x u ≡ H = cc in
      let tracks = rw (top.2, o.2) at tr in
      subst (TracksState N (lent_filled lent n k (place_at ws at + 1) (place_at ws at + 3)) (count_ended n k) p r) to
      (tracks_places (rw deep at (tracks_turn tracks r v (ap r deep ∙ kept) (λ j z. other j (λ y. z (y ∙ sym deep))))) p r (λ j y. same j) (λ j y. refl))

  -- the join: one that awaits its right
  right_here : (S : Stack graphs N) → map_stack (span plan.tau) S ≡ stack_of ws g.depth → (v at kind : ℕ) → Returning w ws ls plan g v at kind → 8 ≤ kind
      → (f m : Graph) × (T : Stack graphs N) × (S ≡ promoted_right f m (code_at ws (32 * at)) (frame_value ws (32 * at)) ∷ T) × (length T ≡ at)
  unfolding slot_of
  right_here S o v at kind q late =
      let b = code_at ws (32 * at) in
      let l = frame_value ws (32 * at) in
      let slot : slot_at ws (32 * at) ≡ promoted_right (frame_before ws (32 * at)) (frame_left ws (32 * at)) b l =
      ap (λ (z : ℕ). slot_of z b l (frame_arguments ws (32 * at)) (frame_before ws (32 * at)) (frame_left ws (32 * at))) q.of_kind
      ∙ get_or-eq_default (slots b l (frame_arguments ws (32 * at)) (frame_before ws (32 * at))) (promoted_right (frame_before ws (32 * at)) (frame_left ws (32 * at)) b l) late in
      let here : stack_of ws g.depth ≡ promoted_right (frame_before ws (32 * at)) (frame_left ws (32 * at)) b l ∷ stack_of ws at =
      ap (stack_of ws) q.depth ∙ sym (stack_more ws at) ∙ ap (λ (z : Slot ℕ Frame Code). z ∷ stack_of ws at) slot in
      let top = top_right (span plan.tau) S _ _ _ _ _ (o ∙ here) in
      (top.0, top.1, top.2, top.3, sym (length_map (span plan.tau) top.2) ∙ ap length top.4 ∙ length_stack ws at)

  join_placed : (G : State graphs N) → Over w plan.tau ws ls (full g) G → (v at kind : ℕ) → Returning w ws ls plan g v at kind → 8 ≤ kind
      → TracksState N lent n (place_at ws) (right_at ws) G → (place_at ws at + 3 ≤ right_at ws at) × (right_at ws at ≤ count_ended n k)
  unfolding Over TracksState
  join_placed (state d S i x u) o v at kind q late tr =
      let top = right_here S o.1 v at kind q late in
      let tracks = rw (top.3, o.2) at tr in
      rw top.4 at (join_within tracks)

  join_tracked : (G H : State graphs N) → step_by graphs N plan.fuel.0 (size / 32) plan.birth plan.period G ≡ ongoing H → Over w plan.tau ws ls (full g) G
      → (v at kind : ℕ) → Returning w ws ls plan g v at kind → 8 ≤ kind → TracksState N lent n (place_at ws) (right_at ws) G
      → (p r : ℕ → ℕ) → ((j : ℕ) → p j ≡ place_at ws j) → ((j : ℕ) → r j ≡ right_at ws j)
      → TracksState N (lent_filled lent n k (place_at ws at + 2) (right_at ws at)) (count_ended n k) p r H
  unfolding Over TracksState step_by move control_of promotable
  join_tracked (state d S i x u) H e o v at kind q late tr p r same also =
      let top = right_here S o.1 v at kind q late in
      let b = code_at ws (32 * at) in
      let l = frame_value ws (32 * at) in
      let T = top.2 in
      let returns : d ≡ return v = o.0 ∙ rw q.is in
      let deep : length T ≡ at = top.4 in
      let moved = rw (returns, top.3, and_none (leb plan.period i)) at e in
      let to : after_join graphs N b l v top.0 top.1 T i x u ≡ H = cc in
      let tracks = rw (top.3, o.2) at tr in
      subst (TracksState N (lent_filled lent n k (place_at ws at + 2) (right_at ws at)) (count_ended n k) p r) to
      (tracks_places (rw deep at (tracks_join tracks)) p r (λ j y. same j) (λ j y. also j))

tracks_as : (M : FrameMachine) {lent lent' : List ℕ} (n n' : ℕ) → lent' ≡ lent → n' ≡ n → (p r : ℕ → ℕ) (H : State graphs M) → TracksState M lent n p r H → TracksState M lent' n' p r H
tracks_as M n n' a b p r H i = rw (a, b) i

-- WHAT THE WORDS OF A FREE MOVE ASK FOR
module _ {w arguments : List ℕ} {size : ℕ} {plan : Plan} {ws ls : List ℕ} {g : Compact} {lent : List ℕ} {n : ℕ}
    (r : Running w arguments size plan ws ls g) (t : Tracking w arguments size plan ws ls g lent n) where
  roomy : 32 * g.depth ≤ length ws
  roomy = r.starts.ready.kept.room

  oldest_room : (leb plan.period (full g).credits.0 && ltb g.oldest g.depth) ≡ true → 32 * g.oldest + 32 ≤ length ws
  oldest_room due = omega (arith, roomy, ltb-true g.oldest g.depth (and_right (leb plan.period (full g).credits.0) (ltb g.oldest g.depth) due))

  framed_of : (p : Pause) → Awaits w ws ls plan g p → (p ≡ pause.Limit → ⊥) → Fits ws g p → 0 < length lent → Framed ws n (full g).credits.0 (event_of g p)
  unfolding Awaits Framed Fits event_of
  framed_of pause.Limit a not fits h = absurd (not refl)
  framed_of pause.Promotion a not fits h = oldest_room a
  framed_of (pause.Fork seat) a not fits h = omega arith
  framed_of (pause.Turn v top) a not fits h =
      (omega (arith, roomy, a.depth), turn_placed w ws ls size plan g lent n r.starts t.at t.over v top a (t.tracks h))
  framed_of (pause.Join v top) a not fits h =
      let x = join_placed w ws ls size plan g lent n r.starts t.at t.over v top _ a.0 a.1 (t.tracks h) in
      (omega (arith, roomy, a.0.depth), x.0, x.1)

  pub free_markable : (p : Pause) → Awaits w ws ls plan g p → (p ≡ pause.Limit → ⊥) → Fits ws g p → 0 < length lent → Markable ws n (full g).credits.0 (event_of g p)
  free_markable p a not fits h = record { small = small_end r t h; framed = framed_of p a not fits h }

-- THE INVARIANTS AFTER A FREE MOVE: the words are marked, and the move is made on them
module _ {w arguments : List ℕ} {size : ℕ} {plan : Plan} {ws ls : List ℕ} {g : Compact} {lent : List ℕ} {n : ℕ}
    (r : Running w arguments size plan ws ls g) (t : Tracking w arguments size plan ws ls g lent n) {event : Event} {ws₁ lent' : List ℕ} {n' : ℕ}
    (x : Marked ws lent n (full g).credits.0 event ws₁ lent' n') {ws' ls' : List ℕ} {o : Progress} (f : Frees w ws₁ ls plan g event ws' ls' o)
    (long : length ws' ≡ length ws) where
  abbrev kk : ℕ
  kk = (full g).credits.0

  abbrev next : Compact
  next = f.next

  abbrev table : WellFormed w
  table = r.starts.ready.kept.table

  same_stack : stack_of ws g.depth ≡ stack_of ws₁ g.depth
  same_stack = (ready_alike w ws ws₁ table (marked_alike x).0 (marked_alike x).1 ls plan (full g) r.starts.ready).0

  -- on the words that are marked, beside no buffer
  abbrev r₁ : Running w arguments size plan ws₁ ls g
  r₁ = running_alike r ws₁ (marked_alike x).0 (marked_alike x).1

  abbrev t₁ : Tracking w arguments size plan ws₁ ls g [] 0
  t₁ = replaced t ws₁ same_stack [] 0 (λ h. absurd (omega arith))

  abbrev step₁ : Many w ws₁ ls plan (full g) ws' ls' (full next)
  step₁ = one_many f.advanced (full next) refl

  abbrev H : State graphs (language w)
  H = (reached r₁ t₁ next step₁).0

  stepped : step_by graphs (language w) plan.fuel.0 (size / 32) plan.birth plan.period t.at ≡ ongoing H
  unfolding one_many replaced
  stepped =
      let y = first_step graphs (language w) plan.fuel.0 (size / 32) plan.birth plan.period 0 t.at H (reached r₁ t₁ next step₁).1 in
      y.1 ∙ ap ongoing (no_steps graphs (language w) plan.fuel.0 (size / 32) plan.birth plan.period y.0 H y.2)

  viewed : StepBy graphs (language w) plan.fuel.0 (size / 32) plan.birth plan.period t.at H
  viewed = step_by_view graphs (language w) plan.fuel.0 (size / 32) plan.birth plan.period t.at H stepped

  forks_so : next.forks ≡ g.forks + 1 → forked H ≡ g.forks + 1
  forks_so h = over_forks w plan.tau ws' ls' (full next) H (reached r₁ t₁ next step₁).2 ∙ h

  deeper_so : (leb plan.period kk && ltb g.oldest g.depth) ≡ false → next.forks ≡ g.forks + 1 → next.depth ≡ g.depth + 1
  deeper_so not h =
      sym (over_depth w plan.tau ws' ls' (full next) H (reached r₁ t₁ next step₁).2)
      ∙ born_deep w ws ls size plan g lent n r.starts viewed t.over not (forks_so h)

  -- the places after the move are those of the mark
  same_places : Spared ws₁ ws'
  same_places = f.advanced.spared

  -- what returns to a frame of the marked words returned to it before
  returned : {v at kind : ℕ} → Returning w ws₁ ls plan g v at kind → Returning w ws ls plan g v at kind
  returned {v} {at} q = record {
    calm = record { starts = r.starts; not_due = q.calm.not_due };
    is = q.is;
    depth = q.depth;
    of_kind = kind_alike w ws ws₁ table (marked_alike x).0 (marked_alike x).1 at ∙ q.of_kind;
  }

  -- what the buffer tracks after it
  tracked_by : (ev : Event) → Occurs w ws₁ ls plan g next ev → ws₁ ≡ places_marked ws n kk ev → 0 < length lent
      → TracksState (language w) (graph_marked ws lent n kk ev) (count_marked n kk ev) (place_at ws') (right_at ws') H
  unfolding Occurs graph_marked count_marked places_marked
  tracked_by (Fork at) (promoted due i) e h =
      let v = count_ended n kk in
      let place : (j : ℕ) → place_at ws' j ≡ place_at (placed ws (32 * at) v) j = λ j. (same_places j).0 ∙ ap (λ (z : List ℕ). place_at z j) e in
      let right : (j : ℕ) → right_at ws' j ≡ right_at (placed ws (32 * at) v) j = λ j. (same_places j).1 ∙ ap (λ (z : List ℕ). right_at z j) e in
      let room : 32 * at + 32 ≤ length ws = rw i (oldest_room r t due) in
      promotion_tracked w ws ls size plan g lent n r.starts viewed t.over due (place_at ws') (right_at ws')
      (rw (← i) (place at ∙ place_kept ws at v room)) (λ j z. place j ∙ place_other ws at v j (λ y. z (y ∙ i))) (λ j. right j ∙ place_right ws at v j) (t.tracks h)
  tracked_by (Fork at) (born c b y i) e h =
      let v = count_ended n kk in
      let place : (j : ℕ) → place_at ws' j ≡ place_at (placed ws (32 * at) v) j = λ j. (same_places j).0 ∙ ap (λ (z : List ℕ). place_at z j) e in
      let right : (j : ℕ) → right_at ws' j ≡ right_at (placed ws (32 * at) v) j = λ j. (same_places j).1 ∙ ap (λ (z : List ℕ). right_at z j) e in
      let room : 32 * at + 32 ≤ length ws = omega (arith, deeper_so c.not_due y, step₁.kept.room) in
      born_tracked w ws ls size plan g lent n r.starts viewed t.over c.not_due (forks_so y) (place_at ws') (right_at ws')
      (rw (← i) (place at ∙ place_kept ws at v room)) (λ j z. place j ∙ place_other ws at v j (λ y. z (y ∙ i))) (λ j. right j ∙ place_right ws at v j) (t.tracks h)
  tracked_by (Turn at) q e h =
      let v = count_ended n kk in
      let place : (j : ℕ) → place_at ws' j ≡ place_at (right_placed ws (32 * at) v) j = λ j. (same_places j).0 ∙ ap (λ (z : List ℕ). place_at z j) e in
      let right : (j : ℕ) → right_at ws' j ≡ right_at (right_placed ws (32 * at) v) j = λ j. (same_places j).1 ∙ ap (λ (z : List ℕ). right_at z j) e in
      let room : 32 * at + 32 ≤ length ws = omega (arith, roomy r t, q.1.depth) in
      turn_tracked w ws ls size plan g lent n r.starts t.at H stepped t.over q.0 at (returned q.1) (t.tracks h) (place_at ws') (right_at ws')
      (λ j. place j ∙ right_place ws at v j) (right at ∙ right_kept ws at v room) (λ j z. right j ∙ right_other ws at v j z)
  tracked_by (Join at) q e h =
      join_tracked w ws ls size plan g lent n r.starts t.at H stepped t.over q.0 at q.1 (returned q.2) q.3 (t.tracks h) (place_at ws') (right_at ws')
      (λ j. (same_places j).0 ∙ ap (λ (z : List ℕ). place_at z j) e) (λ j. (same_places j).1 ∙ ap (λ (z : List ℕ). right_at z j) e)

  tracked : 0 < length lent' → Dec (0 < length lent) → TracksState (language w) lent' n' (place_at ws') (right_at ws') H
  tracked h (yes l) = let y = x.some l in tracks_as (language w) _ _ y.1 y.2 (place_at ws') (right_at ws') H (tracked_by event f.occurs y.0 l)
  tracked h (no l) = let y = x.none (omega arith) in absurd (omega (arith, ap length y.1))

  pub free_next : Running w arguments size plan ws' ls' next × (to_go w size plan ws' ls' (full next) < to_go w size plan ws ls (full g)) × Tracking w arguments size plan ws' ls' next lent' n'
  free_next =
      let l : length ws' ≡ length ws₁ = long ∙ sym (marked_alike x).0 in (
        running_next r₁ (one f.advanced) next refl f.paced l,
        rw same_stack (running_less r₁ (one f.advanced) next refl),
        onwards r₁ t₁ next step₁ lent' n' (λ h. tracked h (dec_lt 0 (length lent))),
      )

-- THE VALUE: a step that ends in one has no frame left, and the words are its graph's
module _ (M : FrameMachine) (fuel cap : ℕ) (born : Bool) (N : ℕ) (lent : List ℕ) (n : ℕ) (p r : ℕ → ℕ) (v : ℕ) (h : Graph) (u : RunCounts) where
  -- k transitions are pending
  abbrev Counts : ℕ → Type 0
  Counts k = (count_ended n k ≡ length (written h)) × (count_ended n k ≤ length lent → take (count_ended n k) (lent_ended lent n k) ≡ written h)

  at_value : {G : State graphs M} {o : Result graphs M} → MoveView graphs M fuel cap born G o → o ≡ ended (value v) h u → TracksState M lent n p r G → Counts (credited G)
  unfolding TracksState credited
  at_value (is_value {n = k} {g = x}) e i = let same : x ≡ h = cc in rw same at (tracks_value i)
  at_value (is_halt x) e i = let no : ◌≡◌ {A = ℕ} 0 1 = cc in absurd (omega arith)
  at_value (is_step x) e i = let no : ◌≡◌ {A = ℕ} 0 1 = cc in absurd (omega arith)

  value_counts : (G : State graphs M) → step_by graphs M fuel cap born N G ≡ ended (value v) h u → TracksState M lent n p r G → Counts (credited G)
  unfolding step_by
  value_counts (state c S k x t) e i = on (leb N k && promotable S) e
    where
      on : (q : Bool) → cond q (ongoing (after_promotion graphs M c S k x t)) (move graphs M fuel cap born (state c S k x t)) ≡ ended (value v) h u → Counts (credited {M = M} (state c S k x t))
      on true e = let no : ◌≡◌ {A = ℕ} 0 1 = cc in absurd (omega arith)
      on false e = at_value (move_view graphs M fuel cap born (state c S k x t)) e i

-- THE END: the run over graphs ends with the last step of the words
module _ {w arguments : List ℕ} {size : ℕ} {plan : Plan} {ws ls : List ℕ} {g : Compact} {lent : List ℕ} {n : ℕ}
    (r : Running w arguments size plan ws ls g) (t : Tracking w arguments size plan ws ls g lent n) {ws' ls' : List ℕ} {o : Progress}
    (st : Strides w ws ls plan g ws' ls' o) (stays : Stays o) where
  abbrev by : State graphs (language w) → Result graphs (language w)
  by = step_by graphs (language w) plan.fuel.0 (size / 32) plan.birth plan.period

  no_more : (x : State graphs (language w)) → by t.at ≡ ongoing x → ⊥
  no_more x e =
      let carried = step_by_map graphs (spans plan.tau) (language w) (span plan.tau) (span_carried plan.tau) plan.fuel.0 (size / 32) plan.birth plan.period t.at in
      let last = ap (step_by (spans plan.tau) (language w) plan.fuel.0 (size / 32) plan.birth plan.period) (over_is w plan.tau ws ls (full g) t.at t.over) ∙ last_step r st.strode (no_further st stays) in
      on (step_of o) refl (sym last ∙ carried ∙ ap (map_outcome (span plan.tau) (map_state graphs (spans plan.tau) (language w) (span plan.tau))) e)
    where
      on : (q : Step) → step_of o ≡ q
          → result_of w plan.tau ws' ls' (full g) q ≡ map_outcome (span plan.tau) (map_state graphs (spans plan.tau) (language w) (span plan.tau)) (ongoing x) → ⊥
      on (Go next) i e = no_further st stays next i
      on (Value v) i e = unfold result_of map_outcome in let no : ◌≡◌ {A = ℕ} 0 1 = cc in omega arith
      on (Halt h) i e = unfold result_of map_outcome in let no : ◌≡◌ {A = ℕ} 0 1 = cc in omega arith

  ends_so : (m : Schedule) → Flags plan.fuel.0 m plan.birth plan.period → by t.at ≡ outcome graphs (language w) plan.fuel.0 (size / 32) m (entry_code arguments)
  ends_so m f = on (by t.at) refl
    where
      all : and_then (by t.at) (run (step graphs (language w) plan.fuel.0 (size / 32) m) t.left) ≡ outcome graphs (language w) plan.fuel.0 (size / 32) m (entry_code arguments)
      all = ap (λ (q : Result graphs (language w)). and_then q (run (step graphs (language w) plan.fuel.0 (size / 32) m) t.left))
          (sym (flags_step graphs (language w) plan.fuel.0 (size / 32) plan.birth plan.period m f t.at t.within))
          ∙ sym (run_next (step graphs (language w) plan.fuel.0 (size / 32) m) t.left t.at) ∙ t.course m f

      on : (q : Result graphs (language w)) → by t.at ≡ q → by t.at ≡ outcome graphs (language w) plan.fuel.0 (size / 32) m (entry_code arguments)
      on (ended z x u) i = i ∙ unfold and_then in (rw i at all)
      on (ongoing x) i = absurd (no_more x i)

  pub wrote : (found lent' : List ℕ) (words : ℕ) → length lent ≡ length found → length lent' ≡ length found → Finished lent n (full g).credits.0 words lent'
      → Wrote w arguments size plan found words lent'
  unfolding Over credited
  wrote found lent' words long long' x = record {
    long = long';
    holds = λ m f v h u e. record {
      some = λ some.
          let y = x.some (omega arith) in
          let c = value_counts (language w) plan.fuel.0 (size / 32) plan.birth plan.period lent n (place_at ws) (right_at ws) v h u t.at (ends_so m f ∙ e) (t.tracks (omega arith)) in
          let k : credited t.at ≡ (full g).credits.0 = over_credits w plan.tau ws ls (full g) t.at t.over in
          let d = rw (k, ← y.0) at c in
          (d.0, λ fits. rw y.1 (d.1 (omega arith)));
      none = λ none. x.none (omega arith);
    };
  }
