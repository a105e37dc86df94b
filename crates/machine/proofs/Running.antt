-- The loop of a run: what it keeps true from its start to its end.
--     running_first      at the start
--     running_expands    its registers can be expanded
--     running_counts     the counts are small enough for the work's sum
--     starts_less        a stride makes the measure smaller
--     starts_next        and leaves what the next one starts from
--     running_less       so in a run, and so a free move
--     running_next       and the invariant is kept
--     running_far        strides, one after the other
--     no_further         a stride that stays goes on in no way
--     running_ends       at the end the answer is the definition's
use Prim.Native.Nat.{ℕ, ◌+◌, ◌-◌, ◌*◌, ◌/◌, ◌<◌, ◌≤◌, ◌^◌, zero-le}
use mathlib.Core.Path.{◌≡◌, refl, sym, ap, ◌∙◌, subst}
use mathlib.Core.Logic.{◌⊎◌, inl, inr}
use mathlib.Core.List.{List}
use native.Mathlib.Omega.{arith}
use lib.ListN.{length, take, replicate}
use Rattle.schedule.specs.Algebra.{spans}
use Rattle.schedule.specs.Machine.{ongoing, Schedule, step, start}
use Rattle.schedule.specs.Runs.{and_then, outcome}
use Rattle.schedule.specs.Runs as schedule
use Rattle.schedule.specs.Bounds.{step_by, Flags, measure_of, BoundedState}
use Rattle.schedule.proofs.Bounds.{start_bounded, start_measure, flags_are}
use Rattle.schedule.proofs.Stretch.{first_then, run_then, steps_advance, steps_same}
use Rattle.schedule.proofs.Runs.{run_next}
use Rattle.table.specs.Words.{nodes_at}
use Rattle.language.specs.declared.Answer.{Answer}
use Rattle.language.specs.Language.{language}
use Rattle.language.specs.Answers.{entry_code, told_by_spans}
use Rattle.moves.specs.declared.Registers.{Registers}
use Rattle.moves.specs.declared.Plan.{Plan}
use Rattle.moves.specs.declared.Step.{Step}
use Rattle.moves.specs.declared.Step.TheVariants.{Go, Value, Halt}
use Rattle.moves.specs.Layout.{stack_of, control_of, state_of, result_of}
use Rattle.moves.specs.Ready.{Held, Controlled, Ready, KeptBy, Advanced}
use Rattle.moves.proofs.Steps.{bounds}
use Rattle.compact.specs.declared.Compact.{Compact}
use Rattle.compact.specs.declared.Progress.{Progress}
use Rattle.compact.specs.declared.Progress.TheVariants as progress
use Rattle.compact.specs.Compact.{full, step_of, limit_of, Paced, PacedBy, Transits, compact_of}
use Rattle.strides.specs.Strides.{Many, Strode, one, many, Strides, Starts}
use Rattle.machine.specs.Workspace.{left_by}
use Rattle.machine.specs.Loop.{Far, here, more, Stays}
use Rattle.machine.specs.Runs.{begun, told_at, Countable, Begins, Ran}
use Rattle.machine.proofs.Places.{Alike, ready_alike}

-- the loop's measure, with a workspace of so many words
abbrev pub to_go : List ℕ → ℕ → Plan → List ℕ → List ℕ → Registers → ℕ
to_go w size plan ws ls s = measure_of (spans plan.tau) (language w) plan.fuel.0 (size / 32) (state_of w plan.tau ws ls s)

-- THE LOOP'S INVARIANT: with enough moves left, the run from the state that the words hold ends as the whole run does
pub record Running (w arguments : List ℕ) (size : ℕ) (plan : Plan) (ws ls : List ℕ) (g : Compact) : Type 0 where
  pub long : length ws ≡ size
  pub starts : Starts w ws ls plan g
  pub left : ℕ
  pub enough : to_go w size plan ws ls (full g) ≤ left
  pub course : (m : Schedule) → Flags plan.fuel.0 m plan.birth plan.period
      → schedule.run (step (spans plan.tau) (language w) plan.fuel.0 (size / 32) m) (left + 1) (state_of w plan.tau ws ls (full g))
      ≡ outcome (spans plan.tau) (language w) plan.fuel.0 (size / 32) m (entry_code arguments)

pub running_first : {w ws ls : List ℕ} {plan : Plan} {count : ℕ} {g : Compact} → Begins w ws ls plan count → g ≡ compact_of plan (begun count)
    → Running w (take count ls) (length ws) plan ws ls g
unfolding stack_of control_of Held Controlled BoundedState start outcome limit_of
running_first {w} {ws} {ls} {plan} {count} b u =
    let few = b.table.contents.header.some in
    rw u (record {
      long = refl;
      starts = record {
        ready = record {
          kept = record {
            table = b.table;
            sixteen = b.sixteen;
            room = zero-le;
            held = tt;
            control = record {
              function = few;
              few = omega (arith, b.table.contents.entries 0 few);
              level = 1;
              after = nodes_at w 0;
              tree = rw b.arguments (b.table.trees 0 few);
            };
            oldest = record {
              below = λ j h. absurd (omega arith);
              is = λ h. absurd (omega arith);
              none = λ h. refl;
              past = λ j h. absurd (omega arith);
            };
            born = λ h. refl;
          };
          limits = b.limits;
          bounded = start_bounded plan.tau (language w) plan.fuel.0 (length ws / 32) (entry_code (take count ls));
        };
        paced = record { since = zero-le; fuel = omega arith; calm = λ h. absurd (omega arith); exact = λ h. absurd (omega arith) };
      };
      left = 5 * plan.fuel.0 + length ws / 32;
      enough = omega (arith, start_measure plan.tau (language w) plan.fuel.0 (length ws / 32) (entry_code (take count ls)));
      course = λ m h. refl;
    })

-- ONE MOVE is one of several
unfoldable pub one_many : {w : List ℕ} {plan : Plan} {ws ls : List ℕ} {s : Registers} {ws' ls' : List ℕ} {o : Step} → Advanced w ws ls plan s ws' ls' o
    → (next : Registers) → o ≡ Go next → Many w ws ls plan s ws' ls' next
unfolding result_of KeptBy schedule.run
one_many {w} {plan} {ws} {ls} {s} {ws'} {ls'} a next e = record {
  more = 0;
  same = first_then (step_by (spans plan.tau) (language w) plan.fuel.0 (length ws / 32) plan.birth plan.period) 0 (state_of w plan.tau ws ls s) (state_of w plan.tau ws' ls' next) (ongoing (state_of w plan.tau ws' ls' next)) (rw e at a.same) refl;
  kept = rw e at a.kept;
  spared = a.spared;
}

-- how many steps a stride is: one, or as many as transitions were made
pub strode_exact : {w : List ℕ} {plan : Plan} {ws ls : List ℕ} {s : Registers} {ws' ls' : List ℕ} {o : Step} → Strode w ws ls plan s ws' ls' o → (next : Registers) → o ≡ Go next
    → (m : Many w ws ls plan s ws' ls' next) × ((m.more ≡ 0) ⊎ (next.transitions ≡ s.transitions + (m.more + 1)))
unfolding one_many
strode_exact (one a) next e = (one_many a next e, inl refl)
strode_exact {w} {plan} {ws} {ls} {s} {ws'} {ls'} (many n f m x) next e =
    let z : Go n ≡ Go next = sym f ∙ e in
    let y : n ≡ next = cc in
    subst (λ (k : Registers). (i : Many w ws ls plan s ws' ls' k) × ((i.more ≡ 0) ⊎ (k.transitions ≡ s.transitions + (i.more + 1)))) y (m, inr x)

abbrev pub strode_many : {w : List ℕ} {plan : Plan} {ws ls : List ℕ} {s : Registers} {ws' ls' : List ℕ} {o : Step} → Strode w ws ls plan s ws' ls' o → (next : Registers) → o ≡ Go next
    → Many w ws ls plan s ws' ls' next
strode_many t next e = (strode_exact t next e).0

-- WHAT A STRIDE STARTS FROM, with a workspace of so many words
module _ {w : List ℕ} {plan : Plan} {ws ls : List ℕ} {g : Compact} {size : ℕ} (long : length ws ≡ size) (st : Starts w ws ls plan g) where
  bounded_in : BoundedState plan.tau (language w) plan.fuel.0 (size / 32) (state_of w plan.tau ws ls (full g))
  unfolding BoundedState
  bounded_in = rw long at st.ready.bounded

  -- SEVERAL MOVES lead to the next registers
  module _ {ws' ls' : List ℕ} (next : Compact) (m : Many w ws ls plan (full g) ws' ls' (full next)) where
    moved : schedule.run (step_by (spans plan.tau) (language w) plan.fuel.0 (size / 32) plan.birth plan.period) (m.more + 1) (state_of w plan.tau ws ls (full g))
        ≡ ongoing (state_of w plan.tau ws' ls' (full next))
    moved = rw long at m.same

    pub advances : BoundedState plan.tau (language w) plan.fuel.0 (size / 32) (state_of w plan.tau ws' ls' (full next))
        × (to_go w size plan ws' ls' (full next) + (m.more + 1) ≤ to_go w size plan ws ls (full g))
    advances = steps_advance plan.tau (language w) plan.fuel.0 (size / 32) plan.birth plan.period st.ready.limits.tau (m.more + 1) _ _ bounded_in moved

    many_less : to_go w size plan ws' ls' (full next) < to_go w size plan ws ls (full g)
    many_less = omega (arith, advances.1)

    many_starts : length ws' ≡ length ws → Paced plan next → Starts w ws' ls' plan next
    unfolding BoundedState
    many_starts l p = record {
      ready = record {
        kept = m.kept;
        limits = record { fuel = st.ready.limits.fuel; tau = st.ready.limits.tau; frames = rw l st.ready.limits.frames };
        bounded = rw (l ∙ long) advances.0;
      };
      paced = p;
    }

  -- A STRIDE that goes on
  module _ {ws' ls' : List ℕ} {next : Compact} (t : Strides w ws ls plan g ws' ls' (progress.Go next)) where
    pub starts_less : to_go w size plan ws' ls' (full next) < to_go w size plan ws ls (full g)
    unfolding step_of
    starts_less = many_less next (strode_many t.strode (full next) refl)

    pub starts_next : length ws' ≡ length ws → Starts w ws' ls' plan next
    unfolding step_of PacedBy
    starts_next l = many_starts next (strode_many t.strode (full next) refl) l t.paced

module _ {w arguments : List ℕ} {size : ℕ} {plan : Plan} {ws ls : List ℕ} {g : Compact} (r : Running w arguments size plan ws ls g) where
  abbrev s : Registers
  s = full g

  abbrev ready : Ready w ws ls plan s
  ready = r.starts.ready

  pub running_expands : (g.since ≤ g.transitions) × (s.span.0 < 2 ^ 60)
  running_expands = (r.starts.paced.since, (bounds w ws ls plan s ready).1)

  pub running_counts : Countable plan s
  running_counts = record {
    transitions = omega (arith, ready.bounded.within_fuel, ready.limits.fuel);
    tau = ready.limits.tau;
    forks = omega (arith, ready.bounded.forks, ready.limits.fuel, ready.limits.frames);
  }

  abbrev bounded : BoundedState plan.tau (language w) plan.fuel.0 (size / 32) (state_of w plan.tau ws ls s)
  bounded = bounded_in r.long r.starts

  -- SEVERAL MOVES lead to the next registers
  module _ {ws' ls' : List ℕ} (next : Compact) (m : Many w ws ls plan s ws' ls' (full next)) where
    onward : (d : Schedule) → Flags plan.fuel.0 d plan.birth plan.period
        → schedule.run (step (spans plan.tau) (language w) plan.fuel.0 (size / 32) d) ((r.left - (m.more + 1)) + 1) (state_of w plan.tau ws' ls' (full next))
        ≡ outcome (spans plan.tau) (language w) plan.fuel.0 (size / 32) d (entry_code arguments)
    unfolding and_then
    onward d h =
        let f = step (spans plan.tau) (language w) plan.fuel.0 (size / 32) d in
        let same = steps_same plan.tau (language w) plan.fuel.0 (size / 32) plan.birth plan.period ready.limits.tau d h (m.more + 1) (state_of w plan.tau ws ls s) bounded ∙ moved r.long r.starts next m in
        let all : (m.more + 1) + ((r.left - (m.more + 1)) + 1) ≡ r.left + 1 = omega (arith, r.enough, (advances r.long r.starts next m).1) in
        let parts = run_then f (m.more + 1) ((r.left - (m.more + 1)) + 1) (state_of w plan.tau ws ls s) in
        sym (rw (all, same) at parts) ∙ r.course d h

    many_next : length ws' ≡ length ws → Paced plan next → Running w arguments size plan ws' ls' next
    many_next l p = record {
      long = l ∙ r.long;
      starts = many_starts r.long r.starts next m l p;
      left = r.left - (m.more + 1);
      enough = omega (arith, r.enough, (advances r.long r.starts next m).1);
      course = onward;
    }

  -- ONE MOVE, which may be the last
  module _ {ws' ls' : List ℕ} {o : Step} (a : Advanced w ws ls plan s ws' ls' o) where
    ended_so : step_by (spans plan.tau) (language w) plan.fuel.0 (size / 32) plan.birth plan.period (state_of w plan.tau ws ls s)
        ≡ result_of w plan.tau ws' ls' s o
    ended_so = rw r.long at a.same

    turned : (m : Schedule) → Flags plan.fuel.0 m plan.birth plan.period
        → and_then (result_of w plan.tau ws' ls' s o) (schedule.run (step (spans plan.tau) (language w) plan.fuel.0 (size / 32) m) r.left)
        ≡ outcome (spans plan.tau) (language w) plan.fuel.0 (size / 32) m (entry_code arguments)
    turned m h =
        let f = flags_are plan.tau (language w) plan.fuel.0 (size / 32) m plan.birth plan.period h (state_of w plan.tau ws ls s) bounded in
        rw (← ended_so, ← f) (sym (run_next (step (spans plan.tau) (language w) plan.fuel.0 (size / 32) m) r.left (state_of w plan.tau ws ls s)) ∙ r.course m h)

    -- what the code tells of an end is what the definition tells
    told_so : ((next : Registers) → o ≡ Go next → ⊥) → (m : Schedule) → Flags plan.fuel.0 m plan.birth plan.period
        → told_at plan.tau s o ≡ told_by_spans plan.tau (outcome (spans plan.tau) (language w) plan.fuel.0 (size / 32) m (entry_code arguments))
    unfolding told_at told_by_spans result_of and_then
    told_so stays m h = at_end o refl
      where
        at_end : (p : Step) → o ≡ p → told_at plan.tau s o ≡ told_by_spans plan.tau (outcome (spans plan.tau) (language w) plan.fuel.0 (size / 32) m (entry_code arguments))
        at_end (Go next) e = absurd (stays next e)
        at_end (Value v) e = rw e (ap (told_by_spans plan.tau) (rw e at (turned m h)))
        at_end (Halt p) e = rw e (ap (told_by_spans plan.tau) (rw e at (turned m h)))

    one_ends : ((next : Registers) → o ≡ Go next → ⊥) → (x : Answer) → x ≡ told_at plan.tau s o → Ran w arguments size plan x
    unfolding told_at left_by
    one_ends stays x e = record {
      answers = λ m h. e ∙ told_so stays m h;
      began = λ words. rw e (begins o words);
    }
      where
        begins : (p : Step) (words : List ℕ) → left_by (told_at plan.tau s p) words ≡ replicate (length words) 0
        begins (Go next) words = refl
        begins (Value v) words = refl
        begins (Halt p) words = refl

  -- A STRIDE, or a free move
  module _ {ws' ls' : List ℕ} {o : Step} (t : Strode w ws ls plan s ws' ls' o) where
    pub running_less : (next : Compact) → o ≡ Go (full next) → to_go w size plan ws' ls' (full next) < to_go w size plan ws ls s
    running_less next e = many_less r.long r.starts next (strode_many t (full next) e)

    pub running_next : (next : Compact) → o ≡ Go (full next) → Paced plan next → length ws' ≡ length ws → Running w arguments size plan ws' ls' next
    running_next next e p l = many_next next (strode_many t (full next) e) l p

    pub running_ends : ((next : Registers) → o ≡ Go next → ⊥) → (x : Answer) → x ≡ told_at plan.tau s o → Ran w arguments size plan x
    running_ends stays x e = on t
      where
        on : Strode w ws ls plan s ws' ls' o → Ran w arguments size plan x
        on (one a) = one_ends a stays x e
        on (many n f m y) = absurd (stays n f)

    -- the last move of a run is one step
    pub last_step : ((next : Registers) → o ≡ Go next → ⊥)
        → step_by (spans plan.tau) (language w) plan.fuel.0 (size / 32) plan.birth plan.period (state_of w plan.tau ws ls s) ≡ result_of w plan.tau ws' ls' s o
    last_step stays = on t
      where
        on : Strode w ws ls plan s ws' ls' o → step_by (spans plan.tau) (language w) plan.fuel.0 (size / 32) plan.birth plan.period (state_of w plan.tau ws ls s) ≡ result_of w plan.tau ws' ls' s o
        on (one a) = ended_so a
        on (many n f m y) = absurd (stays n f)

-- STRIDES, one after the other
pub running_far : {w arguments : List ℕ} {size : ℕ} {plan : Plan} {ws ls : List ℕ} {g : Compact} → Running w arguments size plan ws ls g
    → {ws' ls' : List ℕ} {h : Compact} → Far w plan ws ls g ws' ls' h → Running w arguments size plan ws' ls' h × (to_go w size plan ws' ls' (full h) ≤ to_go w size plan ws ls (full g))
unfolding step_of PacedBy
running_far r here = (r, omega arith)
running_far r (more {next = next} f st l) =
    let x = running_far r f in
    (running_next x.0 st.strode next refl st.paced l, omega (arith, x.1, running_less x.0 st.strode next refl))

-- A STEP THAT ENDS A RUN: a stride that goes on neither by transitions nor, as no stride does, freely
pub no_further : {w ws ls : List ℕ} {plan : Plan} {g : Compact} {ws' ls' : List ℕ} {o : Progress} → Strides w ws ls plan g ws' ls' o → Stays o → (next : Registers) → step_of o ≡ Go next → ⊥
unfolding step_of Transits
no_further {g = g} {o = o} t stays = on o t.transits stays
  where
    on : (q : Progress) → Transits g q → Stays q → (next : Registers) → step_of q ≡ Go next → ⊥
    on (progress.Go n) i k next e = k n refl
    on (progress.Free n v) i k next e = i
    on (progress.Paused p) i k next e = i
    on (progress.Value v) i k next e = let z : ◌≡◌ {A = ℕ} 0 1 = cc in absurd (omega arith)
    on (progress.Halt h) i k next e = let z : ◌≡◌ {A = ℕ} 0 1 = cc in absurd (omega arith)

-- THE SAME WITH OTHER PLACES in the frames
pub running_alike : {w arguments : List ℕ} {size : ℕ} {plan : Plan} {ws ls : List ℕ} {g : Compact} → Running w arguments size plan ws ls g
    → (ws' : List ℕ) → length ws' ≡ length ws → Alike ws ws' → Running w arguments size plan ws' ls g
running_alike {w} {arguments} {size} {plan} {ws} {ls} {g} r ws' long alike =
    let x = ready_alike w ws ws' r.starts.ready.kept.table long alike ls plan (full g) r.starts.ready in
    record {
      long = long ∙ r.long;
      starts = record { ready = x.1; paced = r.starts.paced };
      left = r.left;
      enough = rw (← x.0) r.enough;
      course = λ m h. rw (← x.0) (r.course m h);
    }
