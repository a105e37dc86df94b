-- Where no stride is made: a pause, the free moves that come after one, and what comes where the fuel is spent.
use Prim.Native.Nat.{ℕ, ◌*◌, ◌/◌, ◌≤◌, ◌<◌, ◌^◌}
use mathlib.Core.Path.{◌≡◌, refl, ap, ◌∙◌}
use mathlib.Core.Bool.{true, false, ◌&&◌}
use mathlib.Core.List.{List}
use native.Mathlib.Omega.{arith}
use lib.ListN.{length, take}
use lib.Dec.{ltb, leb}
use Rattle.table.specs.Words.{start_of, tag_at}
use Rattle.table.specs.Nodes.{node_at}
use Rattle.frames.specs.Frames.{seat_at}
use Rattle.frames.specs.declared.Seat.{Seat}
use Rattle.language.specs.Language.{Code, next}
use Rattle.moves.specs.declared.Control.TheVariants.{Eval, Ret}
use Rattle.moves.specs.declared.Registers.{Registers}
use Rattle.moves.specs.declared.Plan.{Plan}
use Rattle.moves.specs.declared.Step.{Step}
use Rattle.moves.specs.declared.Step.TheVariants as step
use Rattle.moves.specs.Layout.{halted}
use Rattle.moves.specs.Ready.{Paid, Stepped, Restarts, Framed, Forked, born}
use Rattle.moves.proofs.Steps.{bounds, here, framed, stepped_spent, fork_tag}
use Rattle.moves.proofs.Nodes.{tag_is}
use Rattle.moves.proofs.Returning.{stepped_dry}
use Rattle.compact.specs.declared.Compact.{Compact}
use Rattle.compact.specs.declared.Event.{Event}
use Rattle.compact.specs.declared.Event.TheVariants.{Fork}
use Rattle.compact.specs.declared.Pause.{Pause}
use Rattle.compact.specs.declared.Pause.TheVariants as pause
use Rattle.compact.specs.declared.Progress.{Progress}
use Rattle.compact.specs.declared.Progress.TheVariants.{Go, Paused, Value, Halt}
use Rattle.compact.specs.Compact.{full, step_of, PacedBy, settled_of, Settles, Forkless, freed_by, Transits}
use Rattle.compact.proofs.Keeping.{never_due, at_fuel}
use Rattle.strides.specs.Strides.{Starts, Calm, Returning, Occurs, Strides, Frees, Awaits, Passes, made, pauses, Ends}
use Rattle.strides.specs.Strides as strides
use Rattle.strides.proofs.Settling.{small, move_settles, move_frees, kept_strides, fork_stepped, fork_goes}
use Rattle.strides.proofs.Striding.{returned, done_strides}

abbrev twenty : Seat → Progress
twenty seat = Halt (record { number = 20; function = seat.function; node = seat.node })

-- a promotion is another pause than the limit
pub promotion_no_limit : pause.Promotion ≡ pause.Limit → ⊥
promotion_no_limit e = cc

module _ {w ws ls : List ℕ} {plan : Plan} {g : Compact} where
  -- the registers can be expanded
  pub expands : Starts w ws ls plan g → (g.since ≤ g.transitions) × ((full g).span.0 < 2 ^ 60)
  expands s = (s.paced.since, (bounds w ws ls plan (full g) s.ready).1)

  -- BELOW THE LIMIT no promotion is due, and there is fuel
  pub below : Starts w ws ls plan g → g.transitions < g.limit → Calm w ws ls plan g × Paid plan (full g)
  below s h = (record { starts = s; not_due = never_due plan g s.paced (small s).depth h }, omega (arith, s.paced.fuel))

  -- AT IT, where none is due, the fuel is spent
  pub spent_at : Starts w ws ls plan g → g.limit ≤ g.transitions → (leb plan.period (full g).credits.0 && ltb g.oldest g.depth) ≡ false
      → Calm w ws ls plan g × (plan.fuel.0 ≤ g.transitions)
  spent_at s h e = (record { starts = s; not_due = e }, at_fuel plan g s.paced s.ready.kept.oldest.none h e)

  -- a pause that is told at the limit
  pub pause_ends : (p : Pause) → (p ≡ pause.Limit → ⊥) → Awaits w ws ls plan g p → Ends w ws ls plan g (Paused p)
  pause_ends p n a = record {
    passes = pauses p refl refl refl a;
    resolved = λ e. n cc;
    stays = λ next e. cc;
  }

  -- a stop there
  module _ (c : Calm w ws ls plan g) (h : plan.fuel.0 ≤ g.transitions) where
    stop_ends : (seat : Seat) → Stepped w ws ls plan (full g) ws ls (halted 20 seat.function seat.node) → (r : Progress) → r ≡ twenty seat → Ends w ws ls plan g r
    unfolding step_of PacedBy Transits
    stop_ends seat m r e = rw e (record {
      passes = made (kept_strides c ws ls (halted 20 seat.function seat.node) m (twenty seat) refl tt tt);
      resolved = λ i. cc;
      stays = λ next i. cc;
    })

    pub node_spent : {seat : Seat} → g.control ≡ Eval seat → (tag_at w (start_of w seat.function) seat.node ≡ 6 → plan.birth ≡ false) → (r : Progress) → r ≡ twenty seat → Ends w ws ls plan g r
    node_spent {seat} is low r e =
        let ready = c.starts.ready in
        let site = here w ws ls plan (full g) ready seat is in
        let code : Code = record { function = seat.function; node = seat.node; locals = take seat.count ls } in
        stop_ends seat (stepped_spent w ws ls plan (full g) ready seat is h
        (λ b d i. low (tag_is w ready.kept.table site ∙ fork_tag w code (node_at w (start_of w seat.function) seat.node) b d i)) _ refl) r e

    pub value_spent : {seat : Seat} {v top kind : ℕ} → Returning w ws ls plan g v top kind → kind < 7 → seat ≡ seat_at ws (32 * top) → (r : Progress) → r ≡ twenty seat → Ends w ws ls plan g r
    value_spent {seat} {v} {top} {kind} q low is r e = stop_ends seat (stepped_dry (returned q) h low seat is _ refl) r e

  pub value_ends : Calm w ws ls plan g → {v : ℕ} → g.control ≡ Ret v → g.depth ≡ 0 → Ends w ws ls plan g (Value v)
  value_ends c {v} e d = record {
    passes = made (done_strides c v e d);
    resolved = λ i. cc;
    stays = λ next i. cc;
  }

-- NO FORK is open in the machine that goes on
forkless : (o : Step) (next : Registers) → o ≡ step.Go next → next.oldest ≡ 4096 → Forkless o
unfolding Forkless
forkless o next e h = rw e h

-- A FORK THAT IS PROMOTED AT ITS BIRTH
module _ (w ws ls : List ℕ) (plan : Plan) (g : Compact) (seat : Seat) (a : Awaits w ws ls plan g (pause.Fork seat)) where
  pub fork_calm : Calm w ws ls plan g
  unfolding Awaits
  fork_calm = a.0

  born_here : plan.birth ≡ true
  unfolding Awaits
  born_here = a.3

  pub fork_framed : Framed ws ls (full g) seat
  unfolding Awaits
  fork_framed = framed w ws ls plan (full g) fork_calm.starts.ready seat a.1

  module _ (s : Registers) (e : s ≡ full g) (ws' : List ℕ) (long : length ws' ≡ length ws) (o : Step) (u : Forked ws ws' ls s seat o) where
    forked_here : Forked ws ws' ls (full g) seat o
    forked_here = rw e at u

    forked_steps : Stepped w ws ls plan (full g) ws' ls o
    unfolding Awaits
    forked_steps = fork_stepped fork_calm a.1 a.2 ws' long (born born_here forked_here)

    pub fork_restarts : g.depth < length ws / 32 → Settles plan o × Forkless o
    fork_restarts h =
        let x = fork_goes g forked_here h in
        (move_settles fork_calm ws' ls o forked_steps, forkless o x.0 x.1 (x.3 ∙ fork_calm.starts.ready.kept.born born_here))

    pub fork_frees : g.depth < length ws / 32 → (r : Progress) → r ≡ freed_by (Fork g.depth) (settled_of plan o) → Frees w ws ls plan g (Fork g.depth) ws' ls r
    unfolding Occurs
    fork_frees h r i =
        let x = fork_goes g forked_here h in
        move_frees fork_calm ws' ls o forked_steps (Fork g.depth) x.0 x.1 (strides.born fork_calm born_here x.2 refl) r i

  pub fork_crowded : length ws / 32 ≤ g.depth → (r : Progress) → r ≡ Halt (record { number = 21; function = seat.function; node = seat.node })
      → Strides w ws ls plan g ws ls r × ((next : Compact) → r ≡ Go next → ⊥)
  unfolding Awaits step_of PacedBy Transits
  fork_crowded h r e = rw e (
    kept_strides fork_calm ws ls (halted 21 seat.function seat.node) (fork_stepped fork_calm a.1 a.2 ws refl (born born_here (Forked.full h refl refl))) _ refl tt tt,
    λ next i. cc,
  )

-- A VALUE ARRIVES at a promoted fork
restarted_next : (s : Registers) (o : Step) → Restarts s o → (next : Registers) × (o ≡ step.Go next) × (next.oldest ≡ s.oldest)
unfolding Restarts
restarted_next s (step.Go next) h = (next, refl, h)
restarted_next s (step.Value v) h = absurd h
restarted_next s (step.Halt x) h = absurd h

module _ {w ws ls : List ℕ} {plan : Plan} {g : Compact} {v top kind : ℕ} (q : Returning w ws ls plan g v top kind) (high : 7 ≤ kind)
    (s : Registers) (e : s ≡ full g) (ws' ls' : List ℕ) (o : Step) (m : Stepped w ws ls plan s ws' ls' o × Restarts s o) where
  no_fork : g.oldest ≡ 4096
  no_fork =
      let old = q.calm.starts.ready.kept.oldest in
      let over : top < g.oldest = old.past top (omega (arith, q.depth)) (omega (arith, q.of_kind)) in
      old.none (omega (arith, over, q.depth))

  arrives : Stepped w ws ls plan (full g) ws' ls' o
  arrives = rw e at m.0

  pub arrival_restarts : Settles plan o × Forkless o
  arrival_restarts =
      let x = restarted_next s o m.1 in
      (move_settles q.calm ws' ls' o arrives, forkless o x.0 x.1 (x.2 ∙ ap (λ (y : Registers). y.oldest) e ∙ no_fork))

  pub arrival_frees : (event : Event) → ((next : Compact) → Occurs w ws ls plan g next event) → (r : Progress) → r ≡ freed_by event (settled_of plan o) → Frees w ws ls plan g event ws' ls' r
  arrival_frees event occurs r i =
      let x = restarted_next s o m.1 in
      move_frees q.calm ws' ls' o arrives event x.0 x.1 (occurs _) r i
