-- The loop's turn: strides, and then a free move or the run's end.
--     final                 a stride that goes no further ends the run
--     paused_is, made_is    a pause changes nothing; what is no pause was made
--     limit_awaits          what is asked at the limit
--     pause_next            the invariants where a free move is awaited
--     end_next              and where the run ends
--     free_done, free_ends  a free move keeps them, or the run ends at it
use Prim.Native.Nat.{ℕ, ◌<◌, ◌≤◌}
use mathlib.Core.Path.{◌≡◌, refl, sym, ◌∙◌}
use mathlib.Core.List.{List}
use native.Mathlib.Omega.{arith}
use lib.ListN.{length}
use Rattle.moves.specs.declared.Plan.{Plan}
use Rattle.compact.specs.declared.Compact.{Compact}
use Rattle.compact.specs.declared.Event.{Event}
use Rattle.compact.specs.declared.Pause.{Pause}
use Rattle.compact.specs.declared.Pause.TheVariants.{Limit}
use Rattle.compact.specs.declared.Progress.{Progress}
use Rattle.compact.specs.declared.Progress.TheVariants.{Go, Value, Halt, Free, Paused}
use Rattle.compact.specs.Compact.{full, Transits}
use Rattle.strides.specs.Strides.{Starts, Strides, Awaits, Passes, made, pauses}
use Rattle.machine.specs.declared.Reached.{Reached}
use Rattle.machine.specs.declared.Moved.{Moved}
use Rattle.machine.specs.Loop.{Stays, Final, Onward, Resolved, as_before, at_limit, Moves, frees, stops}
use Rattle.machine.proofs.Running.{Running, to_go, running_far}
use Rattle.machine.proofs.Tracking.{Tracking, tracking_far, free_next}

-- no stride is a pause, or a free move
pub never_paused : {w ws ls : List ℕ} {plan : Plan} {g : Compact} {ws' ls' : List ℕ} {r : Progress} → Strides w ws ls plan g ws' ls' r → (p : Pause) → r ≡ Paused p → ⊥
unfolding Transits
never_paused st p e = rw e at st.transits

never_free : {w ws ls : List ℕ} {plan : Plan} {g : Compact} {ws' ls' : List ℕ} {r : Progress} → Strides w ws ls plan g ws' ls' r → (next : Compact) (event : Event) → r ≡ Free next event → ⊥
unfolding Transits
never_free st next event e = rw e at st.transits

-- so that one that goes no further ends the run
pub final : {w ws ls : List ℕ} {plan : Plan} {g : Compact} {ws' ls' : List ℕ} (r : Progress) → Strides w ws ls plan g ws' ls' r → Stays r → Final r
final (Value v) st stays = tt
final (Halt h) st stays = tt
final (Go next) st stays = stays next refl
final (Free next event) st stays = never_free st next event refl
final (Paused p) st stays = never_paused st p refl

module _ {w ws ls : List ℕ} {plan : Plan} {g : Compact} {ws' ls' : List ℕ} {r : Progress} where
  pub paused_is : Passes w ws ls plan g ws' ls' r → (p : Pause) → r ≡ Paused p → (ws' ≡ ws) × (ls' ≡ ls) × Awaits w ws ls plan g p
  paused_is (made st) p e = absurd (never_paused st p e)
  paused_is (pauses q f a b awaits) p e = let same : q ≡ p = cc in (a, b, rw same at awaits)

  pub made_is : Passes w ws ls plan g ws' ls' r → ((p : Pause) → r ≡ Paused p → ⊥) → Strides w ws ls plan g ws' ls' r
  made_is (made st) not = st
  made_is (pauses q f a b awaits) not = absurd (not q f)

  pub goes_is : Passes w ws ls plan g ws' ls' r → (next : Compact) → r ≡ Go next → Strides w ws ls plan g ws' ls' (Go next)
  goes_is (made st) next e = rw e at st
  goes_is (pauses q f a b awaits) next e = let no : ◌≡◌ {A = ℕ} 0 1 = cc in absurd (omega arith)

-- STRIDES, AND WHAT COMES AT THE LIMIT
module _ {w ws ls : List ℕ} {plan : Plan} {from : Compact} {ws' ls' : List ℕ} {r : Reached} (o : Onward w ws ls plan from ws' ls' r) where
  pub limit_awaits : r.step ≡ Paused Limit → Starts w ws' ls' plan r.registers × (r.registers.limit ≤ r.registers.transitions)
  unfolding Awaits
  limit_awaits e = let x = paused_is o.last Limit e in (rw (x.0, x.1) o.starts, x.2)

  module _ {q : Progress} (v : Resolved w ws' ls' plan r.registers r.step q) where
    resolved_last : Passes w o.words o.locals plan r.registers ws' ls' q × (q ≡ Paused Limit → ⊥) × Stays q
    resolved_last = on v
      where
        on : Resolved w ws' ls' plan r.registers r.step q → Passes w o.words o.locals plan r.registers ws' ls' q × (q ≡ Paused Limit → ⊥) × Stays q
        on (as_before e not) = (rw e o.last, λ f. not (sym e ∙ f), λ next f. o.stays next (sym e ∙ f))
        on (at_limit e ends) = let x = paused_is o.last Limit e in (rw (← x.0, ← x.1) ends.passes, ends.resolved, ends.stays)

    module _ {arguments : List ℕ} {size : ℕ} {lent : List ℕ} {n : ℕ} (i : Running w arguments size plan ws ls from) (t : Tracking w arguments size plan ws ls from lent n) where
      -- a free move is awaited
      pub pause_next : (p : Pause) → q ≡ Paused p
          → Running w arguments size plan ws' ls' r.registers × Tracking w arguments size plan ws' ls' r.registers lent n
          × (to_go w size plan ws' ls' (full r.registers) ≤ to_go w size plan ws ls (full from)) × Awaits w ws' ls' plan r.registers p × (p ≡ Limit → ⊥)
      pause_next p e =
          let y = running_far i o.far in
          let x = paused_is resolved_last.0 p e in
          (rw (x.0, x.1) y.0, rw (x.0, x.1) (tracking_far i t o.far), rw (x.0, x.1) y.1, rw (x.0, x.1) x.2, λ f. resolved_last.1 (rw f at e))

      -- the run ends
      pub end_next : ((p : Pause) → q ≡ Paused p → ⊥)
          → Running w arguments size plan o.words o.locals r.registers × Tracking w arguments size plan o.words o.locals r.registers lent n
          × Strides w o.words o.locals plan r.registers ws' ls' q × Stays q
      end_next not = ((running_far i o.far).0, tracking_far i t o.far, made_is resolved_last.0 not, resolved_last.2)

-- A FREE MOVE
module _ {w ws ls lent : List ℕ} {plan : Plan} {g : Compact} {n : ℕ} {event : Event} {ws' ls' lent' : List ℕ} {r : Moved} where
  pub free_done : {arguments : List ℕ} {size : ℕ} → Running w arguments size plan ws ls g → Tracking w arguments size plan ws ls g lent n → Moves w ws ls lent plan g n event ws' ls' lent' r
      → length ws' ≡ length ws → (next : Compact) (ev : Event) → r.step ≡ Free next ev
      → Running w arguments size plan ws' ls' next × (to_go w size plan ws' ls' (full next) < to_go w size plan ws ls (full g)) × Tracking w arguments size plan ws' ls' next lent' r.words
  free_done i t (frees ws₁ x f) long next ev e =
      let also : Free f.next event ≡ Free next ev = sym f.is ∙ e in
      let same : f.next ≡ next = cc in
      rw same at (free_next i t x f long)
  free_done i t (stops a b st stays) long next ev e = absurd (never_free st next ev e)

  pub free_ends : {arguments : List ℕ} {size : ℕ} → Tracking w arguments size plan ws ls g lent n → Moves w ws ls lent plan g n event ws' ls' lent' r
      → ((next : Compact) (ev : Event) → r.step ≡ Free next ev → ⊥)
      → Tracking w arguments size plan ws ls g lent' r.words × Strides w ws ls plan g ws' ls' r.step × Stays r.step
  free_ends t (frees ws₁ x f) not = absurd (not f.next event f.is)
  free_ends t (stops a b st stays) not = (rw (a, b) t, st, stays)
