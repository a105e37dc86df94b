-- What code writes keeps `Tracks`, move by move.
--     tracks_start               at the start
--     tracks_steps               transitions write nothing
--     tracks_promotion, -birth   a fork that is promoted, now or at its birth
--     tracks_turn, tracks_join   the left's arrival and the join
--     tracks_value               at the value the words are the graph's
use Prim.Native.Nat.{ℕ, zero, suc, ◌+◌, ◌*◌, ◌-◌, ◌≤◌, ◌<◌}
use mathlib.Core.Path.{◌≡◌, refl, ap, sym, ◌∙◌, subst}
use mathlib.Core.Bool.{Bool, true, false, cond, true≢false}
use mathlib.Core.List.{List, [], ◌∷◌, ◌++◌, append_assoc, append-nil}
use native.Mathlib.Omega.{arith}
use lib.ListN.{length, take, set, length-append, length-set}
use Rattle.schedule.specs.Graph.{Graph, empty, fork}
use Rattle.schedule.specs.Algebra.{graphs}
use Rattle.schedule.specs.FrameMachine.{FrameMachine}
use Rattle.schedule.specs.Machine.{Slot, ordinary, plain_left, plain_right, promoted_left, promoted_right, promotable, promote, RunCounts, zeros, State, ongoing}
use Rattle.schedule.specs.Runs.{run}
use Rattle.schedule.specs.Bounds.{step_by}
use Rattle.schedule.proofs.Moves.{Move, goes_on, opens, closes, keeps_frame, forks, turns, joins, forks_freely, turns_freely, joins_freely}
use Rattle.graph.specs.Words.{stretch, head, fork_words, pending, parts, written}
use Rattle.graph.specs.Writing.{opened, buffer, Placed, Holds, count_ended, stretched, lent_ended, lent_forked, lent_filled, Tracks, TracksState}
use Rattle.graph.proofs.Runs.{made, StepBy, promoting, moving, step_by_view, first_step, no_steps, risen_at_most, risen_first}
use Rattle.graph.proofs.Holding.{holds_set, holds_all, holds_within, length_within, counted_end, counted_few, holds_end, length_end, holds_head, left_filled, right_filled}

module _ {Frame Fork : Type 0} where
  -- The stretch ended: the running machine's words are whole.
  whole : (S : List (Slot Graph Frame Fork)) (g : Graph) → buffer S g ++ stretch (pending g) ≡ opened S ++ written g
  whole S g = append_assoc (opened S) (parts g) (stretch (pending g))

  -- At the start of a branch the buffer is what the open forks have written.
  fresh : (S : List (Slot Graph Frame Fork)) → buffer S empty ≡ opened S
  unfolding parts
  fresh S = append-nil (opened S)

  -- PLACES depend on the frames below alone.
  placed_below : (p r p' r' : ℕ → ℕ) (S : List (Slot Graph Frame Fork)) → ((j : ℕ) → j < length S → p' j ≡ p j) → ((j : ℕ) → j < length S → r' j ≡ r j)
      → Placed p r S → Placed p' r' S
  unfolding Placed
  placed_below p r p' r' [] a b i = tt
  placed_below p r p' r' (ordinary f ∷ S) a b i = placed_below p r p' r' S (λ j h. a j (omega arith)) (λ j h. b j (omega arith)) i
  placed_below p r p' r' (plain_left x ∷ S) a b i = placed_below p r p' r' S (λ j h. a j (omega arith)) (λ j h. b j (omega arith)) i
  placed_below p r p' r' (plain_right x v ∷ S) a b i = placed_below p r p' r' S (λ j h. a j (omega arith)) (λ j h. b j (omega arith)) i
  placed_below p r p' r' (promoted_left h x ∷ S) a b i =
      (a (length S) (omega arith) ∙ i.0, placed_below p r p' r' S (λ j h. a j (omega arith)) (λ j h. b j (omega arith)) i.1)
  placed_below p r p' r' (promoted_right h l x v ∷ S) a b i =
      (a (length S) (omega arith) ∙ i.0, b (length S) (omega arith) ∙ i.1, placed_below p r p' r' S (λ j h. a j (omega arith)) (λ j h. b j (omega arith)) i.2)

  -- THE FRAME THAT IS PROMOTED, by its number from the bottom.
  unfoldable pub oldest_in : {Cost : Type 0} → List (Slot Cost Frame Fork) → ℕ
  oldest_in [] = 0
  oldest_in (ordinary f ∷ S) = oldest_in S
  oldest_in (plain_left b ∷ S) = cond (promotable S) (oldest_in S) (length S)
  oldest_in (plain_right b v ∷ S) = oldest_in S
  oldest_in (promoted_left h b ∷ S) = 0
  oldest_in (promoted_right h l b v ∷ S) = 0

  opened_promote : (g : Graph) (S : List (Slot Graph Frame Fork)) → promotable S ≡ true
      → opened (promote g S) ≡ (opened S ++ written g) ++ head 0 0
  unfolding opened promote promotable
  opened_promote g [] e = absurd (true≢false (sym e))
  opened_promote g (ordinary f ∷ S) e = opened_promote g S e
  opened_promote g (plain_left b ∷ S) e = on (promotable S) refl (opened_promote g S)
    where
      on : (q : Bool) → promotable S ≡ q → (promotable S ≡ true → opened (promote g S) ≡ (opened S ++ written g) ++ head 0 0)
          → opened (cond q (plain_left b ∷ promote g S) (promoted_left g b ∷ S)) ≡ (opened S ++ written g) ++ head 0 0
      on true h below = below h
      on false h below = refl
  opened_promote g (plain_right b v ∷ S) e = opened_promote g S e
  opened_promote g (promoted_left h b ∷ S) e = absurd (true≢false (sym e))
  opened_promote g (promoted_right h l b v ∷ S) e = absurd (true≢false (sym e))

  placed_promote : (p r p' : ℕ → ℕ) (g : Graph) (S : List (Slot Graph Frame Fork)) → promotable S ≡ true
      → p' (oldest_in S) ≡ length (opened S ++ written g) → ((j : ℕ) → (j ≡ oldest_in S → ⊥) → p' j ≡ p j)
      → Placed p r S → Placed p' r (promote g S)
  unfolding Placed opened promote promotable oldest_in
  placed_promote p r p' g [] e at other i = absurd (true≢false (sym e))
  placed_promote p r p' g (ordinary f ∷ S) e at other i = placed_promote p r p' g S e at other i
  placed_promote p r p' g (plain_left b ∷ S) e at other i = on (promotable S) refl (placed_promote p r p' g S) at other
    where
      on : (q : Bool) → promotable S ≡ q
          → (promotable S ≡ true → p' (oldest_in S) ≡ length (opened S ++ written g) → ((j : ℕ) → (j ≡ oldest_in S → ⊥) → p' j ≡ p j) → Placed p r S → Placed p' r (promote g S))
          → p' (cond q (oldest_in S) (length S)) ≡ length (opened S ++ written g) → ((j : ℕ) → (j ≡ cond q (oldest_in S) (length S) → ⊥) → p' j ≡ p j)
          → Placed p' r (cond q (plain_left b ∷ promote g S) (promoted_left g b ∷ S))
      on true h below at other = below h at other i
      on false h below at other = (at, placed_below p r p' r S (λ j l. other j (λ z. omega arith)) (λ j l. refl) i)
  placed_promote p r p' g (plain_right b v ∷ S) e at other i = placed_promote p r p' g S e at other i
  placed_promote p r p' g (promoted_left h b ∷ S) e at other i = absurd (true≢false (sym e))
  placed_promote p r p' g (promoted_right h l b v ∷ S) e at other i = absurd (true≢false (sym e))

  module _ {lent : List ℕ} {n k : ℕ} {p r : ℕ → ℕ} {S : List (Slot Graph Frame Fork)} {g : Graph} {t : RunCounts} (i : Tracks lent n p r S k g t) where
    -- The stretch ends: the count and the buffer.
    pub count_is : count_ended n k ≡ length (opened S ++ written g)
    count_is = rw (i.counted, i.pends) (counted_end (buffer S g) (pending g) ∙ ap length (whole S g))

    stretch_holds : Holds (stretched lent n k) (opened S ++ written g)
    stretch_holds = rw (i.counted, i.pends) (subst (λ (x : List ℕ). Holds (stretched lent (length (buffer S g)) (pending g)) x) (whole S g) (holds_end lent (buffer S g) (pending g) i.holds))

    -- A length filled in.
    filled_holds : (B : List ℕ) → B ≡ opened S ++ written g → (at from : ℕ) → Holds (lent_filled lent n k at from) (set B at (length B - from))
    filled_holds B is at from =
        let c : count_ended n k ≡ length B = count_is ∙ ap length (sym is) in
        holds_within (count_ended n k) lent (set (stretched lent n k) at (count_ended n k - from)) (set B at (length B - from)) (c ∙ sym (length-set B at (length B - from)))
        (subst (λ (j : ℕ). Holds (set (stretched lent n k) at (j - from)) (set B at (length B - from))) (sym c)
        (holds_set (stretched lent n k) B at (length B - from) (rw is stretch_holds)))

    -- Other frames may keep other places.
    pub tracks_places : (p' r' : ℕ → ℕ) → ((j : ℕ) → j < length S → p' j ≡ p j) → ((j : ℕ) → j < length S → r' j ≡ r j) → Tracks lent n p' r' S k g t
    tracks_places p' r' a b = record { counted = i.counted; pends = i.pends; placed = placed_below p r p' r' S a b i.placed; holds = i.holds; few = i.few }

    -- A FORK: three words, at the end.
    forked : (p' : ℕ → ℕ) (S' : List (Slot Graph Frame Fork)) (t' : RunCounts) → opened S' ≡ (opened S ++ written g) ++ head 0 0 → Placed p' r S'
        → 2 * t.transitions + 3 * (t.forks + 1) ≤ 2 * t'.transitions + 3 * t'.forks
        → Tracks (lent_forked lent n k) (count_ended n k + 3) p' r S' 0 empty t'
    unfolding pending
    forked p' S' t' e q more =
        let B : List ℕ = opened S ++ written g in
        let c : count_ended n k ≡ length B = count_is in
        record {
          counted = omega (arith, c, length-append B (head 0 0), ap length e, ap length (fresh S'));
          pends = refl;
          placed = q;
          holds = rw (fresh S', e) (holds_within (count_ended n k + 3) lent (set (set (set (stretched lent n k) (count_ended n k) 1) (count_ended n k + 1) 0) (count_ended n k + 2) 0) (B ++ head 0 0)
              (omega (arith, c, length-append B (head 0 0)))
              (subst (λ (m : ℕ). Holds (set (set (set (stretched lent n k) m 1) (m + 1) 0) (m + 2) 0) (B ++ head 0 0)) (sym c) (holds_head (stretched lent n k) B stretch_holds)));
          few = omega (arith, counted_few n k, i.few);
        }

    pub tracks_promotion : (p' : ℕ → ℕ) → promotable S ≡ true → p' (oldest_in S) ≡ count_ended n k → ((j : ℕ) → (j ≡ oldest_in S → ⊥) → p' j ≡ p j)
        → (t' : RunCounts) → 2 * t.transitions + 3 * (t.forks + 1) ≤ 2 * t'.transitions + 3 * t'.forks
        → Tracks (lent_forked lent n k) (count_ended n k + 3) p' r (promote g S) 0 empty t'
    tracks_promotion p' able at other t' more =
        forked p' (promote g S) t' (opened_promote g S able) (placed_promote p r p' g S able (at ∙ count_is) other i.placed) more

    pub tracks_birth : (p' : ℕ → ℕ) (b : Fork) → p' (length S) ≡ count_ended n k → ((j : ℕ) → (j ≡ length S → ⊥) → p' j ≡ p j)
        → (t' : RunCounts) → 2 * t.transitions + 3 * (t.forks + 1) ≤ 2 * t'.transitions + 3 * t'.forks
        → Tracks (lent_forked lent n k) (count_ended n k + 3) p' r (promoted_left g b ∷ S) 0 empty t'
    unfolding opened Placed
    tracks_birth p' b at other t' more =
        forked p' (promoted_left g b ∷ S) t' refl (at ∙ count_is, placed_below p r p' r S (λ j l. other j (λ z. omega arith)) (λ j l. refl) i.placed) more

  -- THE LEFT'S ARRIVAL at a frame: the left length is written, and the frame keeps where the right graph begins.
  module _ {lent : List ℕ} {n k : ℕ} {p r : ℕ → ℕ} {S : List (Slot Graph Frame Fork)} {h g : Graph} {b : Fork} {t : RunCounts}
      (i : Tracks lent n p r (promoted_left h b ∷ S) k g t) where
    abbrev before : List ℕ
    before = opened S ++ written h

    pub turn_within : p (length S) + 3 ≤ count_ended n k
    unfolding Placed opened
    turn_within = omega (arith, i.placed.0, count_is i, length-append (before ++ head 0 0) (written g), length-append before (head 0 0))

    pub tracks_turn : (r' : ℕ → ℕ) (v : ℕ) → r' (length S) ≡ count_ended n k → ((j : ℕ) → (j ≡ length S → ⊥) → r' j ≡ r j)
        → Tracks (lent_filled lent n k (p (length S) + 1) (p (length S) + 3)) (count_ended n k) p r' (promoted_right h g b v ∷ S) 0 empty t
    unfolding Placed opened pending
    tracks_turn r' v at other =
        let B : List ℕ = (before ++ head 0 0) ++ written g in
        let c : count_ended n k ≡ length B = count_is i in
        let here : p (length S) ≡ length before = i.placed.0 in
        let long : length B ≡ length before + 3 + length (written g) = simp length-append (omega arith) in
        let filled = left_filled before (written g) (p (length S)) here in
        let e : buffer (promoted_right h g b v ∷ S) empty ≡ set B (p (length S) + 1) (length B - (p (length S) + 3)) = fresh (promoted_right h g b v ∷ S) ∙ sym filled in
        record {
          counted = c ∙ sym (length-set B (p (length S) + 1) (length B - (p (length S) + 3))) ∙ sym (ap length e);
          pends = refl;
          placed = (here, at ∙ c ∙ long, placed_below p r p r' S (λ j l. refl) (λ j l. other j (λ z. omega arith)) i.placed.1);
          holds = rw e (filled_holds i B refl (p (length S) + 1) (p (length S) + 3));
          few = omega (arith, counted_few n k, i.few);
        }

  -- THE JOIN: the right length is written.
  module _ {lent : List ℕ} {n k : ℕ} {p r : ℕ → ℕ} {S : List (Slot Graph Frame Fork)} {h l g : Graph} {b : Fork} {v : ℕ} {t : RunCounts}
      (i : Tracks lent n p r (promoted_right h l b v ∷ S) k g t) where
    abbrev base : List ℕ
    base = opened S ++ written h

    abbrev L : List ℕ
    L = head (length (written l)) 0 ++ written l

    pub join_within : (p (length S) + 3 ≤ r (length S)) × (r (length S) ≤ count_ended n k)
    unfolding Placed opened
    join_within = omega (arith, i.placed.0, i.placed.1, count_is i, length-append (base ++ L) (written g), length-append base L)

    pub tracks_join : Tracks (lent_filled lent n k (p (length S) + 2) (r (length S))) (count_ended n k) p r S 0 (fork h l g) t
    unfolding Placed opened pending parts fork_words
    tracks_join =
        let B : List ℕ = (base ++ L) ++ written g in
        let c : count_ended n k ≡ length B = count_is i in
        let here : p (length S) ≡ length base = i.placed.0 in
        let there : r (length S) ≡ p (length S) + 3 + length (written l) = omega (arith, i.placed) in
        let filled = right_filled base (written l) (written g) (length (written l)) (p (length S)) (r (length S)) here there in
        let e : buffer S (fork h l g) ≡ set B (p (length S) + 2) (length B - r (length S)) =
        sym (filled ∙ append_assoc (opened S) (written h) (fork_words (written l) (written g))) in
        record {
          counted = c ∙ sym (length-set B (p (length S) + 2) (length B - r (length S))) ∙ sym (ap length e);
          pends = refl;
          placed = i.placed.2;
          holds = rw e (filled_holds i B refl (p (length S) + 2) (r (length S)));
          few = omega (arith, counted_few n k, i.few);
        }

  -- THE START: nothing counted, nothing pending, whatever the buffer has.
  pub tracks_start : (lent : List ℕ) (p r : ℕ → ℕ) → Tracks {Frame = Frame} {Fork = Fork} lent 0 p r [] 0 empty zeros
  unfolding opened parts pending Placed
  tracks_start lent p r = record { counted = refl; pends = refl; placed = tt; holds = λ j h l. absurd (omega arith); few = omega arith }

  -- THE VALUE: the last stretch is written, the count is the graph's number of words, and where they fit the buffer begins with them.
  pub tracks_value : {lent : List ℕ} {n k : ℕ} {p r : ℕ → ℕ} {g : Graph} {t : RunCounts} → Tracks {Frame = Frame} {Fork = Fork} lent n p r [] k g t
      → (count_ended n k ≡ length (written g)) × (count_ended n k ≤ length lent → take (count_ended n k) (lent_ended lent n k) ≡ written g)
  unfolding opened lent_ended
  tracks_value {lent} {n} {k} {g = g} i =
      let c : count_ended n k ≡ length (written g) = count_is i in (
        c,
        λ fits. subst (λ (j : ℕ). take j (lent_ended lent n k) ≡ written g) (sym c)
            (holds_all (lent_ended lent n k) (written g) (holds_within (count_ended n k) lent (stretched lent n k) (written g) c (stretch_holds i))
            (omega (arith, length_within (count_ended n k) lent (stretched lent n k) (length_end lent n k)))),
      )

-- A TRANSITION writes nothing, whatever ordinary or plain frame it opens or closes.
module _ (M : FrameMachine) (fuel frames : ℕ) (lent : List ℕ) (n : ℕ) (p r : ℕ → ℕ) where
  tracks_move : {born : Bool} {s u : State graphs M} → Move graphs M fuel frames born s u → made graphs M s < made graphs M u
      → TracksState M lent n p r s → TracksState M lent n p r u
  unfolding TracksState made opened parts pending Placed
  tracks_move (goes_on e l) m i = record { counted = i.counted; pends = rw i.pends; placed = i.placed; holds = i.holds; few = omega (arith, i.few) }
  tracks_move (opens e l x) m i = record { counted = i.counted; pends = rw i.pends; placed = i.placed; holds = i.holds; few = omega (arith, i.few) }
  tracks_move (closes e l) m i = record { counted = i.counted; pends = rw i.pends; placed = i.placed; holds = i.holds; few = omega (arith, i.few) }
  tracks_move (keeps_frame e l) m i = record { counted = i.counted; pends = rw i.pends; placed = i.placed; holds = i.holds; few = omega (arith, i.few) }
  tracks_move (forks e l x) m i = record { counted = i.counted; pends = rw i.pends; placed = i.placed; holds = i.holds; few = omega (arith, i.few) }
  tracks_move (turns l) m i = record { counted = i.counted; pends = rw i.pends; placed = i.placed; holds = i.holds; few = omega (arith, i.few) }
  tracks_move (joins l) m i = record { counted = i.counted; pends = rw i.pends; placed = i.placed; holds = i.holds; few = omega (arith, i.few) }
  tracks_move (forks_freely e x) m i = absurd (omega arith)
  tracks_move turns_freely m i = absurd (omega arith)
  tracks_move joins_freely m i = absurd (omega arith)

  module _ (born : Bool) (N : ℕ) where
    tracks_step : {s u : State graphs M} → StepBy graphs M fuel frames born N s u → made graphs M s < made graphs M u
        → TracksState M lent n p r s → TracksState M lent n p r u
    unfolding made
    tracks_step (promoting h) m i = absurd (omega arith)
    tracks_step (moving h mv) m i = tracks_move mv m i

    -- Several steps, each of which is a transition.
    pub tracks_steps : (k : ℕ) (s u : State graphs M) → run (step_by graphs M fuel frames born N) k s ≡ ongoing u
        → made graphs M u ≡ made graphs M s + k → TracksState M lent n p r s → TracksState M lent n p r u
    tracks_steps zero s u e m i = subst (TracksState M lent n p r) (no_steps graphs M fuel frames born N s u e) i
    tracks_steps (suc k) s u e m i =
        let x = first_step graphs M fuel frames born N k s u e in
        let one : made graphs M x.0 ≡ made graphs M s + 1
        = omega (arith, risen_first graphs M fuel frames born N s x.0 x.1, risen_at_most graphs M fuel frames born N k x.0 u x.2) in
        tracks_steps k x.0 u x.2 (omega arith) (tracks_step (step_by_view graphs M fuel frames born N s x.0 x.1) (omega arith) i)
