-- The stops beside the three figures are the one family of Stopping.antt at the three schedules.
use mathlib.Core.Path.{◌≡◌, refl, sym}
use mathlib.Core.List.{[], ◌∷◌, ◌++◌}
use mathlib.Core.Bool.{true, false, true≢false}
use Prim.Native.Nat.{ℕ, ◌+◌, ◌-◌, ◌≤◌, max}
use native.Mathlib.Omega.{arith}
use lib.Dec.{leb}
use lib.ListN.{length}
use borrow.Author.Tests.{leb-true, le-leb}
use Rattle.schedule.specs.FrameMachine.{Place, Control, evaluate, FrameMachine}
use Rattle.schedule.specs.Machine.{Schedule, sequential, parallel, heartbeat, promoted_at_birth, promotion_due}
use Rattle.schedule.proofs.Moves.{and_true}
use Rattle.published.specs.CostGraph.{CostGraph}
use Rattle.published.specs.Judgments.{awaiting_left, PlainStack, can_promote, Parallel, Heartbeat}
use Rattle.published.specs.Resources.{fork_frames, par_transitions, par_frames, hb_transitions, hb_frames}
use Rattle.published.specs.Stops.{SequentialStops, seq_halts, seq_stops_later, ParallelStops, par_halts, par_cannot_fork, par_stops_later, par_stops_left, par_stops_right, par_stops_body, HeartbeatStops, hb_halts, hb_stops_later, hb_stops_left, hb_stops_right, hb_stops_body}
use Rattle.published.proofs.Conversion.{Converted, not_due, due_not, of_par, to_par, of_hb, to_hb}
use Rattle.published.proofs.Stopping.{Splits, at_birth, at_promotion, Stops, by_halt, by_no_frame, after_step, in_left, in_right, in_body, at_limits}

-- A derivation of a value, with its resources.
abbrev Par : (M : FrameMachine) → Control M.Code → PlainStack M → ℕ → CostGraph → ℕ → ℕ → Type 0
Par M c S v g k p = Converted (Parallel M c S v g) (λ d. par_transitions d) (λ d. par_frames d) k p

abbrev Hb : (M : FrameMachine) → ℕ → Control M.Code → PlainStack M → ℕ → CostGraph → ℕ → ℕ → Type 0
Hb M N c S v g k p = Converted (Heartbeat M N c S 0 v g) (λ d. hb_transitions d) (λ d. hb_frames d) k p

module _ {M : FrameMachine} where
  -- As `at_limits` (Stopping.antt), of each family.
  seq_limits : {fuel fuel' frames frames' : ℕ} {c : Control M.Code} {S : PlainStack M} {i : ℕ} {p : Place} {k k' h h' : ℕ}
      → SequentialStops M fuel frames c S i p k h → fuel ≡ fuel' → frames ≡ frames' → k ≡ k' → h ≡ h'
      → SequentialStops M fuel' frames' c S i p k' h'
  seq_limits a f r e d = rw (f, r, e, d) at a

  par_limits : {fuel fuel' frames frames' : ℕ} {c : Control M.Code} {S : PlainStack M} {i : ℕ} {p : Place} {k k' h h' : ℕ}
      → ParallelStops M fuel frames c S i p k h → fuel ≡ fuel' → frames ≡ frames' → k ≡ k' → h ≡ h'
      → ParallelStops M fuel' frames' c S i p k' h'
  par_limits a f r e d = rw (f, r, e, d) at a

  hb_limits : {N fuel fuel' frames frames' : ℕ} {c : Control M.Code} {S : PlainStack M} {n i : ℕ} {p : Place} {k k' h h' : ℕ}
      → HeartbeatStops M N fuel frames c S n i p k h → fuel ≡ fuel' → frames ≡ frames' → k ≡ k' → h ≡ h'
      → HeartbeatStops M N fuel' frames' c S n i p k' h'
  hb_limits a f r e d = rw (f, r, e, d) at a

  -- And the credits.
  at_credits : {m : Schedule} {fuel frames : ℕ} {c : Control M.Code} {S : PlainStack M} {n n' i : ℕ} {p : Place} {k h : ℕ}
      → Stops M m fuel frames c S n i p k h → n ≡ n' → Stops M m fuel frames c S n' i p k h
  at_credits a e = rw e at a

  hb_credits : {N fuel frames : ℕ} {c : Control M.Code} {S : PlainStack M} {n n' i : ℕ} {p : Place} {k h : ℕ}
      → HeartbeatStops M N fuel frames c S n i p k h → n ≡ n' → HeartbeatStops M N fuel frames c S n' i p k h
  hb_credits a e = rw e at a

  pub of_seq_stop : {fuel frames : ℕ} {c : Control M.Code} {S : PlainStack M} {i : ℕ} {p : Place} {k h : ℕ} (n : ℕ)
      → SequentialStops M fuel frames c S i p k h → Stops M sequential fuel frames c S n i p k h
  unfolding promotion_due promoted_at_birth
  of_seq_stop n (seq_halts x) = by_halt refl refl x
  of_seq_stop n (seq_stops_later x l d) =
      at_limits (after_step refl refl x (of_seq_stop (n + 1) d) (omega arith)) (omega arith) (omega arith) (omega arith) (omega arith)

  no_split : {c d : Control M.Code} {S N Y : PlainStack M} {b : M.Fork} {n : ℕ} {A : Type 0} → Splits M sequential c S n d N b Y → A
  unfolding promotion_due promoted_at_birth
  no_split (at_birth q e) = absurd (true≢false (sym q))
  no_split (at_promotion s q o) = absurd (true≢false (sym q))

  pub to_seq_stop : {fuel frames : ℕ} {c : Control M.Code} {S : PlainStack M} {n i : ℕ} {p : Place} {k h : ℕ}
      → Stops M sequential fuel frames c S n i p k h → SequentialStops M fuel frames c S i p k h
  unfolding promotion_due promoted_at_birth
  to_seq_stop (by_halt q f x) = seq_halts x
  to_seq_stop (by_no_frame q e l) = absurd (true≢false (sym q))
  to_seq_stop (after_step {fuel = fuel} {frames = frames} q f x a l) =
      seq_limits (seq_stops_later {fuel = fuel} {frames = frames} x (omega arith) (to_seq_stop a)) (omega arith) (omega arith) (omega arith) (omega arith)
  to_seq_stop (in_left x a) = no_split x
  to_seq_stop (in_right x e1 a h1) = no_split x
  to_seq_stop (in_body x e1 e2 a h1 h2) = no_split x

  pub of_par_stop : {fuel frames : ℕ} {c : Control M.Code} {S : PlainStack M} {i : ℕ} {p : Place} {k h : ℕ} (n : ℕ)
      → ParallelStops M fuel frames c S i p k h → Stops M parallel fuel frames c S n i p k h
  unfolding promotion_due promoted_at_birth
  of_par_stop n (par_halts f x) = by_halt refl f x
  of_par_stop n (par_cannot_fork e l) = by_no_frame refl e l
  of_par_stop n (par_stops_later f x l d) =
      at_limits (after_step refl f x (of_par_stop (n + 1) d) (omega arith)) (omega arith) (omega arith) (omega arith) (omega arith)
  of_par_stop n (par_stops_left e d) =
      at_limits (in_left (at_birth refl e) (of_par_stop 0 d)) (omega arith) (omega arith) (omega arith) (omega arith)
  of_par_stop n (par_stops_right e d1 h1 d) =
      at_limits (in_right (at_birth refl e) (of_par 0 d1) (of_par_stop 0 d) (omega arith)) (omega arith) (omega arith) (omega arith)
      (omega arith)
  of_par_stop n (par_stops_body {S = S} e d1 h1 d2 h2 d) =
      at_limits (in_body (at_birth {S = S} refl e) (of_par 0 d1) (of_par 0 d2) (of_par_stop 0 d) (omega arith) (omega arith)) (omega arith)
      (omega arith) (omega arith) (omega arith)

  -- A fork by birth: the three ways to stop in it.
  par_left : {fuel free : ℕ} {c d : Control M.Code} {S N Y : PlainStack M} {b : M.Fork} {n i : ℕ} {p : Place} {k h : ℕ}
      → Splits M parallel c S n d N b Y → ParallelStops M fuel free d N i p k h → ParallelStops M fuel (length Y + 1 + free) c S i p k
      (length Y + 1 + h)
  unfolding promotion_due
  par_left (at_birth q e) a = par_limits (par_stops_left e a) (omega arith) (omega arith) (omega arith) (omega arith)
  par_left (at_promotion s q o) a = absurd (true≢false (sym q))

  par_right : {fuel free : ℕ} {c d : Control M.Code} {S N Y : PlainStack M} {b : M.Fork} {n u : ℕ} {g : CostGraph} {k1 p1 i : ℕ}
      {p : Place} {k h : ℕ}
      → Splits M parallel c S n d N b Y → Par M d N u g k1 p1 → ParallelStops M fuel free (evaluate (M.right b)) [] i p k h → p1 ≤ free
      → ParallelStops M (k1 + fuel) (length Y + 1 + free) c S i p (k1 + k) (length Y + 1 + max p1 h)
  unfolding promotion_due
  par_right {fuel} {free} {k = k} {h = h} (at_birth q e) r a h1 =
      par_limits
      (par_stops_right {fuel = fuel} {free = free} {k = k} {h = h} e r.derivation (omega arith)
      (par_limits a (omega arith) (omega arith) (omega arith) (omega arith)))
      (omega arith) (omega arith) (omega arith) (omega arith)
  par_right (at_promotion s q o) r a h1 = absurd (true≢false (sym q))

  par_body : {fuel frames : ℕ} {c d : Control M.Code} {S N Y : PlainStack M} {b : M.Fork} {n u w : ℕ} {g1 g2 : CostGraph}
      {k1 p1 k2 p2 i : ℕ} {p : Place} {k h : ℕ}
      → Splits M parallel c S n d N b Y → Par M d N u g1 k1 p1 → Par M (evaluate (M.right b)) [] w g2 k2 p2
      → ParallelStops M fuel frames (evaluate (M.body b u w)) Y i p k h → length Y + 1 + p1 ≤ frames → length Y + 1 + p2 ≤ frames
      → ParallelStops M (k1 + k2 + fuel) frames c S i p (k1 + k2 + k) (fork_frames (length Y) p1 p2 h)
  unfolding promotion_due
  par_body {fuel} {frames} {k = k} {h = h} (at_birth {S = S} q e) r r' a h1 h2 =
      par_limits
      (par_stops_body {fuel = fuel} {free = frames - (length S + 1)} {S = S} {k = k} {h = h} e r.derivation (omega arith) r'.derivation
      (omega arith) (par_limits a (omega arith) (omega arith) (omega arith) (omega arith)))
      (omega arith) (omega arith) (omega arith) (omega arith)
  par_body (at_promotion s q o) r r' a h1 h2 = absurd (true≢false (sym q))

  pub to_par_stop : {fuel frames : ℕ} {c : Control M.Code} {S : PlainStack M} {n i : ℕ} {p : Place} {k h : ℕ}
      → Stops M parallel fuel frames c S n i p k h → ParallelStops M fuel frames c S i p k h
  unfolding promotion_due promoted_at_birth
  to_par_stop (by_halt q f x) = par_halts f x
  to_par_stop (by_no_frame q e l) = par_cannot_fork e l
  to_par_stop (after_step {fuel = fuel} {frames = frames} q f x a l) =
      par_limits (par_stops_later {fuel = fuel} {frames = frames} f x (omega arith) (to_par_stop a)) (omega arith) (omega arith) (omega arith)
      (omega arith)
  to_par_stop (in_left x a) = par_left x (to_par_stop a)
  to_par_stop (in_right x e1 a h1) = par_right x (to_par e1) (to_par_stop a) h1
  to_par_stop (in_body x e1 e2 a h1 h2) = par_body x (to_par e1) (to_par e2) (to_par_stop a) h1 h2

  due : {c : Control M.Code} {newer : PlainStack M} (N n : ℕ) (b : M.Fork) (older : PlainStack M) → N ≤ n → can_promote older ≡ false
      → Splits M (heartbeat N) c (newer ++ (awaiting_left b ∷ older)) n c newer b older
  unfolding promotion_due
  due N n b older q o = at_promotion {n = n} refl (rw (le-leb N n q)) o

  pub of_hb_stop : {N fuel frames : ℕ} {c : Control M.Code} {S : PlainStack M} {n i : ℕ} {p : Place} {k h : ℕ}
      → HeartbeatStops M N fuel frames c S n i p k h → Stops M (heartbeat N) fuel frames c S n i p k h
  unfolding promotion_due promoted_at_birth
  of_hb_stop {N} (hb_halts {S = S} {n = n} q x) = at_credits (by_halt (not_due N n (can_promote S) (λ e. cc) q) refl x) (omega arith)
  of_hb_stop {N} (hb_stops_later {S = S} {n = n} q x l d) =
      at_limits (after_step (not_due N n (can_promote S) (λ e. cc) q) refl x (of_hb_stop d) (omega arith)) (omega arith) (omega arith)
      (omega arith) (omega arith)
  of_hb_stop {N} (hb_stops_left {n = n} b Y q o d) =
      at_limits (in_left (due N n b Y (omega arith) (cc)) (of_hb_stop d)) (omega arith) (omega arith) (omega arith) (omega arith)
  of_hb_stop {N} (hb_stops_right {n = n} b Y q o d1 h1 d) =
      at_limits (in_right (due N n b Y (omega arith) (cc)) (of_hb d1) (of_hb_stop d) (omega arith)) (omega arith) (omega arith) (omega arith)
      (omega arith)
  of_hb_stop {N} (hb_stops_body {n = n} b Y q o d1 h1 d2 h2 d) =
      at_limits (in_body (due N n b Y (omega arith) (cc)) (of_hb d1) (of_hb d2) (of_hb_stop d) (omega arith) (omega arith)) (omega arith)
      (omega arith) (omega arith) (omega arith)

  -- A promotion: the three ways to stop in it.
  hb_left : {N fuel free : ℕ} {c d : Control M.Code} {S X Y : PlainStack M} {b : M.Fork} {n i : ℕ} {p : Place} {k h : ℕ}
      → Splits M (heartbeat N) c S n d X b Y → HeartbeatStops M N fuel free d X 0 i p k h
      → HeartbeatStops M N fuel (length Y + 1 + free) c S n i p k (length Y + 1 + h)
  unfolding promotion_due promoted_at_birth
  hb_left (at_birth q h) a = absurd (true≢false (sym q))
  hb_left {N} (at_promotion {b = b} {older = Y} {n = n} s q o) a =
      let l = leb-true N n (and_true (leb N n) true q).0 in
      rw s (hb_limits (hb_stops_left {n = n} b Y (omega arith) (cc) a) (omega arith) (omega arith) (omega arith) (omega arith))

  hb_right : {N fuel free : ℕ} {c d : Control M.Code} {S X Y : PlainStack M} {b : M.Fork} {n u : ℕ} {g : CostGraph} {k1 p1 i : ℕ}
      {p : Place} {k h : ℕ}
      → Splits M (heartbeat N) c S n d X b Y → Hb M N d X u g k1 p1 → HeartbeatStops M N fuel free (evaluate (M.right b)) [] 0 i p k h
      → p1 ≤ free → HeartbeatStops M N (k1 + fuel) (length Y + 1 + free) c S n i p (k1 + k) (length Y + 1 + max p1 h)
  unfolding promotion_due promoted_at_birth
  hb_right (at_birth q h) r a h1 = absurd (true≢false (sym q))
  hb_right {N} {fuel} {free} {k = k} {h = h} (at_promotion {b = b} {older = Y} {n = n} s q o) r a h1 =
      let l = leb-true N n (and_true (leb N n) true q).0 in
      rw s (hb_limits
      (hb_stops_right {fuel = fuel} {free = free} {n = n} {k = k} {h = h} b Y (omega arith) (cc) r.derivation (omega arith)
      (hb_limits a (omega arith) (omega arith) (omega arith) (omega arith)))
      (omega arith) (omega arith) (omega arith) (omega arith))

  hb_body : {N fuel frames : ℕ} {c d : Control M.Code} {S X Y : PlainStack M} {b : M.Fork} {n u w : ℕ} {g1 g2 : CostGraph}
      {k1 p1 k2 p2 i : ℕ} {p : Place} {k h : ℕ}
      → Splits M (heartbeat N) c S n d X b Y → Hb M N d X u g1 k1 p1 → Hb M N (evaluate (M.right b)) [] w g2 k2 p2
      → HeartbeatStops M N fuel frames (evaluate (M.body b u w)) Y 0 i p k h → length Y + 1 + p1 ≤ frames → length Y + 1 + p2 ≤ frames
      → HeartbeatStops M N (k1 + k2 + fuel) frames c S n i p (k1 + k2 + k) (fork_frames (length Y) p1 p2 h)
  unfolding promotion_due promoted_at_birth
  hb_body (at_birth q h) r r' a h1 h2 = absurd (true≢false (sym q))
  hb_body {N} {fuel} {frames} {k = k} {h = h} (at_promotion {b = b} {older = Y} {n = n} s q o) r r' a h1 h2 =
      let l = leb-true N n (and_true (leb N n) true q).0 in
      rw s (hb_limits
      (hb_stops_body {fuel = fuel} {free = frames - (length Y + 1)} {n = n} {k = k} {h = h} b Y (omega arith) (cc) r.derivation
      (omega arith) r'.derivation (omega arith) (hb_limits a (omega arith) (omega arith) (omega arith) (omega arith)))
      (omega arith) (omega arith) (omega arith) (omega arith))

  pub to_hb_stop : {N fuel frames : ℕ} {c : Control M.Code} {S : PlainStack M} {n i : ℕ} {p : Place} {k h : ℕ}
      → Stops M (heartbeat N) fuel frames c S n i p k h → HeartbeatStops M N fuel frames c S n i p k h
  unfolding promotion_due promoted_at_birth
  to_hb_stop {N} (by_halt {S = S} {n = n} q f x) =
      hb_credits (hb_halts {S = S} {n = n} (due_not N n (can_promote S) (λ e. cc) q) x) (omega arith)
  to_hb_stop (by_no_frame q e l) = absurd (true≢false (sym q))
  to_hb_stop {N} (after_step {fuel = fuel} {frames = frames} {S = S} {n = n} q f x a l) =
      hb_limits
      (hb_stops_later {fuel = fuel} {frames = frames} {S = S} (due_not N n (can_promote S) (λ e. cc) q) x (omega arith) (to_hb_stop a))
      (omega arith) (omega arith) (omega arith) (omega arith)
  to_hb_stop (in_left x a) = hb_left x (to_hb_stop a)
  to_hb_stop (in_right x e1 a h1) = hb_right x (to_hb e1) (to_hb_stop a) h1
  to_hb_stop (in_body x e1 e2 a h1 h2) = hb_body x (to_hb e1) (to_hb e2) (to_hb_stop a) h1 h2
