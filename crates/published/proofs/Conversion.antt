-- The three judgments are the one family of Schedules.antt at the three schedules, with the resources of their derivations.
use mathlib.Core.Path.{◌≡◌, refl, ap, sym}
use mathlib.Core.List.{[], ◌∷◌, ◌++◌}
use mathlib.Core.Bool.{Bool, true, false, true≢false, ◌&&◌}
use mathlib.Core.Logic.{◌⊎◌, inl, inr}
use Prim.Native.Nat.{ℕ, ◌+◌, ◌≤◌, ◌<◌, max}
use native.Mathlib.Omega.{arith}
use lib.Dec.{leb}
use lib.ListN.{length}
use borrow.Author.Tests.{leb-true, leb-false, le-leb, lt-leb}
use Rattle.schedule.specs.FrameMachine.{Control, evaluate, FrameMachine}
use Rattle.schedule.specs.Machine.{Schedule, sequential, parallel, heartbeat, promoted_at_birth, promotion_due}
use Rattle.schedule.proofs.Moves.{and_true}
use Rattle.published.specs.CostGraph.{CostGraph, ◌·◌, ◌∥◌}
use Rattle.published.specs.Judgments.{awaiting_left, PlainStack, can_promote, Sequential, seq_value, seq_step, Parallel, par_value, par_step, par_fork, Heartbeat, hb_value, hb_step, hb_promote}
use Rattle.published.specs.Resources.{fork_frames, seq_transitions, seq_frames, par_transitions, par_frames, hb_transitions, hb_frames}
use Rattle.published.proofs.Schedules.{Eval, by_value, by_step, by_fork, by_promotion}

-- A derivation with these resources.
pub record Converted (D : Type 0) (made held : D → ℕ) (k p : ℕ) : Type 0 where
  pub derivation : D
  pub transitions : made derivation ≡ k
  pub frames : held derivation ≡ p

-- A derivation with credits, a graph and resources that are equal, in whatever way a rule writes them.
recounted : {M : FrameMachine} {m : Schedule} {c : Control M.Code} {S : PlainStack M} {n n' v : ℕ} {g g' : CostGraph} {k k' p p' : ℕ}
    → Eval M m c S n v g k p → n ≡ n' → g ≡ g' → k ≡ k' → p ≡ p' → Eval M m c S n' v g' k' p'
recounted e en eg ek ep = rw (en, eg, ek, ep) at e

-- HBSTEP's premise is that no promotion is due.
pub not_due : {A : Type 0} (N n : ℕ) (able : Bool) → (A → able ≡ false) → (n < N) ⊎ A → leb N n && able ≡ false
not_due N n able none (inl h) = rw (lt-leb N n h)
not_due N n able none (inr h) = rw (none h) (on (leb N n))
  where
    on : (q : Bool) → q && false ≡ false
    on true = refl
    on false = refl

pub due_not : {A : Type 0} (N n : ℕ) (able : Bool) → (able ≡ false → A) → leb N n && able ≡ false → (n < N) ⊎ A
due_not {A} N n able none e = on (leb N n) refl e
  where
    on : (q : Bool) → leb N n ≡ q → q && able ≡ false → (n < N) ⊎ A
    on true h e = inr (none e)
    on false h e = inl (leb-false N n h)

module _ {M : FrameMachine} where
  pub of_seq : {c : Control M.Code} {S : PlainStack M} {v : ℕ} {g : CostGraph} (n : ℕ) (d : Sequential M c S v g)
      → Eval M sequential c S n v g (seq_transitions d) (seq_frames d)
  unfolding promotion_due promoted_at_birth seq_transitions seq_frames
  of_seq n seq_value = by_value
  of_seq n (seq_step x d) = by_step refl refl x (of_seq (n + 1) d)

  pub to_seq : {c : Control M.Code} {S : PlainStack M} {n v : ℕ} {g : CostGraph} {k p : ℕ} → Eval M sequential c S n v g k p
      → Converted (Sequential M c S v g) (λ d. seq_transitions d) (λ d. seq_frames d) k p
  unfolding promotion_due promoted_at_birth seq_transitions seq_frames
  to_seq by_value = record { derivation = seq_value; transitions = refl; frames = refl }
  to_seq (by_step {S = S} q f x e) =
      let r = to_seq e in
      record {
        derivation = seq_step x r.derivation;
        transitions = ap (λ k. k + 1) r.transitions;
        frames = ap (max (length S)) r.frames;
      }
  to_seq (by_fork b h e1 e2 e3) = absurd (true≢false (sym b))
  to_seq (by_promotion s q o e1 e2 e3) = absurd (true≢false (sym q))

  pub of_par : {c : Control M.Code} {S : PlainStack M} {v : ℕ} {g : CostGraph} (n : ℕ) (d : Parallel M c S v g)
      → Eval M parallel c S n v g (par_transitions d) (par_frames d)
  unfolding promotion_due promoted_at_birth par_transitions par_frames
  of_par n par_value = by_value
  of_par n (par_step f x d) = by_step refl f x (of_par (n + 1) d)
  of_par n (par_fork h d1 d2 d3) =
      recounted (by_fork refl h (of_par 0 d1) (of_par 0 d2) (of_par 0 d3)) refl (cc) (omega arith) (omega arith)

  pub to_par : {c : Control M.Code} {S : PlainStack M} {n v : ℕ} {g : CostGraph} {k p : ℕ} → Eval M parallel c S n v g k p
      → Converted (Parallel M c S v g) (λ d. par_transitions d) (λ d. par_frames d) k p
  unfolding promotion_due promoted_at_birth par_transitions par_frames
  to_par by_value = record { derivation = par_value; transitions = refl; frames = refl }
  to_par (by_step {S = S} q f x e) =
      let r = to_par e in
      record {
        derivation = par_step f x r.derivation;
        transitions = ap (λ k. k + 1) r.transitions;
        frames = ap (max (length S)) r.frames;
      }
  to_par (by_fork b h e1 e2 e3) =
      let r1 = to_par e1 in
      let r2 = to_par e2 in
      let r3 = to_par e3 in
      record { derivation = par_fork h r1.derivation r2.derivation r3.derivation; transitions = omega arith; frames = omega arith }
  to_par (by_promotion s q o e1 e2 e3) = absurd (true≢false (sym q))

  pub of_hb : {N : ℕ} {c : Control M.Code} {S : PlainStack M} {n v : ℕ} {g : CostGraph} (d : Heartbeat M N c S n v g)
      → Eval M (heartbeat N) c S n v g (hb_transitions d) (hb_frames d)
  unfolding promotion_due promoted_at_birth hb_transitions hb_frames
  of_hb hb_value = by_value
  of_hb {N} (hb_step {S = S} {n = n} q x d) = by_step (not_due N n (can_promote S) (λ e. cc) q) refl x (of_hb d)
  of_hb {N} (hb_promote {older = Y} {n = n} q o d1 d2 d3) =
      recounted
      (by_promotion {older = Y} {n = n} refl (rw (le-leb N n (omega arith))) (cc) (of_hb d1) (of_hb d2)
      (recounted (of_hb d3) (omega arith) refl refl refl))
      refl (cc) (omega arith) (omega arith)

  -- As `recounted`, of the credits.
  module _ {N : ℕ} {c : Control M.Code} {S : PlainStack M} {n n' v : ℕ} {g : CostGraph} {k p : ℕ}
      (r : Converted (Heartbeat M N c S n v g) (λ d. hb_transitions d) (λ d. hb_frames d) k p) (e : n ≡ n') where
    unfoldable credited : Heartbeat M N c S n' v g
    credited = (rw e at r).derivation

    credited_transitions : hb_transitions credited ≡ k
    unfolding credited
    credited_transitions = (rw e at r).transitions

    credited_frames : hb_frames credited ≡ p
    unfolding credited
    credited_frames = (rw e at r).frames

  promoted : {N : ℕ} {c : Control M.Code} {b : M.Fork} {S newer older : PlainStack M} {n u w v : ℕ} {g1 g2 g3 : CostGraph}
      {k1 k2 k3 p1 p2 p3 : ℕ}
      → S ≡ newer ++ (awaiting_left b ∷ older) → N ≤ n → can_promote older ≡ false
      → Converted (Heartbeat M N c newer 0 u g1) (λ d. hb_transitions d) (λ d. hb_frames d) k1 p1
      → Converted (Heartbeat M N (evaluate (M.right b)) [] 0 w g2) (λ d. hb_transitions d) (λ d. hb_frames d) k2 p2
      → Converted (Heartbeat M N (evaluate (M.body b u w)) older 0 v g3) (λ d. hb_transitions d) (λ d. hb_frames d) k3 p3
      → Converted (Heartbeat M N c S n v (g1 ∥ g2 · g3)) (λ d. hb_transitions d) (λ d. hb_frames d) (k1 + k2 + k3)
      (fork_frames (length older) p1 p2 p3)
  unfolding hb_transitions hb_frames
  promoted {older = Y} {n = n} s q o r1 r2 r3 =
      rw s (record {
        derivation = hb_promote {older = Y} {n = n} (omega arith) (cc) r1.derivation r2.derivation (credited r3 (omega arith));
        transitions = simp credited_transitions (omega arith);
        frames = simp credited_frames (omega arith);
      })

  pub to_hb : {N : ℕ} {c : Control M.Code} {S : PlainStack M} {n v : ℕ} {g : CostGraph} {k p : ℕ} → Eval M (heartbeat N) c S n v g k p
      → Converted (Heartbeat M N c S n v g) (λ d. hb_transitions d) (λ d. hb_frames d) k p
  unfolding promotion_due promoted_at_birth hb_transitions hb_frames
  to_hb by_value = record { derivation = hb_value; transitions = refl; frames = refl }
  to_hb {N} (by_step {S = S} {n = n} q f x e) =
      let r = to_hb e in
      record {
        derivation = hb_step {S = S} (due_not N n (can_promote S) (λ e. cc) q) x r.derivation;
        transitions = ap (λ k. k + 1) r.transitions;
        frames = ap (max (length S)) r.frames;
      }
  to_hb (by_fork b h e1 e2 e3) = absurd (true≢false (sym b))
  to_hb {N} (by_promotion {n = n} s q o e1 e2 e3) =
      promoted s (leb-true N n (and_true (leb N n) true q).0) o (to_hb e1) (to_hb e2) (to_hb e3)
