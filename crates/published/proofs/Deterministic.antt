-- The judgments are deterministic: one value, one graph, and so one number of transitions and of frames.
use mathlib.Core.Path.{◌≡◌, refl, ap, sym, ◌∙◌}
use mathlib.Core.List.{List, [], ◌∷◌, ◌++◌}
use mathlib.Core.Bool.{true, false, true≢false, ◌&&◌}
use Prim.Native.Nat.{ℕ, ◌+◌, max}
use native.Mathlib.Omega.{arith}
use lib.ListN.{length, length-append}
use Rattle.schedule.specs.Graph.{empty, transition}
use Rattle.schedule.specs.Algebra.{graphs}
use Rattle.schedule.specs.FrameMachine.{Control, evaluate, return, open_fork, FrameMachine}
use Rattle.schedule.specs.Machine.{RunCounts, state, ongoing, Schedule, sequential, parallel, heartbeat, promoted_at_birth, promotion_due, move}
use Rattle.published.specs.CostGraph.{CostGraph, 𝟎, 𝟏, ◌·◌, ◌∥◌, work_of}
use Rattle.published.specs.Judgments.{PlainFrame, awaiting_left, PlainStack, can_promote, Transition, continue, open_ordinary, open_both, close_ordinary, keep_ordinary, turn, join, is_fork, forks_at}
use Rattle.published.specs.Resources.{fork_frames}
use Rattle.published.specs.Adequacy.{SequentialDeterministic, ParallelDeterministic, HeartbeatDeterministic}
use Rattle.published.proofs.Schedules.{Eval, by_value, by_step, by_fork, by_promotion, ◌⊕◌, own, own_over, can_promote_has, born_quiet, Ticked, ticked}
use Rattle.published.proofs.Conversion.{of_seq, of_par, of_hb}

clash : {A : Type 0} → ◌≡◌ {A = ℕ} 0 1 → A
clash e = absurd (omega arith)

-- A stack has one oldest promotable frame.
module _ {Frame Fork : Type 0} where
  inner : (N Y Y' : List (PlainFrame Frame Fork)) (b : Fork) → can_promote Y' ≡ false → Y' ≡ N ++ (awaiting_left b ∷ Y) → ⊥
  inner N Y Y' b h e = true≢false (sym (can_promote_has N Y b) ∙ ap can_promote (sym e) ∙ h)

  one_cut : (N N' Y Y' : List (PlainFrame Frame Fork)) (b b' : Fork) → can_promote Y ≡ false → can_promote Y' ≡ false
      → N ++ (awaiting_left b ∷ Y) ≡ N' ++ (awaiting_left b' ∷ Y') → (N ≡ N') × (b ≡ b') × (Y ≡ Y')
  one_cut [] [] Y Y' b b' h h' e = (refl, (cc), (cc))
  one_cut [] (s ∷ N') Y Y' b b' h h' e = absurd (inner N' Y' Y b' h (cc))
  one_cut (s ∷ N) [] Y Y' b b' h h' e = absurd (inner N Y Y' b h' (cc))
  one_cut (s ∷ N) (s' ∷ N') Y Y' b b' h h' e =
      let a = one_cut N N' Y Y' b b' h h' (cc) in
      let q : s ≡ s' = cc in ((cc), a.1, a.2)

pub record Same (v : ℕ) (g : CostGraph) (k p v' : ℕ) (g' : CostGraph) (k' p' : ℕ) : Type 0 where
  pub value : v ≡ v'
  pub graph : g ≡ g'
  pub transitions : k ≡ k'
  pub deepest : p ≡ p'

module _ (M : FrameMachine) (m : Schedule) where
  no_trans : {c d : Control M.Code} {S T : PlainStack M} {v : ℕ} → Transition M c S d T → return v ≡ c → [] ≡ S → ⊥
  no_trans (continue e) a b = clash (cc)
  no_trans (open_ordinary e) a b = clash (cc)
  no_trans (open_both e) a b = clash (cc)
  no_trans (close_ordinary e) a b = clash (cc)
  no_trans (keep_ordinary e) a b = clash (cc)
  no_trans turn a b = clash (cc)
  no_trans join a b = clash (cc)

  -- A machine makes one transition at most: the one that the flat machine makes.
  ticked_same : {fuel frames : ℕ} {c d c' d' : Control M.Code} {S T S' T' : PlainStack M} {t : RunCounts}
      → Ticked M fuel frames false c S d T [] 0 empty t → Ticked M fuel frames false c' S' d' T' [] 0 empty t → c ≡ c' → S ≡ S'
      → (d ≡ d') × (T ≡ T')
  ticked_same {fuel} {frames} {c} {d} {c'} {d'} {S} {T} {S'} {T'} {t} a b ec es =
      let x : move graphs M fuel frames false (state c (S ⊕ []) 0 empty t) ≡ move graphs M fuel frames false
      (state c' (S' ⊕ []) 0 empty t) = rw (ec, es) in
      let e : ongoing (state d (T ⊕ []) 1 (transition empty) a.t') ≡ ongoing (state d' (T' ⊕ []) 1 (transition empty) b.t') =
      sym a.goes ∙ x ∙ b.goes in
      let f : T ⊕ [] ≡ T' ⊕ [] = cc in ((cc), sym (own_over T) ∙ ap own f ∙ own_over T')

  trans_same : {c d c' d' : Control M.Code} {S T S' T' : PlainStack M} → Transition M c S d T → Transition M c' S' d' T' → c ≡ c'
      → S ≡ S' → (d ≡ d') × (T ≡ T')
  trans_same {c} {d} {c'} {d'} {S} {T} {S'} {T'} x y ec es =
      let t : RunCounts = record { transitions = 0; forks = 0; deepest = length S + length S' } in
      ticked_same (ticked M 1 (length T + length T') false refl x [] 0 empty t (omega arith) (omega arith) (omega arith))
      (ticked M 1 (length T + length T') false refl y [] 0 empty t (omega arith) (omega arith) (omega arith)) ec es

  no_promotion : (N Y S : PlainStack M) (b : M.Fork) (n : ℕ) → S ≡ N ++ (awaiting_left b ∷ Y) → promotion_due m n true ≡ true
      → promotion_due m n (can_promote S) ≡ false → ⊥
  no_promotion N Y S b n s q h = true≢false (sym q ∙ rw (s, can_promote_has N Y b) at h)

  no_fork : {c d : M.Code} {b : M.Fork} → promoted_at_birth m ≡ true → M.next c ≡ open_fork b d
      → promoted_at_birth m && forks_at M (evaluate c) ≡ false → ⊥
  unfolding forks_at is_fork
  no_fork bn h f = true≢false (rw (bn, h) at f)

  -- Nothing else is derived.
  record Only (c : Control M.Code) (S : PlainStack M) (n v : ℕ) (g : CostGraph) (k p : ℕ) : Type 0 where
    only : {c' : Control M.Code} {S' : PlainStack M} {v' : ℕ} {g' : CostGraph} {k' p' : ℕ} → c ≡ c' → S ≡ S'
        → Eval M m c' S' n v' g' k' p' → Same v g k p v' g' k' p'

  only_val : {c : Control M.Code} {S : PlainStack M} {n v v' : ℕ} {g' : CostGraph} {k' p' : ℕ} → return v ≡ c → [] ≡ S
      → Eval M m c S n v' g' k' p' → Same v 𝟎 0 0 v' g' k' p'
  only_val ec es by_value = record { value = cc; graph = refl; transitions = refl; deepest = refl }
  only_val ec es (by_step q f x e) = absurd (no_trans x ec es)
  only_val ec es (by_fork bn h e1 e2 e3) = clash (cc)
  only_val ec es (by_promotion {b = b} {newer = N} {older = Y} s q o e1 e2 e3) =
      absurd (omega (arith, ap length (es ∙ s), length-append N (awaiting_left b ∷ Y)))

  ticks : {v v' : ℕ} {g g' : CostGraph} {k k' p p' a a' : ℕ} → a ≡ a' → Same v g k p v' g' k' p'
      → Same v (𝟏 · g) (k + 1) (max a p) v' (𝟏 · g') (k' + 1) (max a' p')
  ticks e s = let q = s.deepest in record { value = s.value; graph = cc; transitions = cc; deepest = omega arith }

  joined : {u w v u' w' v' : ℕ} {g1 g2 g3 g1' g2' g3' : CostGraph} {k1 k2 k3 p1 p2 p3 k1' k2' k3' p1' p2' p3' a a' : ℕ} → a ≡ a'
      → Same u g1 k1 p1 u' g1' k1' p1' → Same w g2 k2 p2 w' g2' k2' p2' → Same v g3 k3 p3 v' g3' k3' p3'
      → Same v (g1 ∥ g2 · g3) (k1 + k2 + k3) (fork_frames a p1 p2 p3) v' (g1' ∥ g2' · g3') (k1' + k2' + k3') (fork_frames a' p1' p2' p3')
  joined e x y z = record { value = z.value; graph = cc; transitions = cc; deepest = omega arith }

  only_step : {c d c' : Control M.Code} {S T S' : PlainStack M} {n v v' : ℕ} {g g' : CostGraph} {k p k' p' : ℕ}
      → promotion_due m n (can_promote S) ≡ false → promoted_at_birth m && forks_at M c ≡ false → Transition M c S d T
      → Only d T (n + 1) v g k p
      → c ≡ c' → S ≡ S' → Eval M m c' S' n v' g' k' p' → Same v (𝟏 · g) (k + 1) (max (length S) p) v' g' k' p'
  only_step q f x i ec es by_value = absurd (no_trans x (sym ec) (sym es))
  only_step q f x i ec es (by_step q' f' x' e) = ticks (ap length es) (i.only (trans_same x x' ec es).0 (trans_same x x' ec es).1 e)
  only_step q f x i ec es (by_fork bn h e1 e2 e3) = absurd (no_fork bn h (rw ec at f))
  only_step {S = S} q f x i ec es (by_promotion {b = b} {newer = N} {older = Y} {n = n} s q' o e1 e2 e3) =
      absurd (no_promotion N Y S b n (es ∙ s) q' q)

  same_body : {b b' : M.Fork} {u w u' w' : ℕ} {g1 g2 g1' g2' : CostGraph} {k1 k2 p1 p2 k1' k2' p1' p2' : ℕ} → b ≡ b'
      → Same u g1 k1 p1 u' g1' k1' p1' → Same w g2 k2 p2 w' g2' k2' p2'
      → ◌≡◌ {A = Control M.Code} (evaluate (M.body b u w)) (evaluate (M.body b' u' w'))
  same_body e x y = cc

  -- The branches and the body.
  after : {b b' : M.Fork} {u w v u' w' v' : ℕ} {g1 g2 g3 g1' g2' g3' : CostGraph} {k1 k2 k3 p1 p2 p3 k1' k2' k3' p1' p2' p3' : ℕ}
      {Y Y' : PlainStack M} → b ≡ b' → Y ≡ Y'
      → Same u g1 k1 p1 u' g1' k1' p1' → Only (evaluate (M.right b)) [] 0 w g2 k2 p2 → Only (evaluate (M.body b u w)) Y 0 v g3 k3 p3
      → Eval M m (evaluate (M.right b')) [] 0 w' g2' k2' p2' → Eval M m (evaluate (M.body b' u' w')) Y' 0 v' g3' k3' p3'
      → Same v (g1 ∥ g2 · g3) (k1 + k2 + k3) (fork_frames (length Y) p1 p2 p3) v' (g1' ∥ g2' · g3') (k1' + k2' + k3')
      (fork_frames (length Y') p1' p2' p3')
  after eb ey a i2 i3 e2 e3 =
      let r = i2.only (ap (λ z. evaluate (M.right z)) eb) refl e2 in joined (ap length ey) a r (i3.only (same_body eb a r) ey e3)

  only_fork : {c d : M.Code} {b : M.Fork} {c' : Control M.Code} {S S' : PlainStack M} {n u w v v' : ℕ} {g1 g2 g3 g' : CostGraph}
      {k1 k2 k3 p1 p2 p3 k' p' : ℕ} → promoted_at_birth m ≡ true → M.next c ≡ open_fork b d
      → Only (evaluate d) [] 0 u g1 k1 p1 → Only (evaluate (M.right b)) [] 0 w g2 k2 p2 → Only (evaluate (M.body b u w)) S 0 v g3 k3 p3
      → evaluate c ≡ c' → S ≡ S' → Eval M m c' S' n v' g' k' p'
      → Same v (g1 ∥ g2 · g3) (k1 + k2 + k3) (fork_frames (length S) p1 p2 p3) v' g' k' p'
  only_fork bn h i1 i2 i3 ec es by_value = clash (cc)
  only_fork bn h i1 i2 i3 ec es (by_step q f x e) = absurd (no_fork bn h (rw (← ec) at f))
  only_fork {d = d} {b = b} bn h i1 i2 i3 ec es (by_fork {d = d'} {b = b'} bn' h' e1 e2 e3) =
      let ed : d ≡ d' = cc in let eb : b ≡ b' = cc in after eb es (i1.only (ap evaluate ed) refl e1) i2 i3 e2 e3
  only_fork bn h i1 i2 i3 ec es (by_promotion {n = n} s q o e1 e2 e3) = absurd (true≢false (sym q ∙ born_quiet m n true bn))

  only_promote : {b : M.Fork} {c c' : Control M.Code} {S S' N Y : PlainStack M} {n u w v v' : ℕ} {g1 g2 g3 g' : CostGraph}
      {k1 k2 k3 p1 p2 p3 k' p' : ℕ} → S ≡ N ++ (awaiting_left b ∷ Y) → promotion_due m n true ≡ true → can_promote Y ≡ false
      → Only c N 0 u g1 k1 p1 → Only (evaluate (M.right b)) [] 0 w g2 k2 p2 → Only (evaluate (M.body b u w)) Y 0 v g3 k3 p3
      → c ≡ c' → S ≡ S' → Eval M m c' S' n v' g' k' p' → Same v (g1 ∥ g2 · g3) (k1 + k2 + k3) (fork_frames (length Y) p1 p2 p3) v' g' k' p'
  only_promote {b = b} {N = N} {Y = Y} s q o i1 i2 i3 ec es by_value =
      absurd (omega (arith, ap length (es), ap length s, length-append N (awaiting_left b ∷ Y)))
  only_promote {b = b} {N = N} {Y = Y} s q o i1 i2 i3 ec es (by_step {S = S} {n = n} q' f x e) =
      absurd (no_promotion N Y S b n (sym es ∙ s) q q')
  only_promote s q o i1 i2 i3 ec es (by_fork {n = n} bn h e1 e2 e3) = absurd (true≢false (sym q ∙ born_quiet m n true bn))
  only_promote {b = b} {N = N} {Y = Y} s q o i1 i2 i3 ec es (by_promotion {b = b'} {newer = N'} {older = Y'} s' q' o' e1 e2 e3) =
      let y = one_cut N N' Y Y' b b' o o' (sym s ∙ es ∙ s') in after y.1 y.2 (i1.only ec y.0 e1) i2 i3 e2 e3

  onlys : {c : Control M.Code} {S : PlainStack M} {n v : ℕ} {g : CostGraph} {k p : ℕ} → Eval M m c S n v g k p → Only c S n v g k p
  onlys by_value = record { only = only_val }
  onlys (by_step q f x e) = record { only = only_step q f x (onlys e) }
  onlys (by_fork bn h e1 e2 e3) = record { only = only_fork bn h (onlys e1) (onlys e2) (onlys e3) }
  onlys (by_promotion s q o e1 e2 e3) = record { only = only_promote s q o (onlys e1) (onlys e2) (onlys e3) }

  -- One value and one graph, with one number of transitions and of frames.
  pub same : {c : Control M.Code} {S : PlainStack M} {n v v' : ℕ} {g g' : CostGraph} {k k' p p' : ℕ} → Eval M m c S n v g k p
      → Eval M m c S n v' g' k' p' → Same v g k p v' g' k' p'
  same e = (onlys e).only refl refl

  -- The transitions are the work of the graph where forks cost nothing.
  pub count : {c : Control M.Code} {S : PlainStack M} {n v : ℕ} {g : CostGraph} {k p : ℕ} → Eval M m c S n v g k p → k ≡ work_of 0 g
  unfolding work_of
  count by_value = refl
  count (by_step q f x e) = omega (arith, count e)
  count (by_fork bn h e1 e2 e3) = omega (arith, count e1, count e2, count e3)
  count (by_promotion s q o e1 e2 e3) = omega (arith, count e1, count e2, count e3)

pub sequential_deterministic : SequentialDeterministic
sequential_deterministic M c S v v' g g' d e = let s = same M sequential (of_seq 0 d) (of_seq 0 e) in (s.value, s.graph)

pub parallel_deterministic : ParallelDeterministic
parallel_deterministic M c S v v' g g' d e = let s = same M parallel (of_par 0 d) (of_par 0 e) in (s.value, s.graph)

pub heartbeat_deterministic : HeartbeatDeterministic
heartbeat_deterministic M N c S n v v' g g' d e = let s = same M (heartbeat N) (of_hb d) (of_hb e) in (s.value, s.graph)
