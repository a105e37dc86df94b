-- What the parallel or the heartbeat judgment derives, the sequential one derives too: by the figures alone, with no flat machine. A derivation is put
-- before any sequential rest, on the stack U below.
use mathlib.Core.List.{[], ◌∷◌, ◌++◌, append_assoc, append-nil}
use Prim.Native.Nat.{ℕ}
use Rattle.schedule.specs.FrameMachine.{Control, evaluate, return, FrameMachine}
use Rattle.schedule.specs.Machine.{Schedule}
use Rattle.published.specs.CostGraph.{CostGraph, 𝟎, 𝟏, ◌·◌}
use Rattle.published.specs.Judgments.{awaiting_left, awaiting_right, PlainStack, Transition, continue, open_ordinary, open_both, close_ordinary, keep_ordinary, turn, join, Sequential, seq_value, seq_step, Parallel, Heartbeat}
use Rattle.published.specs.Theorems.{Some}
use Rattle.published.proofs.Schedules.{Eval, by_value, by_step, by_fork, by_promotion}
use Rattle.published.proofs.Conversion.{of_par, of_hb}

module _ (M : FrameMachine) where
  abbrev Seq : Control M.Code → PlainStack M → ℕ → Type 0
  Seq c S v = Some (Sequential M c S v)

  -- A transition of a stack is one of the stack with more below it.
  above : {c d : Control M.Code} {S T : PlainStack M} (U : PlainStack M) → Transition M c S d T → Transition M c (S ++ U) d (T ++ U)
  above U (continue e) = continue e
  above U (open_ordinary e) = open_ordinary e
  above U (open_both e) = open_both e
  above U (close_ordinary e) = close_ordinary e
  above U (keep_ordinary e) = keep_ordinary e
  above U turn = turn
  above U join = join

  -- A transition first.
  before : {c d : Control M.Code} {S T : PlainStack M} {v : ℕ} → Transition M c S d T → Seq d T v → Seq c S v
  before x s = record { graph = 𝟏 · s.graph; derivation = seq_step x s.derivation }

  -- Before any sequential rest.
  abbrev Into : Control M.Code → PlainStack M → ℕ → Type 0
  Into c S v = (U : PlainStack M) (v' : ℕ) → Seq (return v) U v' → Seq c (S ++ U) v'

  -- The change to the right branch, that branch, the join, the body.
  rest : {b : M.Fork} (Y : PlainStack M) {u w v : ℕ} → Into (evaluate (M.right b)) [] w → Into (evaluate (M.body b u w)) Y v
      → (U : PlainStack M) (v' : ℕ) → Seq (return v) U v' → Seq (return u) (awaiting_left b ∷ (Y ++ U)) v'
  rest {b} Y {u} i2 i3 U v' s = before turn (i2 (awaiting_right b u ∷ (Y ++ U)) v' (before join (i3 U v' s)))

  into : {m : Schedule} {c : Control M.Code} {S : PlainStack M} {n v : ℕ} {g : CostGraph} {k p : ℕ} → Eval M m c S n v g k p → Into c S v
  into by_value = λ U v' s. s
  into (by_step q f x e) = λ U v' s. before (above U x) (into e U v' s)
  into (by_fork {b = b} {S = S} q h e1 e2 e3) =
      λ U v' s. before (open_both h) (into e1 (awaiting_left b ∷ (S ++ U)) v' (rest S (into e2) (into e3) U v' s))
  into (by_promotion {b = b} {newer = N} {older = Y} is q o e1 e2 e3) =
      λ U v' s. rw (is, append_assoc N (awaiting_left b ∷ Y) U) (into e1 (awaiting_left b ∷ (Y ++ U)) v' (rest Y (into e2) (into e3) U v' s))

  alone : {m : Schedule} {c : Control M.Code} {S : PlainStack M} {n v : ℕ} {g : CostGraph} {k p : ℕ} → Eval M m c S n v g k p → Seq c S v
  alone {S = S} {v = v} e = rw (append-nil S) at (into e [] v (record { graph = 𝟎; derivation = seq_value }))

  pub from_parallel : {c : Control M.Code} {S : PlainStack M} {v : ℕ} {g : CostGraph} → Parallel M c S v g → Seq c S v
  from_parallel d = alone (of_par 0 d)

  pub from_heartbeat : {N : ℕ} {c : Control M.Code} {S : PlainStack M} {n v : ℕ} {g : CostGraph} → Heartbeat M N c S n v g → Seq c S v
  from_heartbeat d = alone (of_hb d)
