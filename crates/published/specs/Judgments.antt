-- The published semantics: 004, Figures 2 to 6, over any frame machine. One constructor is one rule, and each has the paper's name beside it. A pair
-- with two values becomes a "both" with a body: where the paper goes on with (v1, v2), these rules evaluate the body with both values.
-- Letters: c and d control, S and T stacks, n credits, v, u and w values, g a graph; b a fork, f and e frames.
use Rattle.std.specs.Prelude.{ℕ, ◌+◌, ◌≤◌, ◌<◌, ◌≡◌, Bool, true, false, List, [], ◌∷◌, ◌++◌, ◌⊎◌}
use Rattle.schedule.specs.FrameMachine.{Control, evaluate, return, Next, go_on, open_frame, open_fork, stuck, close, keep, FrameMachine}
use Rattle.published.specs.CostGraph.{CostGraph, 𝟎, 𝟏, ◌·◌, ◌∥◌}

-- FIGURE 2, frames: APPL and APPR are ordinary; PAIRL awaits the left value, PAIRR the right one and has the left.
pub data PlainFrame (Frame Fork : Type 0) : Type 0 where
  ordinary_frame : Frame → PlainFrame Frame Fork
  awaiting_left : Fork → PlainFrame Frame Fork
  awaiting_right : Fork → ℕ → PlainFrame Frame Fork

-- FIGURE 2, stacks: the newest frame first, and [] for TOP. A machine of the paper is a control with such a stack.
abbrev pub PlainStack : FrameMachine → Type 0
PlainStack M = List (PlainFrame M.Frame M.Fork)

-- FIGURE 6, promotable: a PAIRL is in the stack.
unfoldable pub can_promote : {Frame Fork : Type 0} → List (PlainFrame Frame Fork) → Bool
can_promote [] = false
can_promote (ordinary_frame f ∷ S) = can_promote S
can_promote (awaiting_left b ∷ S) = true
can_promote (awaiting_right b v ∷ S) = can_promote S

module _ (M : FrameMachine) where
  -- FIGURE 3, the transitions of a machine. VAR and ABS: a node goes on at once.
  pub data Transition : Control M.Code → PlainStack M → Control M.Code → PlainStack M → Type 0 where
    continue : {c : M.Code} {d : Control M.Code} {S : PlainStack M} → M.next c ≡ go_on d → Transition (evaluate c) S d S
    -- APPL: an ordinary frame is opened.
    open_ordinary : {c d : M.Code} {f : M.Frame} {S : PlainStack M}
        → M.next c ≡ open_frame f d → Transition (evaluate c) S (evaluate d) (ordinary_frame f ∷ S)
    -- PAIRL: a fork's frame is opened, and the left branch is evaluated.
    open_both : {c d : M.Code} {b : M.Fork} {S : PlainStack M}
        → M.next c ≡ open_fork b d → Transition (evaluate c) S (evaluate d) (awaiting_left b ∷ S)
    -- BODY: a value closes an ordinary frame.
    close_ordinary : {f : M.Frame} {v : ℕ} {d : Control M.Code} {S : PlainStack M}
        → M.arrive f v ≡ close d → Transition (return v) (ordinary_frame f ∷ S) d S
    -- APPR: a value is kept in an ordinary frame, and the next child is evaluated.
    keep_ordinary : {f e : M.Frame} {v : ℕ} {d : M.Code} {S : PlainStack M}
        → M.arrive f v ≡ keep e d → Transition (return v) (ordinary_frame f ∷ S) (evaluate d) (ordinary_frame e ∷ S)
    -- PAIRR: the left value is kept, and the right branch is evaluated.
    turn : {b : M.Fork} {v : ℕ} {S : PlainStack M}
        → Transition (return v) (awaiting_left b ∷ S) (evaluate (M.right b)) (awaiting_right b v ∷ S)
    -- PAIR: both values go to the body.
    join : {b : M.Fork} {v w : ℕ} {S : PlainStack M}
        → Transition (return v) (awaiting_right b w ∷ S) (evaluate (M.body b w v)) S

  -- FIGURE 4, m ⇒seq v; g.
  pub data Sequential : Control M.Code → PlainStack M → ℕ → CostGraph → Type 0 where
    -- SEQVAL
    seq_value : {v : ℕ} → Sequential (return v) [] v 𝟎
    -- SEQSTEP
    seq_step : {c d : Control M.Code} {S T : PlainStack M} {v : ℕ} {g : CostGraph}
        → Transition c S d T
        → Sequential d T v g
        → Sequential c S v (𝟏 · g)

  -- c is a parallel pair, of which PARSTEP says that it is none.
  unfoldable pub is_fork : Next M.Code M.Frame M.Fork → Bool
  is_fork (go_on d) = false
  is_fork (open_frame f d) = false
  is_fork (open_fork b d) = true
  is_fork (stuck i) = false

  unfoldable pub forks_at : Control M.Code → Bool
  forks_at (evaluate c) = is_fork (M.next c)
  forks_at (return v) = false

  -- FIGURE 5, m ⇒par v; g.
  pub data Parallel : Control M.Code → PlainStack M → ℕ → CostGraph → Type 0 where
    -- PARVAL
    par_value : {v : ℕ} → Parallel (return v) [] v 𝟎
    -- PARSTEP
    par_step : {c d : Control M.Code} {S T : PlainStack M} {v : ℕ} {g : CostGraph}
        → forks_at c ≡ false
        → Transition c S d T
        → Parallel d T v g
        → Parallel c S v (𝟏 · g)
    -- PARPAIR: two fresh machines, then the body with the stack.
    par_fork : {c d : M.Code} {b : M.Fork} {S : PlainStack M} {u w v : ℕ} {g1 g2 g3 : CostGraph}
        → M.next c ≡ open_fork b d
        → Parallel (evaluate d) [] u g1
        → Parallel (evaluate (M.right b)) [] w g2
        → Parallel (evaluate (M.body b u w)) S v g3
        → Parallel (evaluate c) S v (g1 ∥ g2 · g3)

  -- FIGURE 6, m; n ⇒hb v; g, with the period N.
  pub data Heartbeat (N : ℕ) : Control M.Code → PlainStack M → ℕ → ℕ → CostGraph → Type 0 where
    -- HBVAL
    hb_value : {v n : ℕ} → Heartbeat N (return v) [] n v 𝟎
    -- HBSTEP: too few credits, or nothing to promote.
    hb_step : {c d : Control M.Code} {S T : PlainStack M} {n v : ℕ} {g : CostGraph}
        → (n < N) ⊎ (can_promote S ≡ false)
        → Transition c S d T
        → Heartbeat N d T (n + 1) v g
        → Heartbeat N c S n v (𝟏 · g)
    -- HBPROMOTE: the stack is split at its oldest promotable frame. The newer frames go on as the left machine, the right branch is a fresh machine,
    -- and the body goes on with the older frames. All three start with 0 credits.
    hb_promote : {c : Control M.Code} {b : M.Fork} {newer older : PlainStack M} {n u w v : ℕ} {g1 g2 g3 : CostGraph}
        → N ≤ n
        → can_promote older ≡ false
        → Heartbeat N c newer 0 u g1
        → Heartbeat N (evaluate (M.right b)) [] 0 w g2
        → Heartbeat N (evaluate (M.body b u w)) older 0 v g3
        → Heartbeat N c (newer ++ (awaiting_left b ∷ older)) n v (g1 ∥ g2 · g3)
