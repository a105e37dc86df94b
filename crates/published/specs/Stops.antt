-- What it is that a machine of the paper STOPS (01, "Stopped by the run's state"; demand 2: a stop names the first step that could not be taken).
-- Document 004 has no stops, since its machines have no fuel and no frames to spend. So beside each rule of Figures 4 to 6 stand the rules of a stop: a
-- machine stops where its next step cannot be taken, or it takes the rule's step and stops later, or one of the rule's premises stops, when those before
-- it have their values. No flat machine is meant here: a machine is a control with a stack, as in Judgments.antt.
-- Resources: `fuel` are the transitions that the machine may still make, `frames` those that its stack may hold. A fork's frame "stays occupied until its
-- join": where `free` frames are left above a fork and what lies below it, its branches have those, and the body has all again.
-- Letters: as in Judgments.antt; i the number of a stop and p its place, k the transitions made before it, h the most frames that the machine
-- occupied at once before it (02, P7: "A fork's frame counts until its join.").
use Rattle.std.specs.Prelude.{ℕ, ◌+◌, ◌≤◌, ◌<◌, max, ◌≡◌, false, [], ◌∷◌, ◌++◌, ◌⊎◌, length}
use Rattle.schedule.specs.FrameMachine.{Place, Control, evaluate, return, open_frame, open_fork, stuck, fail, FrameMachine}
use Rattle.published.specs.CostGraph.{CostGraph}
use Rattle.published.specs.Judgments.{ordinary_frame, awaiting_left, awaiting_right, PlainStack, can_promote, Transition, forks_at, Parallel, Heartbeat}
use Rattle.published.specs.Resources.{fork_frames, par_transitions, par_frames, hb_transitions, hb_frames}

module _ (M : FrameMachine) where
  -- A machine needs a transition, at a place. 01: "The node is the one being evaluated, or that of the frame the value returns to." And "A value with no
  -- frame left ends the run, with no transition": for it there is no rule.
  pub data Awaits : Control M.Code → PlainStack M → Place → Type 0 where
    at_node : {c : M.Code} {S : PlainStack M} → Awaits (evaluate c) S (M.code_place c)
    at_ordinary : {f : M.Frame} {v : ℕ} {S : PlainStack M} → Awaits (return v) (ordinary_frame f ∷ S) (M.frame_place f)
    at_left : {b : M.Fork} {v : ℕ} {S : PlainStack M} → Awaits (return v) (awaiting_left b ∷ S) (M.fork_place b)
    at_right : {b : M.Fork} {v w : ℕ} {S : PlainStack M} → Awaits (return v) (awaiting_right b w ∷ S) (M.fork_place b)

  -- "all frames are occupied"
  abbrev pub NoneFree : ℕ → PlainStack M → Type 0
  NoneFree frames S = frames ≤ length S

  -- THE TRANSITION THAT CANNOT BE TAKEN, with the number and the place. 01: "Before each transition, in this order: .. fuel, then a free frame where one
  -- is opened, then arithmetic." So all but the first have fuel left, and the last two open no frame.
  pub data Halts (fuel frames : ℕ) : Control M.Code → PlainStack M → ℕ → Place → Type 0 where
    -- "20 fuel spent: the transitions made equal the fuel and another is needed."
    fuel_spent : {c : Control M.Code} {S : PlainStack M} {p : Place}
        → fuel ≡ 0
        → Awaits c S p
        → Halts fuel frames c S 20 p
    -- "21 no free frame: all frames are occupied and one more must be opened.": an ordinary one
    no_free_frame : {c d : M.Code} {f : M.Frame} {S : PlainStack M}
        → 0 < fuel → M.next c ≡ open_frame f d
        → NoneFree frames S
        → Halts fuel frames (evaluate c) S 21 (M.code_place c)
    -- or a fork's.
    no_frame_to_fork : {c d : M.Code} {b : M.Fork} {S : PlainStack M}
        → 0 < fuel → M.next c ≡ open_fork b d
        → NoneFree frames S
        → Halts fuel frames (evaluate c) S 21 (M.code_place c)
    -- The language's own stops, at a node
    stuck_at_node : {c : M.Code} {i : ℕ} {S : PlainStack M}
        → 0 < fuel → M.next c ≡ stuck i
        → Halts fuel frames (evaluate c) S i (M.code_place c)
    -- and at a frame: of the job language "22 sum or product above 2^64 − 1", "23 difference below 0", "24 divisor 0".
    fails_at_frame : {f : M.Frame} {v i : ℕ} {S : PlainStack M}
        → 0 < fuel → M.arrive f v ≡ fail i
        → Halts fuel frames (return v) (ordinary_frame f ∷ S) i (M.frame_place f)

  -- BESIDE FIGURE 4: m stops with i at p, after k transitions, and h frames were the most that it occupied at once. 01: "A transition that stops is not
  -- counted."
  pub data SequentialStops : (fuel frames : ℕ) → Control M.Code → PlainStack M → ℕ → Place → ℕ → ℕ → Type 0 where
    -- The next step cannot be taken.
    seq_halts : {fuel frames : ℕ} {c : Control M.Code} {S : PlainStack M} {i : ℕ} {p : Place}
        → Halts fuel frames c S i p
        → SequentialStops fuel frames c S i p 0 (length S)
    -- SEQSTEP: it is taken, to a stack that the frames hold, and the rest stops.
    seq_stops_later : {fuel frames : ℕ} {c d : Control M.Code} {S T : PlainStack M} {i : ℕ} {p : Place} {k h : ℕ}
        → Transition M c S d T
        → length T ≤ frames
        → SequentialStops fuel frames d T i p k h
        → SequentialStops (fuel + 1) frames c S i p (k + 1) (max (length S) h)

  -- BESIDE FIGURE 5.
  pub data ParallelStops : (fuel frames : ℕ) → Control M.Code → PlainStack M → ℕ → Place → ℕ → ℕ → Type 0 where
    -- The next step cannot be taken, and it is no fork.
    par_halts : {fuel frames : ℕ} {c : Control M.Code} {S : PlainStack M} {i : ℕ} {p : Place}
        → forks_at M c ≡ false
        → Halts fuel frames c S i p
        → ParallelStops fuel frames c S i p 0 (length S)
    -- "A parallel fork looks only for its free frame."
    par_cannot_fork : {fuel frames : ℕ} {c d : M.Code} {b : M.Fork} {S : PlainStack M}
        → M.next c ≡ open_fork b d
        → NoneFree frames S
        → ParallelStops fuel frames (evaluate c) S 21 (M.code_place c) 0 (length S)
    -- PARSTEP: it is taken, and the rest stops.
    par_stops_later : {fuel frames : ℕ} {c d : Control M.Code} {S T : PlainStack M} {i : ℕ} {p : Place} {k h : ℕ}
        → forks_at M c ≡ false
        → Transition M c S d T
        → length T ≤ frames
        → ParallelStops fuel frames d T i p k h
        → ParallelStops (fuel + 1) frames c S i p (k + 1) (max (length S) h)
    -- PARPAIR. "Left is run before right. A stop in either branch ends the whole run." The left branch stops;
    par_stops_left : {fuel free : ℕ} {c d : M.Code} {b : M.Fork} {S : PlainStack M} {i : ℕ} {p : Place} {k h : ℕ}
        → M.next c ≡ open_fork b d
        → ParallelStops fuel free (evaluate d) [] i p k h
        → ParallelStops fuel (length S + 1 + free) (evaluate c) S i p k (length S + 1 + h)
    -- the left one has its value, and the right one stops, with the fuel that is left;
    par_stops_right : {fuel free : ℕ} {c d : M.Code} {b : M.Fork} {S : PlainStack M} {u : ℕ} {g : CostGraph} {i : ℕ} {p : Place} {k h : ℕ}
        → M.next c ≡ open_fork b d
        → (left : Parallel M (evaluate d) [] u g)
        → par_frames left ≤ free
        → ParallelStops fuel free (evaluate (M.right b)) [] i p k h
        → ParallelStops (par_transitions left + fuel) (length S + 1 + free) (evaluate c) S i p (par_transitions left + k)
        (length S + 1 + max (par_frames left) h)
    -- both have their values, and the body stops.
    par_stops_body : {fuel free : ℕ} {c d : M.Code} {b : M.Fork} {S : PlainStack M} {u w : ℕ} {g1 g2 : CostGraph} {i : ℕ} {p : Place} {k h : ℕ}
        → M.next c ≡ open_fork b d
        → (left : Parallel M (evaluate d) [] u g1)
        → par_frames left ≤ free
        → (right : Parallel M (evaluate (M.right b)) [] w g2)
        → par_frames right ≤ free
        → ParallelStops fuel (length S + 1 + free) (evaluate (M.body b u w)) S i p k h
        → ParallelStops (par_transitions left + par_transitions right + fuel) (length S + 1 + free) (evaluate c) S i p
        (par_transitions left + par_transitions right + k) (fork_frames (length S) (par_frames left) (par_frames right) h)

  -- BESIDE FIGURE 6, with the period N, at n credits.
  pub data HeartbeatStops (N : ℕ) : (fuel frames : ℕ) → Control M.Code → PlainStack M → ℕ → ℕ → Place → ℕ → ℕ → Type 0 where
    -- No promotion is due, and the next step cannot be taken.
    hb_halts : {fuel frames : ℕ} {c : Control M.Code} {S : PlainStack M} {n i : ℕ} {p : Place}
        → (n < N) ⊎ (can_promote S ≡ false)
        → Halts fuel frames c S i p
        → HeartbeatStops N fuel frames c S n i p 0 (length S)
    -- HBSTEP: it is taken, and the rest stops.
    hb_stops_later : {fuel frames : ℕ} {c d : Control M.Code} {S T : PlainStack M} {n i : ℕ} {p : Place} {k h : ℕ}
        → (n < N) ⊎ (can_promote S ≡ false)
        → Transition M c S d T
        → length T ≤ frames
        → HeartbeatStops N fuel frames d T (n + 1) i p k h
        → HeartbeatStops N (fuel + 1) frames c S n i p (k + 1) (max (length S) h)
    -- HBPROMOTE: it "takes no transition and no fuel", and no frame. The left machine stops;
    hb_stops_left : {fuel free : ℕ} {c : Control M.Code} {newer : PlainStack M} {n i : ℕ} {p : Place} {k h : ℕ}
        → (b : M.Fork) (older : PlainStack M)
        → N ≤ n
        → can_promote older ≡ false
        → HeartbeatStops N fuel free c newer 0 i p k h
        → HeartbeatStops N fuel (length older + 1 + free) c (newer ++ (awaiting_left b ∷ older)) n i p k (length older + 1 + h)
    -- the left one has its value, and the right one stops;
    hb_stops_right : {fuel free : ℕ} {c : Control M.Code} {newer : PlainStack M} {n u : ℕ} {g : CostGraph} {i : ℕ} {p : Place} {k h : ℕ}
        → (b : M.Fork) (older : PlainStack M)
        → N ≤ n
        → can_promote older ≡ false
        → (left : Heartbeat M N c newer 0 u g)
        → hb_frames left ≤ free
        → HeartbeatStops N fuel free (evaluate (M.right b)) [] 0 i p k h
        → HeartbeatStops N (hb_transitions left + fuel) (length older + 1 + free) c (newer ++ (awaiting_left b ∷ older)) n i p
        (hb_transitions left + k) (length older + 1 + max (hb_frames left) h)
    -- both have their values, and the body stops.
    hb_stops_body : {fuel free : ℕ} {c : Control M.Code} {newer : PlainStack M} {n u w : ℕ} {g1 g2 : CostGraph} {i : ℕ} {p : Place} {k h : ℕ}
        → (b : M.Fork) (older : PlainStack M)
        → N ≤ n
        → can_promote older ≡ false
        → (left : Heartbeat M N c newer 0 u g1)
        → hb_frames left ≤ free
        → (right : Heartbeat M N (evaluate (M.right b)) [] 0 w g2)
        → hb_frames right ≤ free
        → HeartbeatStops N fuel (length older + 1 + free) (evaluate (M.body b u w)) older 0 i p k h
        → HeartbeatStops N (hb_transitions left + hb_transitions right + fuel) (length older + 1 + free) c
        (newer ++ (awaiting_left b ∷ older)) n i p (hb_transitions left + hb_transitions right + k)
        (fork_frames (length older) (hb_frames left) (hb_frames right) h)
