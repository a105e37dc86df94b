-- The flat machine: its state, its steps and its stops, under one of three schedules (01, "Transitions"; 004, Figures 4, 5 and 6).
-- One machine runs at a time, left before right. The machines that wait need no record of their own: the promoted frames of the one stack
-- are it, as 01 says ("the promoted frame stays occupied until its join, and both arrivals there take no transition"). Each definition restates
-- the sentence of 01 beside it, and proofs/Example.antt computes settled runs of 01 from them.
-- Letters: c control, S stack, n credits, g cost of the machine that runs now, t counts; b a fork, v and w values, h the cost before a fork
-- and l that of its left branch; p a place, o what comes next.
use Rattle.std.specs.Prelude.{ℕ, ◌+◌, max, Bool, true, false, cond, ◌&&◌, List, [], ◌∷◌, ltb, leb, length}
use Rattle.schedule.specs.Algebra.{CostAlgebra}
use Rattle.schedule.specs.FrameMachine.{Place, Control, evaluate, return, Next, go_on, open_frame, open_fork, stuck, Arrival, close, keep, fail, FrameMachine}

-- One of 01's frames, as the stack holds it: an ordinary one, or a fork's. A fork's frame is plain or promoted, and awaits its left or its
-- right value; awaiting right, it has left's value. A promoted one keeps the cost from before the fork, and then also that of the left branch.
-- (004, Figure 2: APPL and APPR are ordinary, PAIRL is a plain left and PAIRR a plain right. Promoted ones are not in a 004 stack: they stand
-- for the premises of PARPAIR and HBPROMOTE.)
pub data Slot (Cost Frame Fork : Type 0) : Type 0 where
  ordinary : Frame → Slot Cost Frame Fork
  plain_left : Fork → Slot Cost Frame Fork
  plain_right : Fork → ℕ → Slot Cost Frame Fork
  promoted_left : Cost → Fork → Slot Cost Frame Fork
  promoted_right : Cost → Cost → Fork → ℕ → Slot Cost Frame Fork

-- The newest frame first.
abbrev pub Stack : CostAlgebra → FrameMachine → Type 0
Stack K M = List (Slot K.Cost M.Frame M.Fork)

-- 01: "that machine's stack has an unpromoted 'both' awaiting its left" (004, Figure 6: promotable). The running machine's own stack ends
-- at its newest promoted frame: what lies below belongs to machines that wait.
unfoldable pub promotable : {Cost Frame Fork : Type 0} → List (Slot Cost Frame Fork) → Bool
promotable [] = false
promotable (ordinary f ∷ S) = promotable S
promotable (plain_left b ∷ S) = true
promotable (plain_right b v ∷ S) = promotable S
promotable (promoted_left g b ∷ S) = false
promotable (promoted_right g l b v ∷ S) = false

-- 01: "the oldest such frame is promoted" (004, Figure 6: HBPROMOTE). It keeps g, the cost of the running machine so far.
unfoldable pub promote : {Cost Frame Fork : Type 0} → Cost → List (Slot Cost Frame Fork) → List (Slot Cost Frame Fork)
promote g [] = []
promote g (ordinary f ∷ S) = ordinary f ∷ promote g S
promote g (plain_left b ∷ S) = cond (promotable S) (plain_left b ∷ promote g S) (promoted_left g b ∷ S)
promote g (plain_right b v ∷ S) = plain_right b v ∷ promote g S
promote g (promoted_left h b ∷ S) = promoted_left h b ∷ S
promote g (promoted_right h l b v ∷ S) = promoted_right h l b v ∷ S

-- 01: "An answer is either a value with its counts or a stop with its place."
pub data Ending : Type 0 where
  value : ℕ → Ending
  stop : ℕ → Place → Ending

-- The counts of a run, apart from credits and fuel. `deepest` is the most frames that were occupied at once: the frames resource of demand 2,
-- and the depth that answers tell (02, P7). Work and span are the graph's. Counts change by the three functions below, and by nothing else.
pub record RunCounts : Type 0 where
  pub transitions : ℕ
  pub forks : ℕ
  pub deepest : ℕ

abbrev pub zeros : RunCounts
zeros = record { transitions = 0; forks = 0; deepest = 0 }

abbrev pub tick : RunCounts → RunCounts
tick t = record { transitions = t.transitions + 1; forks = t.forks; deepest = t.deepest }

-- 01: "Forks are parallel forks, or promotions."
abbrev pub split : RunCounts → RunCounts
split t = record { transitions = t.transitions; forks = t.forks + 1; deepest = t.deepest }

abbrev pub deeper : ℕ → RunCounts → RunCounts
deeper d t = record { transitions = t.transitions; forks = t.forks; deepest = max t.deepest d }

-- Control, stack, credits, cost of the machine that runs now, counts.
pub data State (K : CostAlgebra) (M : FrameMachine) : Type 0 where
  state : Control M.Code → Stack K M → ℕ → K.Cost → RunCounts → State K M

-- What a step, or a run, comes to: an end with its cost and counts, or a state to go on from.
pub data Outcome (Cost X : Type 0) : Type 0 where
  ended : Ending → Cost → RunCounts → Outcome Cost X
  ongoing : X → Outcome Cost X

-- That of one machine.
abbrev pub Result : CostAlgebra → FrameMachine → Type 0
Result K M = Outcome K.Cost (State K M)

-- 004's three semantics: Figure 4, Figure 5, and Figure 6 with its period N.
pub data Schedule : Type 0 where
  sequential : Schedule
  parallel : Schedule
  heartbeat : ℕ → Schedule

-- The schedule is asked twice. First: is a fork promoted at its birth? 01, Parallel: "at every 'both', left and right run as fresh machines".
unfoldable pub promoted_at_birth : Schedule → Bool
promoted_at_birth sequential = false
promoted_at_birth parallel = true
promoted_at_birth (heartbeat N) = false

-- Second: is a promotion due, with these credits in a stack that is promotable or not? 01, Heartbeat: "where credits are at least N and that
-- machine's stack has an unpromoted 'both' awaiting its left".
unfoldable pub promotion_due : Schedule → ℕ → Bool → Bool
promotion_due sequential credits able = false
promotion_due parallel credits able = false
promotion_due (heartbeat N) credits able = leb N credits && able

-- THE STATES that steps lead to. In all but the first the credits start again at 0.
module _ (K : CostAlgebra) (M : FrameMachine) where
  -- 01: credits are "one more at each transition", and "a transition costs 1 of work and span" (004: SEQSTEP, PARSTEP, HBSTEP).
  abbrev pub after_transition : Control M.Code → Stack K M → ℕ → K.Cost → RunCounts → State K M
  after_transition c S n g t = state c S (n + 1) (K.transition g) (tick t)

  -- A promotion. 01, Heartbeat: "The newer frames become a left machine that goes on; the right branch becomes a fresh machine; the body, with the
  -- older frames, goes on after both. All three start with 0 credits. Promotion takes no transition and no fuel" (004: HBPROMOTE).
  abbrev pub after_promotion : Control M.Code → Stack K M → ℕ → K.Cost → RunCounts → State K M
  after_promotion c S n g t = state c (promote g S) 0 K.empty (split t)

  -- A fork that is promoted at its birth. 01, Parallel: "The fork, the change from left to right and the join take no transition and no fuel.
  -- The fork occupies one frame until its join." (004: PARPAIR)
  abbrev pub after_fork : M.Fork → M.Code → Stack K M → ℕ → K.Cost → RunCounts → State K M
  after_fork b d S n g t = state (evaluate d) (promoted_left g b ∷ S) 0 K.empty (deeper (length S + 1) (split t))

  -- The change from left to right at a promoted frame: the left machine's cost is kept there, and the right branch is "a fresh machine".
  abbrev pub after_turn : M.Fork → ℕ → K.Cost → Stack K M → ℕ → K.Cost → RunCounts → State K M
  after_turn b v h S n g t = state (evaluate (M.right b)) (promoted_right h g b v ∷ S) 0 K.empty t

  -- The join: "the body, with the older frames, goes on after both". Its cost is the fork of the two graphs after the one before it.
  abbrev pub after_join : M.Fork → ℕ → ℕ → K.Cost → K.Cost → Stack K M → ℕ → K.Cost → RunCounts → State K M
  after_join b w v h l S n g t = state (evaluate (M.body b w v)) S 0 (K.fork h l g) t

-- THE STEPS. 01: "Before each transition, in this order: a promotion that is due (heartbeat only), fuel, then a free frame where one is opened, then
-- arithmetic." and "A transition that stops is not counted."
module _ (K : CostAlgebra) (M : FrameMachine) (fuel frames : ℕ) where
  -- 20: "the transitions made equal the fuel and another is needed"
  unfoldable pub with_fuel : Place → K.Cost → RunCounts → Result K M → Result K M
  with_fuel p g t o = cond (ltb t.transitions fuel) o (ended (stop 20 p) g t)

  -- 21: "all frames are occupied and one more must be opened"
  unfoldable pub with_frame : Stack K M → Place → K.Cost → RunCounts → Result K M → Result K M
  with_frame S p g t o = cond (ltb (length S) frames) o (ended (stop 21 p) g t)

  -- A node is evaluated. Where `born`, a fork is promoted at its birth, and "A parallel fork looks only for its free frame". What `stuck` and `fail`
  -- tell is looked at last: it is the arithmetic.
  unfoldable pub evaluated : Bool → Place → Next M.Code M.Frame M.Fork → Stack K M → ℕ → K.Cost → RunCounts → Result K M
  evaluated born p (go_on c) S n g t = with_fuel p g t (ongoing (after_transition K M c S n g t))
  evaluated born p (open_frame f d) S n g t =
      with_fuel p g t (with_frame S p g t (ongoing (after_transition K M (evaluate d) (ordinary f ∷ S) n g (deeper (length S + 1) t))))
  evaluated born p (open_fork b d) S n g t = cond born
      (with_frame S p g t (ongoing (after_fork K M b d S n g t)))
      (with_fuel p g t (with_frame S p g t (ongoing (after_transition K M (evaluate d) (plain_left b ∷ S) n g (deeper (length S + 1) t)))))
  evaluated born p (stuck i) S n g t = with_fuel p g t (ended (stop i p) g t)

  -- A value returns to an ordinary frame.
  unfoldable pub arrived : Place → Arrival M.Code M.Frame → Stack K M → ℕ → K.Cost → RunCounts → Result K M
  arrived p (close c) S n g t = with_fuel p g t (ongoing (after_transition K M c S n g t))
  arrived p (keep f d) S n g t = with_fuel p g t (ongoing (after_transition K M (evaluate d) (ordinary f ∷ S) n g t))
  arrived p (fail i) S n g t = with_fuel p g t (ended (stop i p) g t)

  -- Every move but a promotion. 01: "The node is the one being evaluated, or that of the frame the value returns to." and "A value with no
  -- frame left ends the run, with no transition."
  unfoldable pub move : Bool → State K M → Result K M
  move born (state (evaluate c) S n g t) = evaluated born (M.code_place c) (M.next c) S n g t
  move born (state (return v) [] n g t) = ended (value v) g t
  move born (state (return v) (ordinary f ∷ S) n g t) = arrived (M.frame_place f) (M.arrive f v) S n g t
  move born (state (return v) (plain_left b ∷ S) n g t) =
      with_fuel (M.fork_place b) g t (ongoing (after_transition K M (evaluate (M.right b)) (plain_right b v ∷ S) n g t))
  move born (state (return v) (plain_right b w ∷ S) n g t) =
      with_fuel (M.fork_place b) g t (ongoing (after_transition K M (evaluate (M.body b w v)) S n g t))
  move born (state (return v) (promoted_left h b ∷ S) n g t) = ongoing (after_turn K M b v h S n g t)
  move born (state (return v) (promoted_right h l b w ∷ S) n g t) = ongoing (after_join K M b w v h l S n g t)

  -- A step: a promotion where one is due, and else a move. 01: "After a promotion the state is looked at afresh."
  unfoldable pub step : Schedule → State K M → Result K M
  step m (state c S n g t) =
      cond (promotion_due m n (promotable S)) (ongoing (after_promotion K M c S n g t)) (move (promoted_at_birth m) (state c S n g t))

-- 01, Heartbeat: "a machine carries credits, 0 at its start".
unfoldable pub start : (K : CostAlgebra) (M : FrameMachine) → M.Code → State K M
start K M c = state (evaluate c) [] 0 K.empty zeros
