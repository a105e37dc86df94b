-- Homomorphisms carry steps over, and so runs.
use Prim.Native.Nat.{ℕ, zero, suc, ◌+◌}
use mathlib.Core.Path.{◌≡◌, refl, ap, sym, ◌∙◌}
use mathlib.Core.Bool.{Bool, true, false, cond}
use mathlib.Core.List.{List, [], ◌∷◌}
use native.Mathlib.Omega.{arith}
use lib.Dec.{ltb}
use lib.ListN.{length}
use Rattle.schedule.specs.Graph.{Graph, empty, transition, fork, span}
use Rattle.schedule.specs.Algebra.{CostAlgebra, graphs, spans, Homomorphism}
use Rattle.schedule.specs.FrameMachine.{Place, Control, evaluate, return, Next, go_on, open_frame, open_fork, stuck, Arrival, close, keep, fail, FrameMachine}
use Rattle.schedule.specs.Machine.{Slot, ordinary, plain_left, plain_right, promoted_left, promoted_right, Stack, promotable, promote, Ending, stop, RunCounts, split, deeper, State, state, Outcome, Result, ended, ongoing, Schedule, promoted_at_birth, promotion_due, after_transition, after_promotion, after_fork, with_fuel, with_frame, evaluated, arrived, move, step, start}
use Rattle.schedule.specs.Runs.{and_then, run, moves, outcome}
use Rattle.schedule.specs.Homomorphism.{map_slot, map_stack, map_state, map_outcome, fold, RunsCarried, SpanCarried}

-- A map of states that goes with the steps goes with the runs, over any state.
module _ {Cost Cost' X Y : Type 0} (h : Cost → Cost') (k : X → Y) (f : X → Outcome Cost X) (f' : Y → Outcome Cost' Y)
    (e : (s : X) → f' (k s) ≡ map_outcome h k (f s)) where
  pub run_map : (gas : ℕ) (s : X) → run f' gas (k s) ≡ map_outcome h k (run f gas s)
  unfolding run and_then map_outcome
  run_map zero s = refl
  run_map (suc gas) s = rw (e s) (on (f s) (run_map gas))
    where
      on : (o : Outcome Cost X) → ((s : X) → run f' gas (k s) ≡ map_outcome h k (run f gas s))
          → and_then (map_outcome h k o) (run f' gas) ≡ map_outcome h k (and_then o (run f gas))
      on (ended z g t) again = refl
      on (ongoing s) again = again s

module _ {Cost Cost' Frame Fork : Type 0} (h : Cost → Cost') where
  pub promotable_map : (S : List (Slot Cost Frame Fork)) → promotable (map_stack h S) ≡ promotable S
  unfolding promotable map_stack
  promotable_map [] = refl
  promotable_map (ordinary f ∷ S) = promotable_map S
  promotable_map (plain_left b ∷ S) = refl
  promotable_map (plain_right b v ∷ S) = promotable_map S
  promotable_map (promoted_left g b ∷ S) = refl
  promotable_map (promoted_right g l b v ∷ S) = refl

  pub length_map : (S : List (Slot Cost Frame Fork)) → length (map_stack h S) ≡ length S
  unfolding map_stack
  length_map [] = refl
  length_map (s ∷ S) = ap suc (length_map S)

  pub promote_map : (g : Cost) (S : List (Slot Cost Frame Fork)) → promote (h g) (map_stack h S) ≡ map_stack h (promote g S)
  unfolding promote map_stack
  promote_map g [] = refl
  promote_map g (ordinary f ∷ S) = rw (promote_map g S)
  promote_map g (plain_left b ∷ S) = on (promote_map g S) (promotable S) refl
    where
      on : promote (h g) (map_stack h S) ≡ map_stack h (promote g S) → (q : Bool) → promotable S ≡ q
          → promote (h g) (map_stack h (plain_left b ∷ S)) ≡ map_stack h (promote g (plain_left b ∷ S))
      on below true e = rw (promotable_map S, e) (cc)
      on below false e = rw (promotable_map S, e) (cc)
  promote_map g (plain_right b v ∷ S) = rw (promote_map g S)
  promote_map g (promoted_left k b ∷ S) = refl
  promote_map g (promoted_right k l b v ∷ S) = refl

module _ (K L : CostAlgebra) (M : FrameMachine) (h : K.Cost → L.Cost) (e : Homomorphism K L h) (fuel frames : ℕ) where
  abbrev O : Type 0
  O = Result K M

  abbrev mapped : O → Result L M
  mapped o = map_outcome h (map_state K L M h) o

  cond_map : (q : Bool) (a b : O) → cond q (mapped a) (mapped b) ≡ mapped (cond q a b)
  cond_map true a b = refl
  cond_map false a b = refl

  fuel_map : (p : Place) (g : K.Cost) (t : RunCounts) (o : O)
      → with_fuel L M fuel frames p (h g) t (mapped o) ≡ mapped (with_fuel K M fuel frames p g t o)
  unfolding with_fuel map_outcome
  fuel_map p g t o = cond_map (ltb t.transitions fuel) o (ended (stop 20 p) g t)

  frame_map : (S : Stack K M) (p : Place) (g : K.Cost) (t : RunCounts) (o : O)
      → with_frame L M fuel frames (map_stack h S) p (h g) t (mapped o) ≡ mapped (with_frame K M fuel frames S p g t o)
  unfolding with_frame map_outcome
  frame_map S p g t o = rw (length_map h S) (cond_map (ltb (length S) frames) o (ended (stop 21 p) g t))

  -- A transition that needs only fuel, and one that also needs a frame.
  transition_map : (p : Place) (c : Control M.Code) (S : Stack K M) (n : ℕ) (g : K.Cost) (t : RunCounts)
      → with_fuel L M fuel frames p (h g) t (ongoing (after_transition L M c (map_stack h S) n (h g) t))
      ≡ mapped (with_fuel K M fuel frames p g t (ongoing (after_transition K M c S n g t)))
  unfolding map_outcome map_state
  transition_map p c S n g t = rw (← e.on_transition g) (fuel_map p g t (ongoing (after_transition K M c S n g t)))

  -- The state after a frame was opened.
  abbrev after_opening : (A : CostAlgebra) → Slot A.Cost M.Frame M.Fork → M.Code → Stack A M → ℕ → A.Cost → RunCounts → State A M
  after_opening A f d S n g t = after_transition A M (evaluate d) (f ∷ S) n g (deeper (length S + 1) t)

  opening_map : (p : Place) (f : Slot K.Cost M.Frame M.Fork) (d : M.Code) (S : Stack K M) (n : ℕ) (g : K.Cost) (t : RunCounts)
      → with_fuel L M fuel frames p (h g) t
      (with_frame L M fuel frames (map_stack h S) p (h g) t (ongoing (after_opening L (map_slot h f) d (map_stack h S) n (h g) t)))
      ≡ mapped (with_fuel K M fuel frames p g t (with_frame K M fuel frames S p g t (ongoing (after_opening K f d S n g t))))
  unfolding map_outcome map_state map_stack
  opening_map p f d S n g t =
      let o : O = ongoing (after_opening K f d S n g t) in
      rw (← e.on_transition g, length_map h S)
      (ap (with_fuel L M fuel frames p (h g) t) (frame_map S p g t o) ∙ fuel_map p g t (with_frame K M fuel frames S p g t o))

  evaluated_map : (born : Bool) (p : Place) (o : Next M.Code M.Frame M.Fork) (S : Stack K M) (n : ℕ) (g : K.Cost) (t : RunCounts)
      → evaluated L M fuel frames born p o (map_stack h S) n (h g) t ≡ mapped (evaluated K M fuel frames born p o S n g t)
  unfolding evaluated map_outcome map_state map_stack
  evaluated_map born p (go_on c) S n g t = transition_map p c S n g t
  evaluated_map born p (open_frame f d) S n g t = opening_map p (ordinary f) d S n g t
  evaluated_map true p (open_fork b d) S n g t =
      let after : L.Cost → State L M
      = λ a. state (evaluate d) (promoted_left (h g) b ∷ map_stack h S) 0 a (deeper (length S + 1) (split t)) in
      rw (length_map h S)
      (ap (λ (a : L.Cost). with_frame L M fuel frames (map_stack h S) p (h g) t (ongoing (after a))) (sym e.on_empty)
      ∙ frame_map S p g t (ongoing (after_fork K M b d S n g t)))
  evaluated_map false p (open_fork b d) S n g t = opening_map p (plain_left b) d S n g t
  evaluated_map born p (stuck i) S n g t = fuel_map p g t (ended (stop i p) g t)

  arrived_map : (p : Place) (o : Arrival M.Code M.Frame) (S : Stack K M) (n : ℕ) (g : K.Cost) (t : RunCounts)
      → arrived L M fuel frames p o (map_stack h S) n (h g) t ≡ mapped (arrived K M fuel frames p o S n g t)
  unfolding arrived map_outcome map_state map_stack
  arrived_map p (close c) S n g t = transition_map p c S n g t
  arrived_map p (keep f d) S n g t = transition_map p (evaluate d) (ordinary f ∷ S) n g t
  arrived_map p (fail i) S n g t = fuel_map p g t (ended (stop i p) g t)

  pub move_map : (born : Bool) (c : Control M.Code) (S : Stack K M) (n : ℕ) (g : K.Cost) (t : RunCounts)
      → move L M fuel frames born (state c (map_stack h S) n (h g) t) ≡ mapped (move K M fuel frames born (state c S n g t))
  unfolding move map_outcome map_state map_stack
  move_map born (evaluate c) S n g t = evaluated_map born (M.code_place c) (M.next c) S n g t
  move_map born (return v) [] n g t = refl
  move_map born (return v) (ordinary f ∷ S) n g t = arrived_map (M.frame_place f) (M.arrive f v) S n g t
  move_map born (return v) (plain_left b ∷ S) n g t = transition_map (M.fork_place b) (evaluate (M.right b)) (plain_right b v ∷ S) n g t
  move_map born (return v) (plain_right b w ∷ S) n g t = transition_map (M.fork_place b) (evaluate (M.body b w v)) S n g t
  move_map born (return v) (promoted_left k b ∷ S) n g t = rw e.on_empty
  move_map born (return v) (promoted_right k l b w ∷ S) n g t = rw (e.on_fork k l g)

  pub step_map : (m : Schedule) (s : State K M) → step L M fuel frames m (map_state K L M h s) ≡ mapped (step K M fuel frames m s)
  unfolding step map_outcome map_state
  step_map m (state c S n g t) =
      let due = promotion_due m n (promotable S) in
      let o : O = move K M fuel frames (promoted_at_birth m) (state c S n g t) in
      rw (promotable_map h S, promote_map h g S, move_map (promoted_at_birth m) c S n g t)
      (ap (λ (a : L.Cost). cond due (ongoing (state c (map_stack h (promote g S)) 0 a (split t))) (mapped o)) (sym e.on_empty)
      ∙ cond_map due (ongoing (after_promotion K M c S n g t)) o)

  pub start_map : (c : M.Code) → map_state K L M h (start K M c) ≡ start L M c
  unfolding start map_state map_stack
  start_map c = rw e.on_empty

pub runs_carried : RunsCarried
unfolding outcome
runs_carried K L h e M fuel frames m c =
    ap (run (step L M fuel frames m) (moves fuel frames)) (sym (start_map K L M h e fuel frames c))
    ∙ run_map h (map_state K L M h) (step K M fuel frames m) (step L M fuel frames m) (step_map K L M h e fuel frames m)
    (moves fuel frames) (start K M c)

-- The run that keeps another cost ends as the run over graphs does, and only so.
module _ (K : CostAlgebra) (h : Graph → K.Cost) (e : Homomorphism graphs K h) (M : FrameMachine) (fuel frames : ℕ) (m : Schedule)
    (c : M.Code) where
  pub cost_ends : (z : Ending) (g : Graph) (t : RunCounts) → outcome graphs M fuel frames m c ≡ ended z g t
      → outcome K M fuel frames m c ≡ ended z (h g) t
  unfolding map_outcome
  cost_ends z g t i = runs_carried graphs K h e M fuel frames m c ∙ rw i

  pub ends_cost : (z : Ending) (a : K.Cost) (t : RunCounts) → outcome K M fuel frames m c ≡ ended z a t
      → (g : Graph) × (outcome graphs M fuel frames m c ≡ ended z g t) × (a ≡ h g)
  unfolding map_outcome
  ends_cost z a t i = on (outcome graphs M fuel frames m c) (sym (runs_carried graphs K h e M fuel frames m c) ∙ i)
    where
      on : (o : Result graphs M) → map_outcome h (map_state graphs K M h) o ≡ ended z a t → (g : Graph) × (o ≡ ended z g t) × (a ≡ h g)
      on (ended y g u) i = let p : y ≡ z = cc in let q : u ≡ t = cc in let d : h g ≡ a = cc in (g, rw (p, q), sym d)
      on (ongoing w) i = let no : ◌≡◌ {A = ℕ} 0 1 = cc in absurd (omega arith)

-- The fold is a homomorphism, and the only one.
pub fold_carried : (K : CostAlgebra) → Homomorphism graphs K (fold K)
unfolding fold
fold_carried K = record { on_empty = refl; on_transition = λ a. refl; on_fork = λ a b c. refl }

pub fold_unique : (K : CostAlgebra) (h : Graph → K.Cost) → Homomorphism graphs K h → (g : Graph) → h g ≡ fold K g
unfolding fold
fold_unique K h e empty = e.on_empty
fold_unique K h e (transition g) = e.on_transition g ∙ ap K.transition (fold_unique K h e g)
fold_unique K h e (fork g l r) = e.on_fork g l r ∙ rw (fold_unique K h e g, fold_unique K h e l, fold_unique K h e r)

pub span_carried : SpanCarried
unfolding span
span_carried τ = record { on_empty = refl; on_transition = λ a. refl; on_fork = λ a b c. omega arith }

-- The run over spans tells the spans of the run over graphs.
pub spans_told : (τ : ℕ) (M : FrameMachine) (fuel frames : ℕ) (m : Schedule) (c : M.Code)
    → outcome (spans τ) M fuel frames m c ≡ map_outcome (span τ) (map_state graphs (spans τ) M (span τ)) (outcome graphs M fuel frames m c)
spans_told τ = runs_carried graphs (spans τ) (span τ) (span_carried τ)
