-- What every stop of a run tells, for any frame machine. Some codes, frames and forks are known, and what is known leads to what is known; then each stop
-- of a run that starts at known code has what `Tells` says of its number and place, its transitions are within the fuel, and they are the fuel where its
-- number is 20.
use Prim.Native.Nat.{ℕ, ◌≤◌, ◌<◌}
use mathlib.Core.Path.{◌≡◌, refl}
use mathlib.Core.Bool.{Bool, true, false, cond}
use mathlib.Core.List.{[], ◌∷◌}
use native.Mathlib.Omega.{arith}
use lib.Dec.{ltb}
use lib.ListN.{length}
use borrow.Author.Tests.{ltb-true, ltb-false}
use Rattle.schedule.specs.Algebra.{CostAlgebra}
use Rattle.schedule.specs.FrameMachine.{Place, Control, evaluate, return, Next, go_on, open_frame, open_fork, stuck, Arrival, close, keep, fail, FrameMachine}
use Rattle.schedule.specs.Machine.{ordinary, plain_left, plain_right, promoted_left, promoted_right, Stack, promotable, promote, Ending, value, stop, RunCounts, State, state, Result, ended, ongoing, Schedule, promoted_at_birth, promotion_due, after_promotion, with_fuel, with_frame, evaluated, arrived, move, step, start}
use Rattle.schedule.specs.Runs.{moves, outcome}
use Rattle.schedule.proofs.Runs.{Kept, keeps}

module _ (M : FrameMachine) (CodeOk : M.Code → Type 0) (FrameOk : M.Frame → Type 0) (ForkOk : M.Fork → Type 0) (Tells : ℕ → Place → Type 0) where
  abbrev pub ControlOk : Control M.Code → Type 0
  ControlOk (evaluate c) = CodeOk c
  ControlOk (return v) = Unit {0}

  -- A stop of the language's own, which is not 20.
  pub record Own (i : ℕ) (p : Place) : Type 0 where
    pub tells : Tells i p
    pub other : i ≡ 20 → ⊥

  abbrev pub NextOk : Place → Next M.Code M.Frame M.Fork → Type 0
  NextOk p (go_on d) = ControlOk d
  NextOk p (open_frame f d) = FrameOk f × CodeOk d
  NextOk p (open_fork b d) = ForkOk b × CodeOk d
  NextOk p (stuck i) = Own i p

  abbrev pub ArrivalOk : Place → Arrival M.Code M.Frame → Type 0
  ArrivalOk p (close d) = ControlOk d
  ArrivalOk p (keep f d) = FrameOk f × CodeOk d
  ArrivalOk p (fail i) = Own i p

  -- What is known leads to what is known, and tells of a stop at its place.
  pub record Leading : Type 0 where
    pub spent_at_code : (c : M.Code) → CodeOk c → Tells 20 (M.code_place c)
    pub spent_at_frame : (f : M.Frame) → FrameOk f → Tells 20 (M.frame_place f)
    pub spent_at_fork : (b : M.Fork) → ForkOk b → Tells 20 (M.fork_place b)
    pub full_at_code : (c : M.Code) → CodeOk c → Tells 21 (M.code_place c)
    pub next : (c : M.Code) → CodeOk c → NextOk (M.code_place c) (M.next c)
    pub arrive : (f : M.Frame) (v : ℕ) → FrameOk f → ArrivalOk (M.frame_place f) (M.arrive f v)
    pub right : (b : M.Fork) → ForkOk b → CodeOk (M.right b)
    pub body : (b : M.Fork) (u w : ℕ) → ForkOk b → CodeOk (M.body b u w)

  -- The end of a run.
  pub record AtStop (fuel i : ℕ) (p : Place) (t : RunCounts) : Type 0 where
    pub tells : Tells i p
    pub within_fuel : t.transitions ≤ fuel
    pub spent : i ≡ 20 → t.transitions ≡ fuel

  module _ (K : CostAlgebra) (fuel frames : ℕ) where
    abbrev StackOk : Stack K M → Type 0
    StackOk [] = Unit {0}
    StackOk (ordinary f ∷ S) = FrameOk f × StackOk S
    StackOk (plain_left b ∷ S) = ForkOk b × StackOk S
    StackOk (plain_right b v ∷ S) = ForkOk b × StackOk S
    StackOk (promoted_left g b ∷ S) = ForkOk b × StackOk S
    StackOk (promoted_right g l b v ∷ S) = ForkOk b × StackOk S

    promote_ok : (g : K.Cost) (S : Stack K M) → StackOk S → StackOk (promote g S)
    unfolding promote
    promote_ok g [] y = y
    promote_ok g (ordinary f ∷ S) y = (y.0, promote_ok g S y.1)
    promote_ok g (plain_left b ∷ S) y = on (promotable S) (promote_ok g S y.1)
      where
        on : (q : Bool) → StackOk (promote g S) → StackOk (cond q (plain_left b ∷ promote g S) (promoted_left g b ∷ S))
        on true z = (y.0, z)
        on false z = y
    promote_ok g (plain_right b v ∷ S) y = (y.0, promote_ok g S y.1)
    promote_ok g (promoted_left h b ∷ S) y = y
    promote_ok g (promoted_right h l b v ∷ S) y = y

    abbrev Inv : State K M → Type 0
    Inv (state c S n g t) = ControlOk c × StackOk S × (t.transitions ≤ fuel)

    abbrev Fin : Ending → K.Cost → RunCounts → Type 0
    Fin (value v) g t = Unit {0}
    Fin (stop i p) g t = AtStop fuel i p t

    -- The end, or the invariant again.
    abbrev Goes : Result K M → Type 0
    Goes o = Kept Inv Fin o

    module _ (known : Leading) where
      fueled : (p : Place) (g : K.Cost) (t : RunCounts) (o : Result K M) → Tells 20 p → t.transitions ≤ fuel → (t.transitions < fuel → Goes o)
          → Goes (with_fuel K M fuel frames p g t o)
      unfolding with_fuel Kept
      fueled p g t o x l f = on (ltb t.transitions fuel) refl
        where
          on : (q : Bool) → ltb t.transitions fuel ≡ q → Goes (cond q o (ended (stop 20 p) g t))
          on true e = f (ltb-true t.transitions fuel e)
          on false e =
              let s = ltb-false t.transitions fuel e in record { tells = x; within_fuel = l; spent = λ z. omega arith }

      framed : (S : Stack K M) (p : Place) (g : K.Cost) (t : RunCounts) (o : Result K M) → Tells 21 p → t.transitions ≤ fuel → Goes o
          → Goes (with_frame K M fuel frames S p g t o)
      unfolding with_frame Kept
      framed S p g t o x l f = on (ltb (length S) frames)
        where
          on : (q : Bool) → Goes (cond q o (ended (stop 21 p) g t))
          on true = f
          on false = record { tells = x; within_fuel = l; spent = λ z. absurd (omega arith) }

      own : {i : ℕ} {p : Place} {t : RunCounts} → Own i p → t.transitions ≤ fuel → AtStop fuel i p t
      own x l = record { tells = x.tells; within_fuel = l; spent = λ e. absurd (x.other e) }

      module _ (n : ℕ) (g : K.Cost) (t : RunCounts) (l : t.transitions ≤ fuel) where
        at_node : (born : Bool) (c : M.Code) (S : Stack K M) → CodeOk c → StackOk S
            → (o : Next M.Code M.Frame M.Fork) → NextOk (M.code_place c) o
            → Goes (evaluated K M fuel frames born (M.code_place c) o S n g t)
        unfolding evaluated Kept
        at_node born c S x y (go_on d) z = fueled _ g t _ (known.spent_at_code c x) l (λ s. (z, y, omega arith))
        at_node born c S x y (open_frame f d) z =
            fueled _ g t _ (known.spent_at_code c x) l
            (λ s. framed S _ g t _ (known.full_at_code c x) l (z.1, (z.0, y), omega arith))
        at_node true c S x y (open_fork b d) z = framed S _ g t _ (known.full_at_code c x) l (z.1, (z.0, y), l)
        at_node false c S x y (open_fork b d) z =
            fueled _ g t _ (known.spent_at_code c x) l
            (λ s. framed S _ g t _ (known.full_at_code c x) l (z.1, (z.0, y), omega arith))
        at_node born c S x y (stuck i) z = fueled _ g t _ (known.spent_at_code c x) l (λ s. own z l)

        at_frame : (f : M.Frame) (S : Stack K M) → FrameOk f → StackOk S → (o : Arrival M.Code M.Frame)
            → ArrivalOk (M.frame_place f) o → Goes (arrived K M fuel frames (M.frame_place f) o S n g t)
        unfolding arrived Kept
        at_frame f S x y (close d) z = fueled _ g t _ (known.spent_at_frame f x) l (λ s. (z, y, omega arith))
        at_frame f S x y (keep e d) z = fueled _ g t _ (known.spent_at_frame f x) l (λ s. (z.1, (z.0, y), omega arith))
        at_frame f S x y (fail i) z = fueled _ g t _ (known.spent_at_frame f x) l (λ s. own z l)

        moved : (born : Bool) (c : Control M.Code) (S : Stack K M) → ControlOk c → StackOk S → Goes (move K M fuel frames born (state c S n g t))
        unfolding move Kept
        moved born (evaluate c) S x y = at_node born c S x y (M.next c) (known.next c x)
        moved born (return v) [] x y = tt
        moved born (return v) (ordinary f ∷ S) x y = at_frame f S y.0 y.1 (M.arrive f v) (known.arrive f v y.0)
        moved born (return v) (plain_left b ∷ S) x y =
            fueled _ g t _ (known.spent_at_fork b y.0) l (λ s. (known.right b y.0, (y.0, y.1), omega arith))
        moved born (return v) (plain_right b w ∷ S) x y =
            fueled _ g t _ (known.spent_at_fork b y.0) l (λ s. (known.body b w v y.0, y.1, omega arith))
        moved born (return v) (promoted_left h b ∷ S) x y = (known.right b y.0, (y.0, y.1), l)
        moved born (return v) (promoted_right h k b w ∷ S) x y = (known.body b w v y.0, y.1, l)

      stepped : (m : Schedule) (s : State K M) → Inv s → Goes (step K M fuel frames m s)
      unfolding step Kept
      stepped m (state c S n g t) i = on (promotion_due m n (promotable S))
        where
          on : (q : Bool) → Goes (cond q (ongoing (after_promotion K M c S n g t)) (move K M fuel frames (promoted_at_birth m) (state c S n g t)))
          on true = (i.0, promote_ok g S i.1, i.2)
          on false = moved n g t i.2 (promoted_at_birth m) c S i.0 i.1

      -- The stop of a run from known code.
      pub told : (m : Schedule) (c : M.Code) → CodeOk c → (i : ℕ) (p : Place) (g : K.Cost) (t : RunCounts)
          → outcome K M fuel frames m c ≡ ended (stop i p) g t → AtStop fuel i p t
      unfolding outcome start Kept
      told m c x i p g t e = rw e at (keeps (step K M fuel frames m) Inv Fin (stepped m) (moves fuel frames) (start K M c) (x, tt, omega arith))
