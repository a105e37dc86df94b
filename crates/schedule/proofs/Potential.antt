-- THE POTENTIAL, by which the span bound is proved: a number for each moment of a heartbeat run, of what its graph has cost so far and of what
-- is still to come, as the sequential run beside it foretells (ToCome.antt). A unit of span that was made counts τ, and a unit of parallel
-- span to come counts N + τ. At the start that is (N + τ) · parallel span, at the end it is τ · heartbeat span, and no step raises it. Why not:
--  * Where no frame can be promoted, a transition turns N + τ to come into τ made.
--  * Where one can, the transition may lie in the shorter branch of a plain fork, so that nothing to come pays for it. It is paid by its
--    credit: what the machine has in hand, τ for each credit up to N, is taken off the sum.
--  * A plain fork counts (N + τ) · τ. Of this, N · τ makes up for the credits that a promotion gives up, and τ · τ is what the promotion adds to
--    the graph. Where the fork turns and joins with no promotion, the same pays for those two transitions and for fewer than N credits.
--  * A promoted fork counts the larger of its branches. Each machine keeps a cost of its own, so what was made, what is to come and what is in
--    hand are summed only where a level of the stack ends.
--  * At a join the fork's cost passes from what is to come to what was made. Below a plain fork that would take it out of a maximum, and the
--    sum could rise. It never lies there, since every plain frame lies above the newest promoted one: the OLDEST is promoted.
-- For the parallel run, with a unit of 1 and nothing in hand, no step changes the sum at all. So what is foretold is the parallel span.
use Prim.Native.Nat.{ℕ, ◌+◌, ◌*◌, ◌-◌, ◌≤◌, ◌<◌, max}
use mathlib.Core.Path.{◌≡◌, refl, sym}
use mathlib.Core.Bool.{Bool, true, false, cond, true≢false}
use mathlib.Core.List.{List, [], ◌∷◌}
use native.Mathlib.Nat.{mul-add, add-mul, mul_comm, mul-le-mul_left, max-eq_left, max-eq_right, le_trans}
use native.Mathlib.Decide.{dec_le}
use native.Mathlib.Omega.{arith}
use Rattle.schedule.specs.Graph.{Graph, empty, transition, span}
use Rattle.schedule.specs.Machine.{Slot, ordinary, plain_left, plain_right, promoted_left, promoted_right, promotable, promote}
use Rattle.schedule.proofs.ToCome.{Ahead, at_fork, right_span, after_span, older}

-- u: what a unit of span that was made counts. w: what one of parallel span to come counts. a: what a plain fork counts.
-- p: in hand. c: what the graph of the running machine has cost. x: what it will still cost. A level of the stack ends at a promoted frame,
-- or at the bottom.
module _ (τ u w a : ℕ) where
  -- Over a plain fork that awaits its left: its larger branch, and what follows its join.
  abbrev pub over_fork : ℕ → Ahead → ℕ
  over_fork x A = a + max x (w * right_span A) + w * after_span A

  unfoldable pub Φ : {Frame Fork : Type 0} → ℕ → ℕ → ℕ → List (Slot Graph Frame Fork) → Ahead → ℕ
  Φ p c x [] A = c + x - p
  Φ p c x (ordinary f ∷ S) A = Φ p c x S A
  Φ p c x (plain_left b ∷ S) A = Φ p c (over_fork x A) S (older A)
  Φ p c x (plain_right b v ∷ S) A = Φ p c (u + x + w * after_span A) S (older A)
  Φ p c x (promoted_left g b ∷ S) A = Φ 0 (u * span τ g) (u * τ + max (c + x - p) (w * right_span A) + w * after_span A) S (older A)
  Φ p c x (promoted_right g l b v ∷ S) A = Φ 0 (u * span τ g) (u * τ + max (u * span τ l) (c + x - p) + w * after_span A) S (older A)

  -- It is monotone in what is to come, and apart from that in what was made less what is in hand: under a plain fork the one does not pay for the
  -- other.
  pub Φ-mono : {Frame Fork : Type 0} (p c x p' c' x' : ℕ) (S : List (Slot Graph Frame Fork)) (A : Ahead)
      → x ≤ x' → c + p' ≤ c' + p → Φ p c x S A ≤ Φ p' c' x' S A
  unfolding Φ
  Φ-mono p c x p' c' x' [] A h k = omega arith
  Φ-mono p c x p' c' x' (ordinary f ∷ S) A h k = Φ-mono p c x p' c' x' S A h k
  Φ-mono p c x p' c' x' (plain_left b ∷ S) A h k = Φ-mono p c _ p' c' _ S (older A) (omega arith) k
  Φ-mono p c x p' c' x' (plain_right b v ∷ S) A h k = Φ-mono p c _ p' c' _ S (older A) (omega arith) k
  Φ-mono p c x p' c' x' (promoted_left g b ∷ S) A h k =
      Φ-mono 0 (u * span τ g) _ 0 (u * span τ g) _ S (older A) (omega arith) (omega arith)
  Φ-mono p c x p' c' x' (promoted_right g l b v ∷ S) A h k =
      Φ-mono 0 (u * span τ g) _ 0 (u * span τ g) _ S (older A) (omega arith) (omega arith)

  -- Where nothing can be promoted only the sum c + x - p counts.
  pub Φ-level : {Frame Fork : Type 0} (p c x p' c' x' : ℕ) (S : List (Slot Graph Frame Fork)) (A : Ahead)
      → promotable S ≡ false → c + x + p' ≤ c' + x' + p → Φ p c x S A ≤ Φ p' c' x' S A
  unfolding Φ promotable
  Φ-level p c x p' c' x' [] A e h = omega arith
  Φ-level p c x p' c' x' (ordinary f ∷ S) A e h = Φ-level p c x p' c' x' S A e h
  Φ-level p c x p' c' x' (plain_left b ∷ S) A e h = absurd (true≢false e)
  Φ-level p c x p' c' x' (plain_right b v ∷ S) A e h =
      Φ-level p c (u + x + w * after_span A) p' c' (u + x' + w * after_span A) S (older A) e (omega arith)
  Φ-level p c x p' c' x' (promoted_left g b ∷ S) A e h =
      Φ-mono 0 (u * span τ g) _ 0 (u * span τ g) _ S (older A) (omega arith) (omega arith)
  Φ-level p c x p' c' x' (promoted_right g l b v ∷ S) A e h =
      Φ-mono 0 (u * span τ g) _ 0 (u * span τ g) _ S (older A) (omega arith) (omega arith)

  -- A promotion of the oldest plain frame.
  pub Φ-promote : {Frame Fork : Type 0} (p x : ℕ) (g : Graph) (S : List (Slot Graph Frame Fork)) (A : Ahead)
      → u * τ + p ≤ a → promotable S ≡ true → Φ 0 0 x (promote g S) A ≤ Φ p (u * span τ g) x S A
  unfolding Φ promotable promote
  Φ-promote p x g [] A h e = absurd (true≢false (sym e))
  Φ-promote p x g (ordinary f ∷ S) A h e = Φ-promote p x g S A h e
  Φ-promote p x g (plain_left b ∷ S) A h e = on (Φ-promote p (over_fork x A) g S (older A) h) (promotable S) refl
    where
      on : (promotable S ≡ true → Φ 0 0 (over_fork x A) (promote g S) (older A) ≤ Φ p (u * span τ g) (over_fork x A) S (older A))
          → (q : Bool) → promotable S ≡ q
          → Φ 0 0 x (promote g (plain_left b ∷ S)) A ≤ Φ p (u * span τ g) (over_fork x A) S (older A)
      on below true q = rw q (below q)
      on below false q = rw q (Φ-level 0 (u * span τ g) _ p (u * span τ g) _ S (older A) q (omega arith))
  Φ-promote p x g (plain_right b v ∷ S) A h e = Φ-promote p _ g S (older A) h e
  Φ-promote p x g (promoted_left k b ∷ S) A h e = absurd (true≢false (sym e))
  Φ-promote p x g (promoted_right k l b v ∷ S) A h e = absurd (true≢false (sym e))

pub mul_max : (m a b : ℕ) → m * max a b ≡ max (m * a) (m * b)
mul_max m a b = on (dec_le a b)
  where
    on : Dec (a ≤ b) → m * max a b ≡ max (m * a) (m * b)
    on (yes h) = let k : m * a ≤ m * b = mul-le-mul_left m h in rw (max-eq_right {n = a} {m = b}, max-eq_right)
    on (no h) = let u : b ≤ a = omega arith in let k : m * b ≤ m * a = mul-le-mul_left m u in rw (max-eq_left {n = a} {m = b}, max-eq_left)

-- A number times a fork's span.
pub mul_fork : (m τ x r y : ℕ) → m * (τ + max x r + y) ≡ m * τ + max (m * x) (m * r) + m * y
mul_fork m τ x r y = omega (arith, mul-add m (τ + max x r) y, mul-add m τ (max x r), mul_max m x r)

-- The heartbeat's. a: the transitions in hand, at most G, while a promotion is open to the machine. For the plain heartbeat G is N and a the
-- credits, up to N; a runtime whose promotions come late has a larger G.
abbrev pub Ψ : {Frame Fork : Type 0} → ℕ → ℕ → ℕ → Graph → ℕ → List (Slot Graph Frame Fork) → Ahead → ℕ
Ψ τ G a g x S A = Φ τ τ (G + τ) ((G + τ) * τ) (cond (promotable S) (τ * a) 0) (τ * span τ g) ((G + τ) * x) S A

module _ (τ G : ℕ) (τ-positive : 1 ≤ τ) where
  abbrev mono : {Frame Fork : Type 0} (p c x p' c' x' : ℕ) (S : List (Slot Graph Frame Fork)) (A : Ahead) → x ≤ x'
      → c + p' ≤ c' + p
      → Φ τ τ (G + τ) ((G + τ) * τ) p c x S A ≤ Φ τ τ (G + τ) ((G + τ) * τ) p' c' x' S A
  mono = Φ-mono τ τ (G + τ) ((G + τ) * τ)

  abbrev level : {Frame Fork : Type 0} (p c x p' c' x' : ℕ) (S : List (Slot Graph Frame Fork)) (A : Ahead) → promotable S ≡ false
      → c + x + p' ≤ c' + x' + p
      → Φ τ τ (G + τ) ((G + τ) * τ) p c x S A ≤ Φ τ τ (G + τ) ((G + τ) * τ) p' c' x' S A
  level = Φ-level τ τ (G + τ) ((G + τ) * τ)

  one_more_in_hand : (a a' : ℕ) → a' ≡ a + 1 → τ * a' ≡ τ * a + τ
  one_more_in_hand a a' e = rw e (omega (arith, mul-add τ a 1))

  some_in_hand : (a : ℕ) → 1 ≤ a → τ ≤ τ * a
  some_in_hand a h = omega (arith, mul-le-mul_left τ h)

  fork_pays : (a : ℕ) → a < G → τ * a + τ + τ ≤ (G + τ) * τ
  fork_pays a h =
      let k : a + 1 ≤ G = omega arith in
      omega (arith, mul-le-mul_left τ k, mul-add τ a 1, add-mul G τ τ, mul_comm G τ, mul-le-mul_left τ τ-positive)

  module _ {Frame Fork : Type 0} (a a' : ℕ) where
    -- A transition at ordinary frames.
    pub Ψ-transition : (x : ℕ) (g : Graph) (S : List (Slot Graph Frame Fork)) (A : Ahead) → (promotable S ≡ true → a' ≡ a + 1)
        → Ψ τ G a' (transition g) x S A ≤ Ψ τ G a g (x + 1) S A
    unfolding span
    Ψ-transition x g S A h = on (promotable S) refl
      where
        on : (q : Bool) → promotable S ≡ q → Ψ τ G a' (transition g) x S A ≤ Ψ τ G a g (x + 1) S A
        on true e =
            rw e (mono _ _ _ _ _ _ S A (omega (arith, mul-add (G + τ) x 1)) (omega (arith, one_more_in_hand a a' (h e), mul-add τ (span τ g) 1)))
        on false e = rw e (level _ _ _ _ _ _ S A e (omega (arith, mul-add (G + τ) x 1, mul-add τ (span τ g) 1)))

    -- A plain fork opens.
    pub Ψ-fork : (x : ℕ) (g : Graph) (b : Fork) (S : List (Slot Graph Frame Fork)) (A : Ahead) → (promotable S ≡ true → a' ≡ a + 1) → 1 ≤ a'
        → Ψ τ G a' (transition g) x (plain_left b ∷ S) A ≤ Ψ τ G a g (τ + max x (right_span A) + after_span A) S (older A)
    unfolding span Φ promotable
    Ψ-fork x g b S A h some =
        mono _ _ _ _ _ _ S (older A) (omega (arith, mul_fork (G + τ) τ x (right_span A) (after_span A))) (on (promotable S) refl)
      where
        on : (q : Bool) → promotable S ≡ q → τ * (span τ g + 1) + cond (promotable S) (τ * a) 0 ≤ τ * span τ g + τ * a'
        on true e = rw e (omega (arith, one_more_in_hand a a' (h e), mul-add τ (span τ g) 1))
        on false e = rw e (omega (arith, some_in_hand a' some, mul-add τ (span τ g) 1))

    -- A plain fork turns from left to right.
    pub Ψ-turn : (x v : ℕ) (g : Graph) (b : Fork) (S : List (Slot Graph Frame Fork)) (A : Ahead) → (promotable S ≡ true → a' ≡ a + 1)
        → a < G
        → Ψ τ G a' (transition g) x (plain_right b v ∷ S) A ≤ Ψ τ G a g 0 (plain_left b ∷ S) (at_fork x (after_span A) (older A))
    unfolding span Φ promotable
    Ψ-turn x v g b S A h l = on (promotable S) refl
      where
        on : (q : Bool) → promotable S ≡ q
            → Ψ τ G a' (transition g) x (plain_right b v ∷ S) A ≤ Ψ τ G a g 0 (plain_left b ∷ S) (at_fork x (after_span A) (older A))
        on true e =
            rw e (mono _ _ _ _ _ _ S (older A) (omega (arith, fork_pays a l)) (omega (arith, one_more_in_hand a a' (h e), mul-add τ (span τ g) 1)))
        on false e = rw e (level _ _ _ _ _ _ S (older A) e (omega (arith, fork_pays a l, mul-add τ (span τ g) 1)))

    -- A plain fork joins.
    pub Ψ-join : (x v : ℕ) (g : Graph) (b : Fork) (S : List (Slot Graph Frame Fork)) (A : Ahead) → (promotable S ≡ true → a' ≡ a + 1)
        → Ψ τ G a' (transition g) x S A ≤ Ψ τ G a g 0 (plain_right b v ∷ S) (at_fork 0 x A)
    unfolding span Φ promotable
    Ψ-join x v g b S A h = on (promotable S) refl
      where
        on : (q : Bool) → promotable S ≡ q → Ψ τ G a' (transition g) x S A ≤ Ψ τ G a g 0 (plain_right b v ∷ S) (at_fork 0 x A)
        on true e = rw e (mono _ _ _ _ _ _ S A (omega arith) (omega (arith, one_more_in_hand a a' (h e), mul-add τ (span τ g) 1)))
        on false e = rw e (level _ _ _ _ _ _ S A e (omega (arith, mul-add τ (span τ g) 1)))

    -- The left arrives at a promoted fork.
    pub Ψ-free-turn : (x v : ℕ) (g h : Graph) (b : Fork) (S : List (Slot Graph Frame Fork)) (A : Ahead)
        → Ψ τ G a' empty x (promoted_right h g b v ∷ S) A ≤ Ψ τ G a g 0 (promoted_left h b ∷ S) (at_fork x (after_span A) (older A))
    unfolding span Φ promotable
    Ψ-free-turn x v g h b S A = mono _ _ _ _ _ _ S (older A) (omega arith) (omega arith)

    -- The right arrives at a promoted fork, below which nothing can be promoted. j: the graph after the join.
    pub Ψ-free-join : (x v : ℕ) (g h l j : Graph) (b : Fork) (S : List (Slot Graph Frame Fork)) (A : Ahead) → promotable S ≡ false
        → span τ j ≤ span τ h + (τ + max (span τ l) (span τ g))
        → Ψ τ G a' j x S A ≤ Ψ τ G a g 0 (promoted_right h l b v ∷ S) (at_fork 0 x A)
    unfolding Φ promotable
    Ψ-free-join x v g h l j b S A e most = rw e (level _ _ _ _ _ _ S A e
        (omega (arith, mul-le-mul_left τ most, mul-add τ (span τ h) (τ + max (span τ l) (span τ g)), mul_fork τ τ (span τ l) (span τ g) 0)))

    -- A promotion, with at most G in hand.
    pub Ψ-promote : (x : ℕ) (g : Graph) (S : List (Slot Graph Frame Fork)) (A : Ahead) → promotable S ≡ true → a ≤ G
        → Ψ τ G a' empty x (promote g S) A ≤ Ψ τ G a g x S A
    unfolding span
    Ψ-promote x g S A e h = rw e (le_trans
        (mono _ _ _ 0 0 _ (promote g S) A (omega arith) (omega arith))
        (Φ-promote τ τ (G + τ) ((G + τ) * τ) _ _ g S A (omega (arith, mul-le-mul_left τ h, add-mul G τ τ, mul_comm G τ)) e))
