-- The kinds of frames and their words.
use Prim.Native.Nat.{ℕ, zero, suc, ◌+◌, ◌<◌, ◌≤◌}
use mathlib.Core.Path.{◌≡◌, refl, sym, ap, ◌∙◌}
use native.Mathlib.Decide.{ℕ_discrete}
use native.Mathlib.Omega.{arith}
use lib.ListN.{get_or-eq_default}
use Rattle.moves.specs.declared.kind.Kind.{Kind}
use Rattle.moves.specs.declared.kind.Kind.TheVariants.{LeftOperand, RightOperand, Condition, Binding, Argument, PlainLeft, PlainRight, PromotedLeft, PromotedRight}
use Rattle.moves.specs.Layout.{word_of, kinds, kind_of}

-- the words from 8 on
pub late_kind : {word : ℕ} → 8 ≤ word → kind_of word ≡ PromotedRight
unfolding kind_of
late_kind h = get_or-eq_default kinds PromotedRight h

-- a kind that was told is the word's, or the word is from 8 on
data Told (word : ℕ) : Type 0 where
  early : word ≡ word_of (kind_of word) → word < 8 → Told word
  late : 8 ≤ word → Told word

told : (word : ℕ) → Told word
unfolding kind_of
told zero = early refl (omega arith)
told (suc zero) = early refl (omega arith)
told (suc (suc zero)) = early refl (omega arith)
told (suc (suc (suc zero))) = early refl (omega arith)
told (suc (suc (suc (suc zero)))) = early refl (omega arith)
told (suc (suc (suc (suc (suc zero))))) = early refl (omega arith)
told (suc (suc (suc (suc (suc (suc zero)))))) = early refl (omega arith)
told (suc (suc (suc (suc (suc (suc (suc zero))))))) = early refl (omega arith)
told (suc (suc (suc (suc (suc (suc (suc (suc k)))))))) = late (omega arith)

-- the kinds of frames that are not promoted
paid_word : (kind : Kind) → (kind ≡ PromotedLeft → ⊥) → (kind ≡ PromotedRight → ⊥) → word_of kind < 7
paid_word LeftOperand a b = omega arith
paid_word RightOperand a b = omega arith
paid_word Condition a b = omega arith
paid_word Binding a b = omega arith
paid_word Argument a b = omega arith
paid_word PlainLeft a b = omega arith
paid_word PlainRight a b = omega arith
paid_word PromotedLeft a b = absurd (a refl)
paid_word PromotedRight a b = absurd (b refl)

-- the word, by the kind r that was read
module _ {word : ℕ} {r : Kind} (e : r ≡ kind_of word) where
  pub word_told : {kind : Kind} → r ≡ kind → (kind ≡ PromotedRight → ⊥) → word ≡ word_of kind
  word_told {kind} is n = on (told word)
    where
      on : Told word → word ≡ word_of kind
      on (early w h) = w ∙ ap word_of (sym e ∙ is)
      on (late h) = absurd (n (sym is ∙ e ∙ late_kind h))

  pub late_told : r ≡ PromotedRight → 8 ≤ word
  late_told is = on (told word)
    where
      on : Told word → 8 ≤ word
      on (early w h) = omega (arith, w ∙ ap word_of (sym e ∙ is))
      on (late h) = h

  -- a frame that is not promoted
  pub paid_told : (r ≡ PromotedLeft → ⊥) → (r ≡ PromotedRight → ⊥) → word < 7
  paid_told a b = let x = word_told refl b in omega (arith, x, paid_word r a b)

-- a plain fork that awaits its left
pub plain_told : {word : ℕ} → kind_of word ≡ PlainLeft → word ≡ 5
plain_told e = word_told refl e (λ i. cc)

pub plain_tells : {word : ℕ} → (kind_of word ≡ PlainLeft → ⊥) → word ≡ 5 → ⊥
unfolding kind_of
plain_tells n e = n (rw e refl)

-- no plain fork so far, and none at the next place
pub none_more : {P : ℕ → Type 0} {from i : ℕ} → ((j : ℕ) → from ≤ j → j < i → P j → ⊥) → (P i → ⊥) → (j : ℕ) → from ≤ j → j < i + 1 → P j → ⊥
none_more {P} {from} {i} before here j a b p = on (ℕ_discrete j i)
  where
    on : Dec (j ≡ i) → ⊥
    on (yes e) = here (rw e at p)
    on (no n) = before j a (omega (arith, n)) p

-- the last of the kinds that are not promoted
low_kinds : (n : ℕ) → (n ≡ 0 → ⊥) → (n ≡ 1 → ⊥) → (n ≡ 2 → ⊥) → 3 ≤ n
low_kinds n n0 n1 n2 = omega arith

high_kinds : (n : ℕ) → 3 ≤ n → (n ≡ 3 → ⊥) → (n ≡ 4 → ⊥) → (n ≡ 5 → ⊥) → n < 7 → n ≡ 6
high_kinds n h n3 n4 n5 l = omega arith

pub last_kind : (n : ℕ) → (n ≡ 0 → ⊥) → (n ≡ 1 → ⊥) → (n ≡ 2 → ⊥) → (n ≡ 3 → ⊥) → (n ≡ 4 → ⊥) → (n ≡ 5 → ⊥) → n < 7 → n ≡ 6
last_kind n n0 n1 n2 n3 n4 n5 l = high_kinds n (low_kinds n n0 n1 n2) n3 n4 n5 l

-- by the kind
pub last_paid : (kind : Kind) → (kind ≡ LeftOperand → ⊥) → (kind ≡ RightOperand → ⊥) → (kind ≡ Condition → ⊥) → (kind ≡ Binding → ⊥) → (kind ≡ Argument → ⊥) → (kind ≡ PlainLeft → ⊥) → word_of kind < 7
    → kind ≡ PlainRight
last_paid LeftOperand n0 n1 n2 n3 n4 n5 h = absurd (n0 refl)
last_paid RightOperand n0 n1 n2 n3 n4 n5 h = absurd (n1 refl)
last_paid Condition n0 n1 n2 n3 n4 n5 h = absurd (n2 refl)
last_paid Binding n0 n1 n2 n3 n4 n5 h = absurd (n3 refl)
last_paid Argument n0 n1 n2 n3 n4 n5 h = absurd (n4 refl)
last_paid PlainLeft n0 n1 n2 n3 n4 n5 h = absurd (n5 refl)
last_paid PlainRight n0 n1 n2 n3 n4 n5 h = refl
last_paid PromotedLeft n0 n1 n2 n3 n4 n5 h = absurd (omega arith)
last_paid PromotedRight n0 n1 n2 n3 n4 n5 h = absurd (omega arith)

pub last_promoted : (kind : Kind) → 7 ≤ word_of kind → (kind ≡ PromotedLeft → ⊥) → kind ≡ PromotedRight
last_promoted LeftOperand h n = absurd (omega arith)
last_promoted RightOperand h n = absurd (omega arith)
last_promoted Condition h n = absurd (omega arith)
last_promoted Binding h n = absurd (omega arith)
last_promoted Argument h n = absurd (omega arith)
last_promoted PlainLeft h n = absurd (omega arith)
last_promoted PlainRight h n = absurd (omega arith)
last_promoted PromotedLeft h n = absurd (n refl)
last_promoted PromotedRight h n = refl
