-- Where the oldest plain fork that awaits its left is, after one frame more, or after the newest was changed or closed.
--     oldest_other, oldest_with_lem    one frame more: no such fork, or one
--     oldest_under, oldest_without_lem  one frame less: no such fork, or any
--     without_none                     where there was none there is none
use Prim.Native.Nat.{ℕ, ◌+◌, ◌*◌, ◌<◌, ◌≤◌}
use mathlib.Core.Path.{◌≡◌, refl, sym, ◌∙◌}
use mathlib.Core.List.{List}
use mathlib.Core.Bool.{Bool, true, false, cond}
use native.Mathlib.Omega.{arith}
use native.Mathlib.Decide.{dec_lt}
use lib.ListN.{take}
use lib.Dec.{eqb}
use borrow.Author.Tests.{lt-ltb, le-ltb, eq-eqb, ne_eqb}
use Rattle.frames.specs.Frames.{frame_kind}
use Rattle.frames.proofs.Words.{same_word}
use Rattle.moves.specs.Layout.{oldest_with, oldest_without}
use Rattle.moves.specs.Ready.{Oldest}

module _ (ws ws' : List ℕ) (d : ℕ) (e : take (32 * d) ws ≡ take (32 * d) ws') where
  kind_same : (j : ℕ) → j < d → frame_kind ws' (32 * j) ≡ frame_kind ws (32 * j)
  kind_same j h = sym (same_word ws ws' (32 * d) e (32 * j) (omega arith))

  below_more : (o : ℕ) → ((j : ℕ) → j < d → j < o → frame_kind ws (32 * j) ≡ 5 → ⊥) → (d < o → frame_kind ws' (32 * d) ≡ 5 → ⊥)
      → (j : ℕ) → j < d + 1 → j < o → frame_kind ws' (32 * j) ≡ 5 → ⊥
  below_more o b n j h g x = at (dec_lt j d)
    where
      at : Dec (j < d) → ⊥
      at (yes l) = b j l g (sym (kind_same j l) ∙ x)
      at (no l) = let y : j ≡ d = omega arith in n (omega arith) (rw y at x)

  past_more : (o : ℕ) → ((j : ℕ) → j < d → 7 ≤ frame_kind ws (32 * j) → j < o) → (7 ≤ frame_kind ws' (32 * d) → d < o)
      → (j : ℕ) → j < d + 1 → 7 ≤ frame_kind ws' (32 * j) → j < o
  past_more o b n j h x = at (dec_lt j d)
    where
      at : Dec (j < d) → j < o
      at (yes l) = b j l (omega (arith, kind_same j l))
      at (no l) = let y : j ≡ d = omega arith in rw y (n (rw y at x))

  -- the newest is no plain fork that awaits its left
  pub oldest_other : (o : ℕ) → d < 4096 → Oldest ws d o → (frame_kind ws' (32 * d) ≡ 5 → ⊥) → (7 ≤ frame_kind ws' (32 * d) → d < o) → Oldest ws' (d + 1) o
  oldest_other o h r n p = record {
    below = below_more o r.below (λ g. n);
    is = λ g. at g (dec_lt o d);
    none = λ g. r.none (omega arith);
    past = past_more o r.past p;
  }
    where
      at : o < d + 1 → Dec (o < d) → frame_kind ws' (32 * o) ≡ 5
      at g (yes l) = kind_same o l ∙ r.is l
      at g (no l) = absurd (omega (arith, r.none (omega arith)))

  -- the newest is one
  pub oldest_with_lem : (o : ℕ) → Oldest ws d o → frame_kind ws' (32 * d) ≡ 5 → Oldest ws' (d + 1) (oldest_with o d)
  oldest_with_lem o r n = at (dec_lt o d)
    where
      at : Dec (o < d) → Oldest ws' (d + 1) (oldest_with o d)
      at (yes l) = rw (lt-ltb o d l) (record {
        below = below_more o r.below (λ g. absurd (omega arith));
        is = λ g. kind_same o l ∙ r.is l;
        none = λ g. absurd (omega arith);
        past = past_more o r.past (λ g. absurd (omega arith));
      })
      at (no l) = let m : d ≤ o = omega arith in rw (le-ltb o d m) (record {
        below = below_more d (λ j a b. r.below j a (omega arith)) (λ g. absurd (omega arith));
        is = λ g. n;
        none = λ g. absurd (omega arith);
        past = past_more d (λ j a b. a) (λ g. absurd (omega arith));
      })

-- below the newest, which is none
pub oldest_under : (ws : List ℕ) (d o : ℕ) → Oldest ws (d + 1) o → (frame_kind ws (32 * d) ≡ 5 → ⊥) → Oldest ws d o
oldest_under ws d o r n = record {
  below = λ j a b. r.below j (omega arith) b;
  is = λ g. r.is (omega arith);
  none = λ g. at g (dec_lt o (d + 1));
  past = λ j a b. r.past j (omega arith) b;
}
  where
    at : d ≤ o → Dec (o < d + 1) → o ≡ 4096
    at g (yes l) = let y : o ≡ d = omega arith in absurd (n (rw y at (r.is l)))
    at g (no l) = r.none (omega arith)

-- below the newest, which may be one
pub oldest_without_lem : (ws : List ℕ) (d o : ℕ) → d < 4096 → Oldest ws (d + 1) o → Oldest ws d (oldest_without o d)
oldest_without_lem ws d o h r = at (dec_lt o d) (dec_lt d o)
  where
    at : Dec (o < d) → Dec (d < o) → Oldest ws d (oldest_without o d)
    at (yes l) m = rw (ne_eqb o d (omega arith)) (record {
      below = λ j a b. r.below j (omega arith) b;
      is = λ g. r.is (omega arith);
      none = λ g. absurd (omega arith);
      past = λ j a b. r.past j (omega arith) b;
    })
    at (no l) (yes m) = rw (ne_eqb o d (omega arith)) (record {
      below = λ j a b. r.below j (omega arith) b;
      is = λ g. absurd (omega arith);
      none = λ g. r.none (omega arith);
      past = λ j a b. r.past j (omega arith) b;
    })
    at (no l) (no m) = let y : o ≡ d = omega arith in rw (eq-eqb o d y) (record {
      below = λ j a b. r.below j (omega arith) (omega arith);
      is = λ g. absurd (omega arith);
      none = λ g. refl;
      past = λ j a b. omega arith;
    })

pub without_none : (o t : ℕ) → o ≡ 4096 → oldest_without o t ≡ 4096
without_none o t e = at (eqb o t)
  where
    at : (q : Bool) → cond q 4096 o ≡ 4096
    at true = refl
    at false = e
