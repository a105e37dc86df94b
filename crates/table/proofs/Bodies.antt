-- Where the bodies stand, one after the other.
use Prim.Native.Nat.{ℕ, zero, suc, ◌+◌, ◌*◌, ◌-◌, ◌<◌, ◌≤◌}
use mathlib.Core.Path.{◌≡◌}
use mathlib.Core.List.{List}
use native.Mathlib.Omega.{arith}
use native.Mathlib.Numerals.{add-one}
use lib.ListN.{length}
use Rattle.table.specs.Words.{functions, nodes_at, nodes_before, start_of}
use Rattle.table.specs.WellFormed.{Contents}

module _ (w : List ℕ) where
  pub nodes_next : (f : ℕ) → nodes_before w (f + 1) ≡ nodes_before w f + nodes_at w f
  unfolding nodes_before
  nodes_next f = rw (add-one f)

  nodes_rise : (f n : ℕ) → nodes_before w f ≤ nodes_before w (f + n)
  nodes_rise f zero = let e : f ≡ f + 0 = omega arith in rw (← e) (omega arith)
  nodes_rise f (suc n) = let e : f + suc n ≡ f + n + 1 = omega arith in rw (e, nodes_next) (omega (arith, nodes_rise f n))

  -- a later function's body starts no earlier
  pub nodes_mono : (f g : ℕ) → f ≤ g → nodes_before w f ≤ nodes_before w g
  nodes_mono f g h = let e : f + (g - f) ≡ g = omega arith in rw e at (nodes_rise f (g - f))

  -- a body ends within the words
  pub body_inside : Contents w → (f : ℕ) → f < functions w → start_of w f + 4 * nodes_at w f ≤ length w
  body_inside c f h = omega (arith, c.exact, nodes_next f, nodes_mono (f + 1) (functions w) (omega arith))

  -- a node's four words stand within the words
  pub node_inside : Contents w → (f p : ℕ) → f < functions w → p < nodes_at w f → start_of w f + 4 * p + 4 ≤ length w
  node_inside c f p h i = omega (arith, body_inside c f h)
