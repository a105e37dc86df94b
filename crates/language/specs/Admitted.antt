-- What the check assures of an input that it accepts: all that a machine knows of its input.
use Rattle.std.specs.Prelude.{ℕ, ◌*◌, ◌≤◌, ◌≡◌, List}
use Rattle.table.specs.Words.{arity_at}
use Rattle.table.specs.WellFormed.{WellFormed}
use Rattle.language.specs.Checks.{frames_in}

-- n is low to high
pub record Within (low high n : ℕ) : Type 0 where
  pub least : low ≤ n
  pub most : n ≤ high

-- Not refused: the table is well-formed, the arguments are as many as the entry takes, and fuel F, N, τ and a workspace of W words are in
-- their ranges.
pub record Admitted (w : List ℕ) (count F N τ W : ℕ) : Type 0 where
  pub table : WellFormed w
  pub arguments : count ≡ arity_at w 0
  pub fuel : Within 1 100000000 F
  pub period : Within 1 10000 N
  pub tau : Within 1 10000 τ
  pub whole : W ≡ 32 * frames_in W
  pub frames : Within 1 4096 (frames_in W)
