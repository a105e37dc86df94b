-- THE HOUSE DEFAULT: "fuel 1,000,000, .. τ 50" (01, "The report program"), and N by the τ in use (02, P2), with what that N buys and which τ
-- it serves. Both theorems are proved in proofs/House.antt.
use Rattle.std.specs.Prelude.{ℕ, ◌*◌, ◌≤◌, ◌<◌, ◌≡◌, List}
use Rattle.table.specs.Read.{refused, ◌then◌, read_of}
use Rattle.language.specs.declared.Counts.{Counts}
use Rattle.language.specs.declared.Answer.{Answer}
use Rattle.language.specs.declared.Answer.TheVariants.{Value}
use Rattle.language.specs.declared.Settings.{Settings}
use Rattle.language.specs.Checks.{arguments_of, fuel_of, checked_of}
use Rattle.language.specs.Answers.{sequential_of, heartbeat_of}

-- "0 for N shall mean 20 times the τ in use"
abbrev pub house_period : ℕ → ℕ
house_period τ = 20 * τ

-- the default settings beside a τ in use
pub record House (τ : ℕ) (s : Settings) : Type 0 where
  pub fuel : s.fuel.0 ≡ 1000000
  pub period : s.period ≡ house_period τ
  pub tau : s.tau ≡ τ

-- beside a sequential answer with value v and counts a: the heartbeat has the same value, with counts h, and its overhead, the work above
-- the sequential work, is "at most 5 percent of sequential work"
pub record WithinFivePercent (v : ℕ) (a : Counts) (heartbeat : Answer) : Type 0 where
  pub h : Counts
  pub heartbeat_value : heartbeat ≡ Value v h
  pub overhead : 20 * h.work.0 ≤ 21 * a.work.0

-- If the sequential answer is a value, that holds.
pub record FivePercent (sequential heartbeat : Answer) : Type 0 where
  pub at_a_value : (v : ℕ) (a : Counts) → sequential ≡ Value v a → WithinFivePercent v a heartbeat

-- THEOREM (`house_overhead`), for every table, arguments, fuel, τ and length of the workspace, refused ones among them: N by default "holds
-- the overhead to at most 5 percent of sequential work".
abbrev pub HouseOverhead : Type 0
HouseOverhead = (w arguments : List ℕ) (fuel τ workspace : ℕ)
    → FivePercent (sequential_of w arguments fuel (house_period τ) τ workspace) (heartbeat_of w arguments fuel (house_period τ) τ workspace)

-- THEOREM (`house_refused`): "A τ above 500 is then refusal 9, unless an earlier check refuses."
abbrev pub HouseRefused : Type 0
HouseRefused = (w : List ℕ) (arguments fuel τ workspace : ℕ) → 500 < τ
    → checked_of w arguments fuel (house_period τ) τ workspace ≡ (read_of w then arguments_of w arguments then fuel_of fuel then refused 9 0 0)
