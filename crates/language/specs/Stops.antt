-- What every stop tells (01, "Stopped by the run's state"), for every input: the number is one of 01's list, the place is a node of the table, and the
-- transitions are within the fuel.
use Rattle.std.specs.Prelude.{ℕ, ◌≤◌, ◌<◌, ◌≡◌, List}
use Rattle.table.specs.Words.{functions, nodes_at}
use Rattle.schedule.specs.Machine.{Schedule}
use Rattle.language.specs.declared.Stop.{Stop}
use Rattle.language.specs.declared.Answer.{Answer}
use Rattle.language.specs.declared.Answer.TheVariants.{Stopped}
use Rattle.language.specs.Answers.{answer_of}

-- 20 to 24; a function of the table and a node of it; "20 fuel spent: the transitions made equal the fuel and another is needed."
pub record Listed (w : List ℕ) (fuel : ℕ) (s : Stop) : Type 0 where
  pub least : 20 ≤ s.number
  pub most : s.number ≤ 24
  pub function : s.function < functions w
  pub node : s.node < nodes_at w s.function
  pub within_fuel : s.transitions ≤ fuel
  pub spent : s.number ≡ 20 → s.transitions ≡ fuel

-- An answer that is a stop tells a listed one.
abbrev pub StopListed : List ℕ → ℕ → Answer → Type 0
StopListed w fuel r = (s : Stop) → r ≡ Stopped s → Listed w fuel s

-- THEOREM (proofs/Stops.antt, `stops_listed`). The definitions tell 4 of a node or a frame that is in no accepted table, and 0 of a run that is unfinished:
-- neither is ever answered.
abbrev pub StopsListed : Type 0
StopsListed = (m : Schedule) (w arguments : List ℕ) (fuel N τ workspace : ℕ) → StopListed w fuel (answer_of m w arguments fuel N τ workspace)
