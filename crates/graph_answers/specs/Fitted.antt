-- THE ANSWER WITH A BUFFER, from the answer without one and the number of words counted: what code has at the end of a run. Nobody need believe it: that
-- it is `graphed_of` is a theorem.
use Rattle.std.specs.Prelude.{ℕ, ◌<◌, ◌≡◌, cond, ◌⊎◌, List, leb, length}
use Rattle.schedule.specs.Graph.{Graph}
use Rattle.schedule.specs.Algebra.{graphs}
use Rattle.schedule.specs.Machine.{value, RunCounts, ended, Schedule}
use Rattle.schedule.specs.Runs.{outcome}
use Rattle.graph.specs.Words.{written}
use Rattle.graph.specs.Lent.{nowhere}
use Rattle.language.specs.declared.Answer.{Answer}
use Rattle.language.specs.declared.Answer.TheVariants.{Value, Stopped, Refused}
use Rattle.language.specs.Language.{language}
use Rattle.language.specs.Checks.{frames_in}
use Rattle.language.specs.Answers.{entry_code, stopped, answer_of}
use Rattle.graph_answers.specs.declared.Graphed.{Graphed}
use Rattle.graph_answers.specs.Answers.{graphed_of}

-- 02: "Stopped: 25, with function 0, node 0 and the run's transitions"; a stop and a refusal tell 0 words.
unfoldable pub fitted_of : Answer → (words room : ℕ) → Graphed
fitted_of (Value v k) words room = cond (leb words room)
    (record { answer = Value v k; words = words })
    (record { answer = stopped 25 nowhere k.transitions k.deepest; words = 0 })
fitted_of (Stopped s) words room = record { answer = Stopped s; words = 0 }
fitted_of (Refused r) words room = record { answer = Refused r; words = 0 }

-- A count n serves for a graph that needs `words`: it is that number. Beside a buffer that is full code counts no further, so that else both need only be
-- more than were lent.
abbrev pub Serves : (lent n words : ℕ) → Type 0
Serves lent n words = (n ≡ words) ⊎ ((lent < n) × (lent < words))

-- The count of a run that ends in a value serves for its graph.
abbrev pub WordsCounted : Schedule → (w arguments : List ℕ) (fuel workspace lent n : ℕ) → Type 0
WordsCounted m w arguments fuel workspace lent n = (v : ℕ) (g : Graph) (t : RunCounts)
    → outcome graphs (language w) fuel (frames_in workspace) m (entry_code arguments) ≡ ended (value v) g t
    → Serves lent n (length (written g))

-- THEOREM (proofs/AsFitted.antt, `as_fitted`), for every input and number of words lent.
abbrev pub AsFitted : Type 0
AsFitted = (m : Schedule) (w arguments : List ℕ) (fuel N τ workspace lent n : ℕ) → WordsCounted m w arguments fuel workspace lent n
    → fitted_of (answer_of m w arguments fuel N τ workspace) n lent ≡ graphed_of m w arguments fuel N τ workspace lent
