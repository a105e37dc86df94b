-- HOW MANY WORDS TO LEND for the graph of a value (02, P1; docs/PLANNER.md, "How many words to lend"), by the counts of the answer without a buffer.
use Rattle.std.specs.Prelude.{ℕ, ◌+◌, ◌*◌, ◌-◌, ◌≤◌, ◌≡◌, List, ◌∷◌, length, replicate}
use Rattle.schedule.specs.Machine.{Schedule, sequential}
use Rattle.language.specs.declared.Counts.{Counts}
use Rattle.language.specs.declared.Answer.TheVariants.{Value}
use Rattle.language.specs.Answers.{answer_of}
use Rattle.graph_answers.specs.Answers.{graphed_of, graph_left}
use Rattle.graph_answers.specs.AsWithout.{needed}

-- So many words are enough for the graph of the value v: it needs no more, and where they are lent the answer is that value, and no 25.
pub record Enough (m : Schedule) (w arguments : List ℕ) (fuel N τ workspace v : ℕ) (k : Counts) (enough : ℕ) : Type 0 where
  pub at_most : needed m w arguments fuel workspace ≤ enough
  pub stays : (lent : ℕ) → enough ≤ lent → (graphed_of m w arguments fuel N τ workspace lent).answer ≡ Value v k

-- THEOREM (proofs/Enough.antt, `enough_by_transitions`), for every machine and input. "A fork is 1, ..": three words; a stretch has a transition or more.
abbrev pub EnoughByTransitions : Type 0
EnoughByTransitions = (m : Schedule) (w arguments : List ℕ) (fuel N τ workspace v : ℕ) (k : Counts) → answer_of m w arguments fuel N τ workspace ≡ Value v k
    → Enough m w arguments fuel N τ workspace v k (2 * k.transitions + 3 * k.forks)

-- THEOREM (`enough_by_forks`). "two stretches never touch": beside the first there is at most one on each side of a fork, and one after it.
abbrev pub EnoughByForks : Type 0
EnoughByForks = (m : Schedule) (w arguments : List ℕ) (fuel N τ workspace v : ℕ) (k : Counts) → answer_of m w arguments fuel N τ workspace ≡ Value v k
    → Enough m w arguments fuel N τ workspace v k (9 * k.forks + 2)

-- The sequential machine never forks: its graph is one stretch, of all its transitions, and two words are just enough.
pub record OneStretch (w arguments : List ℕ) (fuel N τ workspace v : ℕ) (k : Counts) : Type 0 where
  pub needs : needed sequential w arguments fuel workspace ≡ 2
  pub stays : (lent : ℕ) → 2 ≤ lent → (graphed_of sequential w arguments fuel N τ workspace lent).answer ≡ Value v k
  pub left : (found : List ℕ) → 2 ≤ length found
      → graph_left sequential w arguments fuel N τ workspace found ≡ 0 ∷ k.transitions ∷ replicate (length found - 2) 0

-- THEOREM (`sequential_one_stretch`), for every input.
abbrev pub SequentialOneStretch : Type 0
SequentialOneStretch = (w arguments : List ℕ) (fuel N τ workspace v : ℕ) (k : Counts) → answer_of sequential w arguments fuel N τ workspace ≡ Value v k
    → OneStretch w arguments fuel N τ workspace v k
