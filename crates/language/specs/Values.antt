-- What every value tells, for every input, as the breadth of a report needs it (02, P6: "sequential work divided by parallel span"): a span is
-- never 0, and the sequential work has a bound. Both theorems are proved in proofs/Values.antt.
use Rattle.std.specs.Prelude.{ℕ, ◌≤◌, ◌≡◌, List}
use Rattle.schedule.specs.Machine.{Schedule}
use Rattle.language.specs.declared.Counts.{Counts}
use Rattle.language.specs.declared.Answer.{Answer}
use Rattle.language.specs.declared.Answer.TheVariants.{Value}
use Rattle.language.specs.Answers.{answer_of, sequential_of}

-- An answer that is a value has a span of at least 1.
abbrev pub SpanPositive : Answer → Type 0
SpanPositive r = (v : ℕ) (a : Counts) → r ≡ Value v a → 1 ≤ a.span.0

-- THEOREM (`spans_positive`), of every machine: a value takes at least one transition.
abbrev pub SpansPositive : Type 0
SpansPositive = (m : Schedule) (w arguments : List ℕ) (fuel N τ workspace : ℕ) → SpanPositive (answer_of m w arguments fuel N τ workspace)

-- An answer that is a value has at most so much work.
abbrev pub WorkAtMost : ℕ → Answer → Type 0
WorkAtMost most r = (v : ℕ) (a : Counts) → r ≡ Value v a → a.work.0 ≤ most

-- THEOREM (`sequential_work`). 01, Sequential: "work and span both equal the transitions", which are within the fuel, and a fuel above
-- 100,000,000 is refused.
abbrev pub SequentialWork : Type 0
SequentialWork = (w arguments : List ℕ) (fuel N τ workspace : ℕ) → WorkAtMost 100000000 (sequential_of w arguments fuel N τ workspace)
