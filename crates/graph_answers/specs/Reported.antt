-- THE GRAPH IN THE BUFFER IS THE ONE REPORTED (02, P1): "its work and span are the reported ones", read off the words that a call left.
use Rattle.std.specs.Prelude.{ℕ, ◌-◌, ◌≡◌, List, length, take, drop, replicate}
use Rattle.schedule.specs.Machine.{Schedule}
use Rattle.graph.specs.Words.{words_work, words_span}
use Rattle.language.specs.declared.Counts.{Counts}
use Rattle.language.specs.declared.Answer.TheVariants.{Value}
use Rattle.graph_answers.specs.Answers.{graphed_of, graph_left}

-- A buffer whose first n words have the work and the span of the counts k, priced by τ. "The words after the graph are zero".
pub record Reported (τ : ℕ) (k : Counts) (n : ℕ) (buffer : List ℕ) : Type 0 where
  pub long : length (take n buffer) ≡ n
  pub work_is : words_work τ (take n buffer) ≡ k.work.0
  pub span_is : words_span τ (take n buffer) ≡ k.span.0
  pub rest : drop n buffer ≡ replicate (length buffer - n) 0

-- THEOREM (proofs/Reported.antt, `reported`), at every value of every machine: the buffer at exit, by the number of words told.
abbrev pub ReportedAtValue : Type 0
ReportedAtValue = (m : Schedule) (w arguments : List ℕ) (fuel N τ workspace : ℕ) (found : List ℕ) (v : ℕ) (k : Counts)
    → (graphed_of m w arguments fuel N τ workspace (length found)).answer ≡ Value v k
    → Reported τ k (graphed_of m w arguments fuel N τ workspace (length found)).words (graph_left m w arguments fuel N τ workspace found)
