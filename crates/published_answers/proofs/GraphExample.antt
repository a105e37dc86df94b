-- 02's row ("Table A on heartbeat with N 3 gives 0 3 1 2 2 0 4 0 1 0 1."): Figure 6 derives table A's value with a graph of these words, and beside ten words
-- it is one that is too long, so that what the theorem speaks of can be met.
use Prim.Native.Nat.{ℕ, zero, suc}
use mathlib.Core.Path.{refl, ap}
use mathlib.Core.List.{List, [], ◌∷◌}
use Rattle.schedule.specs.Machine.{heartbeat}
use Rattle.language.specs.Answers.{counts_of, unfinished}
use Rattle.language.specs.Settled.{table_a}
use Rattle.graph_answers.specs.Examples.{Given, garbage, words_of_A, examples, given, told}
use Rattle.graph_answers.proofs.Examples.{worked}
use Rattle.published_answers.specs.Graphs.{DerivesGraph, DerivesTooLong}
use Rattle.published_answers.proofs.Graphs.{demand_2_graphs}

row : ℕ → List Given → Given
row k [] = record { graphed = record { answer = unfinished; words = 0 }; left = [] }
row zero (a ∷ rest) = a
row (suc k) (a ∷ rest) = row k rest

words_derived : DerivesGraph (heartbeat 3) table_a [] 100 3 2 8192 11 4 (counts_of 9 1 11 10 2) words_of_A
unfolding examples given told row
words_derived = ((demand_2_graphs table_a [] 100 3 2 8192 (garbage 11)).figure_6.value_iff 4 (counts_of 9 1 11 10 2) words_of_A).0 (record {
  answer_is = ap (λ x. (row 0 x).graphed.answer) worked;
  words_told = ap (λ x. (row 0 x).graphed.words) worked;
  buffer_is = ap (λ x. (row 0 x).left) worked;
})

too_long : DerivesTooLong (heartbeat 3) table_a [] 100 3 2 8192 10 (record { number = 25; function = 0; node = 0; transitions = 9; deepest = 2 })
unfolding examples given told row
too_long = ((demand_2_graphs table_a [] 100 3 2 8192 (garbage 10)).figure_6.at_25_iff _ refl).0 (ap (λ x. (row 4 x).graphed.answer) worked)
