-- Small graphs written out, by computation.
use mathlib.Core.Path.{refl}
use Rattle.graph.specs.Words.{stretch, fork_words, pending, parts}
use Rattle.graph.specs.Lent.{ending_with, words_told, left_in}
use Rattle.graph.specs.Examples.{chain, examples, lent_examples, computed, computed_lent, Worked, LentWorked}

pub worked : Worked
unfolding chain examples computed stretch fork_words pending parts
worked = refl

pub lent_worked : LentWorked
unfolding chain lent_examples computed_lent stretch fork_words pending parts ending_with words_told left_in
lent_worked = refl
