-- `compact::go_on` meets its contract, by the laws of Keeping.
use Rattle.std.proofs.Common.{rules}
use Rattle.compact.specs.Compact.{Settles, Continues}
use Rattle.compact.proofs.Keeping.{goes_with, answered}
use Rattle.compact.proofs.go_on.Goals as goal

pub answer-requires : goal.answer-requires
unfolding Settles Continues
answer-requires c = goes_with (λ s e. let h = rw e at c.requires.1 in let same = rw e at c.requires.2 in search rules)

pub returns : goal.returns
unfolding Continues
returns c = answered c.answer.ensures (λ s g e p. let same = rw e at c.requires.2 in search rules)
