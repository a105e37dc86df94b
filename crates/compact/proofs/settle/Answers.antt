-- `compact::settle` meets its contract, by the laws of Keeping.
use Rattle.std.proofs.Common.{rules}
use Rattle.compact.specs.Compact.{Settles}
use Rattle.compact.proofs.Keeping.{goes_with, answered}
use Rattle.compact.proofs.settle.Goals as goal

pub answer-requires : goal.answer-requires
unfolding Settles
answer-requires c = goes_with (λ s e. let h = rw e at c.requires in search rules)

pub returns : goal.returns
returns c = answered c.answer.ensures (λ s g e p. search rules)
