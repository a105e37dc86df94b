-- `compact::keep` meets its contract, by the laws of Keeping.
use Rattle.std.proofs.Common.{rules}
use Rattle.compact.proofs.Keeping.{goes_with, answered}
use Rattle.compact.proofs.keep.Goals as goal

pub answer-requires : goal.answer-requires
answer-requires c = goes_with (λ s e. tt)

pub returns : goal.returns
returns c = answered c.answer.ensures (λ s g e p. search rules)
