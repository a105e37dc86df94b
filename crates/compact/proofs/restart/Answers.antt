-- `compact::restart` meets its contract, by the laws of Keeping.
use mathlib.Core.Path.{◌≡◌}
use Rattle.std.proofs.Common.{rules}
use Rattle.compact.specs.Compact.{limited_of, limit_of, Settles, Forkless}
use Rattle.compact.proofs.Keeping.{goes_with, answered}
use Rattle.compact.proofs.restart.Goals as goal

pub answer-requires : goal.answer-requires
unfolding Settles
answer-requires c = goes_with (λ s e. let h = rw e at c.requires.0 in search rules)

pub returns : goal.returns
unfolding limit_of Forkless
returns c = answered c.answer.ensures (λ s g e p. let none = rw e at c.requires.1 in let made : g ≡ limited_of s c.args.plan.fuel.0 = search rules in rw (made, none))
