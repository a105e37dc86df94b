-- `graph::Written::end_stretch` meets its contract.
use native.Mathlib.Omega.{arith}
use mathlib.Core.Path.{◌∙◌}
use Rattle.graph.proofs.Holding.{within_fits, within_over}
use Rattle.graph.specs.Writing.{lent_ended}
use Rattle.graph.proofs.Written.end_stretch.Goals as goal

pub returns-then-words-graph : goal.returns-then-words-graph
unfolding lent_ended
returns-then-words-graph c =
    (c.ended-words.ensures, c.stretch.ensures ∙ within_fits _ _ _ (omega (arith, c.ended-words.ensures, c.if-words-graph.true)))

pub returns-else-words-graph : goal.returns-else-words-graph
unfolding lent_ended
returns-else-words-graph c =
    (c.ended-words.ensures, within_over _ _ _ (omega (arith, c.ended-words.ensures, c.if-words-graph.false)))
