-- `language::workspace_checked` meets its contract: the test of whole frames is that of `workspace_of`. Assumes nothing.
use Rattle.language.specs.Checks.{workspace_of}
use Rattle.table.specs.Read.{◌then◌}
use Prim.Native.Nat.{◌%◌}
use borrow.Author.Tests.{eq-eqb, ne_eqb}
use Rattle.language.proofs.workspace_checked.Goals as goal

pub returns-then-words-ne0 : goal.returns-then-words-ne0
unfolding workspace_of ◌then◌
returns-then-words-ne0 c = rw (ne_eqb (c.args.words % 32) 0 c.if-words-ne0.true) c.refuse.ensures

pub returns : goal.returns
unfolding workspace_of ◌then◌
returns c = rw (eq-eqb (c.args.words % 32) 0 c.if-words-ne0.false) c.in_range.ensures
