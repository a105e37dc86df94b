-- `report::has_job` meets its contract, test by test. Assumes nothing.
use borrow.Author.Tests.{le-leb, lt-leb}
use Rattle.report.specs.Input.{complete}
use Rattle.report.proofs.has_job.Goals as goal

pub returns-then-words-lt4 : goal.returns-then-words-lt4
unfolding complete
returns-then-words-lt4 c = rw (lt-leb _ _ c.if-words-lt4.true)

pub returns-then-words-gt3 : goal.returns-then-words-gt3
unfolding complete
returns-then-words-gt3 c = rw (le-leb _ _ c.if-words-lt4.false, lt-leb _ _ c.if-words-gt3.true)

pub returns : goal.returns
unfolding complete
returns c = rw (le-leb _ _ c.if-words-lt4.false, le-leb _ _ c.if-words-gt3.false, ← c.from.ensures)
