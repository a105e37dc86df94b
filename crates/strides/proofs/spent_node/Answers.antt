-- `strides::spent_node` meets its contract, by the laws of Pausing.
use mathlib.Core.Path.{◌≡◌}
use mathlib.Core.Bool.{false}
use native.Mathlib.Omega.{arith}
use Rattle.table.specs.Words.{start_of, tag_at}
use Rattle.strides.specs.Strides.{Awaits}
use Rattle.strides.proofs.Striding.{start_asked, word_inside, tag_here}
use Rattle.strides.proofs.Pausing.{pause_ends, node_spent}
use Rattle.strides.proofs.spent_node.Goals as goal
use Rattle.strides.proofs.spent_node.Goals.{else-tag-eq-BOTH-via-then-tag-eq-BOTH+else-plan, else-tag-eq-BOTH-via-else-tag-eq-BOTH}

pub start-start-requires : goal.start-start-requires
start-start-requires c = start_asked c.requires.0 c.requires.1

pub overflow_mul-tag : goal.overflow_mul-tag
overflow_mul-tag c = omega (arith, word_inside c.requires.0 c.requires.1 c.start-start.ensures)

pub overflow_add-tag : goal.overflow_add-tag
overflow_add-tag c = omega (arith, word_inside c.requires.0 c.requires.1 c.start-start.ensures)

pub offset_bounds-job-start : goal.offset_bounds-job-start
offset_bounds-job-start c = omega (arith, word_inside c.requires.0 c.requires.1 c.start-start.ensures)

pub bounds-job-start : goal.bounds-job-start
bounds-job-start c = omega (arith, word_inside c.requires.0 c.requires.1 c.start-start.ensures)

pub returns-then-plan : goal.returns-then-plan
unfolding Awaits
returns-then-plan c =
    pause_ends _ (λ e. cc) (c.requires.0, c.requires.1, omega (arith, tag_here c.requires.0 c.requires.1 c.start-start.ensures, c.if-tag-eq-BOTH.true), c.if-plan.true)

pub returns-else-tag-eq-BOTH : goal.returns-else-tag-eq-BOTH
returns-else-tag-eq-BOTH c = node_spent c.requires.0 c.requires.2 c.requires.1 low _ c.spent.ensures
  where
    low : tag_at c.args.job.words.now (start_of c.args.job.words.now c.args.seat.function) c.args.seat.node ≡ 6 → c.args.plan.birth ≡ false
    low e = let t = tag_here c.requires.0 c.requires.1 c.start-start.ensures in
        elim c.else-tag-eq-BOTH.branch [ else-tag-eq-BOTH-via-then-tag-eq-BOTH+else-plan w ↦ w.if-plan.false | else-tag-eq-BOTH-via-else-tag-eq-BOTH w ↦ absurd (w.if-tag-eq-BOTH.false (omega (arith, t, e))) ]
