-- `table::contents_read` meets its contract, by the laws of Bodies, InOrder, Acceptance.
use mathlib.Core.Path.{◌≡◌, refl, sym, ap, ◌∙◌}
use native.Mathlib.Omega.{arith}
use Rattle.table.specs.Words.{functions as functionsOf, nodes_before}
use Rattle.table.specs.Read.{entry}
use Rattle.table.proofs.Bodies.{nodes_next}
use Rattle.table.proofs.InOrder.{reached_start, reached_next, reached_stop, reached_end, told_err}
use Rattle.table.proofs.Acceptance.{entry_iff, contents_stop, contents_long, contents_good}
use Rattle.table.proofs.contents_read.Goals as goal

pub loop-f-init : goal.loop-f-init
unfolding nodes_before
loop-f-init c = record { sum = refl; few = omega arith; reached = reached_start _ _ }

pub returns-in_err-entry_read : goal.returns-in_err-entry_read
returns-in_err-entry_read c =
    let w = c.args.words.now in
    told_err c.from_residual.result c.from_residual.ensures.1 ∙ contents_stop w _ (reached_stop (entry w) _ c.loop-f.f (omega arith) c.loop-f.invariant.reached c.in_err-entry_read.ensures)

pub loop-f-preserved : goal.loop-f-preserved
loop-f-preserved c =
    let w = c.args.words.now in
    let f = c.loop-f.f in
    let good = c.in_ok-entry_read.ensures in
    record {
      sum = omega (arith, nodes_next w f);
      few = omega (arith, ((entry_iff w f).0 (sym good)).few);
      reached = reached_next (entry w) _ f (omega arith) c.loop-f.invariant.reached good;
    }

pub returns-then-words-functions : goal.returns-then-words-functions
returns-then-words-functions c =
    let w = c.args.words.now in
    let x : c.loop-f.f ≡ functionsOf w = omega arith in
    let s = c.loop-f.invariant.sum ∙ ap (nodes_before w) x in
    c.refuse.ensures ∙ contents_long w (reached_end (entry w) _ _ (omega arith) c.loop-f.invariant.reached) (λ e. c.if-words-functions.true (omega arith))

pub returns : goal.returns
returns c =
    let w = c.args.words.now in
    let x : c.loop-f.f ≡ functionsOf w = omega arith in
    let s = c.loop-f.invariant.sum ∙ ap (nodes_before w) x in
    contents_good w (reached_end (entry w) _ _ (omega arith) c.loop-f.invariant.reached) (omega arith)
