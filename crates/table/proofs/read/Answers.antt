-- `table::read` meets its contract, by the laws of Acceptance.
use mathlib.Core.Path.{sym, ◌∙◌}
use Rattle.table.proofs.InOrder.{told_err}
use Rattle.table.proofs.Acceptance.{header_iff, contents_iff, read_header, read_contents, read_bodies, read_iff}
use Rattle.table.proofs.read.Goals as goal

pub returns-in_err-header_read : goal.returns-in_err-header_read
returns-in_err-header_read c =
    let e = told_err c.from_residual.result c.from_residual.ensures.1 ∙ read_header c.args.words.now _ (sym c.in_err-header_read.ensures) in
    record { answer = e; assures = rw e (read_iff c.args.words.now) }

pub contents_read-requires : goal.contents_read-requires
contents_read-requires c = (header_iff c.args.words.now).0 (sym c.in_ok-header_read.ensures)

pub returns-in_err-contents_read : goal.returns-in_err-contents_read
returns-in_err-contents_read c =
    let e = told_err c.from_residual-in_err-contents_read.result c.from_residual-in_err-contents_read.ensures.1 ∙ read_contents c.args.words.now _ (sym c.in_ok-header_read.ensures) (sym c.in_err-contents_read.ensures) in
    record { answer = e; assures = rw e (read_iff c.args.words.now) }

pub bodies_read-requires : goal.bodies_read-requires
bodies_read-requires c = (contents_iff c.args.words.now).0 (sym c.in_ok-header_read.ensures, sym c.in_ok-contents_read.ensures)

pub returns : goal.returns
returns c =
    let e = c.bodies_read.ensures ∙ read_bodies c.args.words.now (sym c.in_ok-header_read.ensures) (sym c.in_ok-contents_read.ensures) in
    record { answer = e; assures = rw e (read_iff c.args.words.now) }
