-- `report::report` meets its contract: the words are those of the bytes, and the report on them is the report (proofs/Telling.antt). Assumes nothing.
use mathlib.Core.Path.{◌∙◌}
use Prim.Native.Nat.{◌/◌}
use lib.ListN.{length}
use lib.Seq.{take_all}
use Rattle.std.proofs.Common.{rules}
use Rattle.report.specs.Input.{words_of}
use Rattle.report.proofs.Words.{length_words}
use Rattle.report.proofs.Telling.{cramped, no_words, by_words, too_long, ragged, all_words}
use Rattle.report.proofs.report.Goals as goal

pub returns-then-out-lt-ROOM : goal.returns-then-out-lt-ROOM
returns-then-out-lt-ROOM c =
    let told = cramped c.args.input.now c.args.workspace.now c.args.out.now c.if-out-lt-ROOM.true in record { told = told.0; within = told.1 }

pub returns-then-length-gt-MOST : goal.returns-then-length-gt-MOST
returns-then-length-gt-MOST c =
    let told = no_words c.args.input.now c.args.workspace.now c.args.out.now _ _ (too_long c.args.input.now c.if-length-gt-MOST.true) c.if-out-lt-ROOM.false c.unreadable.ensures in record { told = told.0; within = told.1 }

pub returns-then-length-ne0 : goal.returns-then-length-ne0
returns-then-length-ne0 c =
    let told = no_words c.args.input.now c.args.workspace.now c.args.out.now _ _ (ragged c.args.input.now c.if-length-gt-MOST.false c.if-length-ne0.true) c.if-out-lt-ROOM.false c.unreadable-then-length-ne0.ensures in record { told = told.0; within = told.1 }

pub returns : goal.returns
returns c =
    let b = c.args.input.now in
    let n = length b / 4 in
    let whole = by_words b c.args.workspace.now c.args.out.now _ _ _ _ (all_words b c.if-length-gt-MOST.false c.if-length-ne0.false) c.if-out-lt-ROOM.false (c.unpack.ensures ∙ take_all _ (words_of b) (rw (length_words b) (search rules))) c.report_words.ensures in
    record { told = whole.0; within = whole.1 }
