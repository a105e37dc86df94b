-- `frames::copy` meets its contract: the first four words one by one, and the rest by `copy_many`. Assumes nothing.
use lib.Seq.{paste-zero}
use lib.ListN.{drop, length-set}
use mathlib.Core.Path.{◌∙◌}
use native.Mathlib.Omega.{arith}
use Rattle.frames.proofs.Words.{copied_one, copied_two, copied_three, copied_four, copied_rest}
use Rattle.frames.proofs.copy.Goals as goal

pub returns-then-n-eq0 : goal.returns-then-n-eq0
returns-then-n-eq0 c = rw c.if-n-eq0.true (paste-zero _ c.args.at (drop c.args.from c.args.src.now))

pub shape_of-dst-then-n-eq1 : goal.shape_of-dst-then-n-eq1
shape_of-dst-then-n-eq1 c = simp length-set

pub returns-then-n-eq1 : goal.returns-then-n-eq1
returns-then-n-eq1 c =
    let a = c.args in
    rw c.if-n-eq1.true (copied_one a.dst.now a.at a.src.now a.from (omega arith) (omega arith))

pub bounds-dst-at-2 : goal.bounds-dst-at-2
bounds-dst-at-2 c = simp length-set (omega arith)

pub shape_of-dst-then-n-eq2 : goal.shape_of-dst-then-n-eq2
shape_of-dst-then-n-eq2 c = simp length-set

pub returns-then-n-eq2 : goal.returns-then-n-eq2
returns-then-n-eq2 c =
    let a = c.args in
    rw c.if-n-eq2.true (copied_two a.dst.now a.at a.src.now a.from (omega arith) (omega arith))

pub bounds-dst-at-3 : goal.bounds-dst-at-3
bounds-dst-at-3 c = simp length-set (omega arith)

pub shape_of-dst-then-n-eq3 : goal.shape_of-dst-then-n-eq3
shape_of-dst-then-n-eq3 c = simp length-set

pub returns-then-n-eq3 : goal.returns-then-n-eq3
returns-then-n-eq3 c =
    let a = c.args in
    rw c.if-n-eq3.true (copied_three a.dst.now a.at a.src.now a.from (omega arith) (omega arith))

pub bounds-dst-at-4 : goal.bounds-dst-at-4
bounds-dst-at-4 c = simp length-set (omega arith)

pub copy_many-requires : goal.copy_many-requires
copy_many-requires c = (simp length-set (omega arith), omega arith)

pub shape_of-dst : goal.shape_of-dst
shape_of-dst c = c.copy_many.auto.dst ∙ simp length-set

pub returns : goal.returns
returns c =
    let a = c.args in
    rw (c.copy_many.ensures, copied_four a.dst.now a.at a.src.now a.from (omega arith) (omega arith)) (copied_rest a.dst.now a.at a.src.now a.from a.n (omega arith) (omega arith) (omega arith))
