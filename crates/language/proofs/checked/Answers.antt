-- `language::checked` meets its contract: each way out is one of `checked_of`, and what it accepts is admitted (proofs/Admission.antt). Assumes nothing.
use mathlib.Core.Path.{◌∙◌, refl}
use native.Mathlib.Omega.{arith}
use Rattle.table.proofs.InOrder.{told_err}
use Rattle.language.specs.Checks.{checked_of}
use Rattle.language.proofs.Admission.{checked_iff, then_refuses, then_goes, arguments_differ, arguments_agree}
use Rattle.language.proofs.checked.Goals as goal

pub returns-in_err-read : goal.returns-in_err-read
unfolding checked_of
returns-in_err-read c =
    let e = told_err c.from_residual.result c.from_residual.ensures.1 ∙ then_refuses _ c.in_err-read.ensures.answer in
    record { answer = e; assures = rw e (checked_iff c.args.words.now _ _ _ _ _) }

pub arity-requires : goal.arity-requires
arity-requires c = let room = (c.in_ok-read.ensures.assures.0 refl).contents.header in omega arith

pub returns-then-arguments-arity : goal.returns-then-arguments-arity
unfolding checked_of
returns-then-arguments-arity c =
    let e = then_goes c.in_ok-read.ensures.answer (arguments_differ _ c.args.arguments _ c.arity.ensures _ _ (λ e. omega (arith, e)) c.refuse.ensures) in
    record { answer = e; assures = rw e (checked_iff c.args.words.now _ _ _ _ _) }

pub returns : goal.returns
unfolding checked_of
returns c =
    let e = then_goes c.in_ok-read.ensures.answer (arguments_agree _ c.args.arguments _ c.arity.ensures _ _ (omega arith) c.settings_checked.ensures) in
    record { answer = e; assures = rw e (checked_iff c.args.words.now _ _ _ _ _) }
