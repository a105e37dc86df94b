-- `machine::machine` meets its contract.
use Rattle.machine.proofs.Concluding.{lends_run, lends_refusal}
use Rattle.machine.proofs.Machines.{tells_run, tells_refusal}
use Rattle.machine.specs.Workspace.{left_by}
use native.Mathlib.Omega.{arith}
use mathlib.Core.Path.{refl}
use Rattle.machine.proofs.machine.Goals as goal

pub launch-requires : goal.launch-requires
launch-requires c =
    let a = c.checked-read.ensures.assures.0 c.in-Ok.is in
    record { table = a.table; count = a.arguments; limits = record { fuel = omega arith; tau = omega arith; frames = omega arith } }

pub returns-in-Ok : goal.returns-in-Ok
returns-in-Ok c =
    let a = c.checked-read.ensures.assures.0 c.in-Ok.is in
    let p = c.requires in (
      tells_run c.args.words.now c.args.arguments.now _ _ _ _ _ _ c.checked-read.ensures.answer c.in-Ok.is a (omega arith) _ _ c.launch.ensures.0 p.0 p.1,
      c.launch.ensures.1,
      lends_run c.args.words.now c.args.arguments.now _ _ _ _ _ _ c.checked-read.ensures.answer (omega arith) c.in-Ok.is a _ _ _ _ c.launch.ensures.2 p.0,
    )

pub returns-in-Err : goal.returns-in-Err
unfolding left_by
returns-in-Err c = (
  λ m suits. tells_refusal c.args.words.now c.args.arguments.now _ _ _ _ _ _ c.checked-read.ensures.answer _ c.in-Err.is (omega arith) m,
  refl,
  λ m suits. lends_refusal c.args.words.now c.args.arguments.now _ _ _ _ _ _ c.checked-read.ensures.answer (omega arith) _ c.in-Err.is m _,
)
