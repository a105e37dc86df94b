-- `machine::run` meets its contract.
use Rattle.machine.proofs.Concluding.{wrote_with}
use Rattle.machine.proofs.Machines.{copied, few, ran_with, zeroed}
use native.Mathlib.Omega.{arith}
use Rattle.machine.proofs.run.Goals as goal

pub returns : goal.returns
returns c =
    let room = few c.args.job.words.now c.args.arguments.now _ _ c.requires.0 in
    let same = copied c.args.locals.now c.args.arguments.now _ (omega (arith, c.requires.1)) c.copy.ensures in (
      ran_with c.args.job.words.now _ c.args.arguments.now _ c.args.plan _ same c.drive-ran.ensures.0,
      zeroed c.args.ws.now _ _ _ c.clear.ensures c.drive-ran.auto.ws (c.drive-ran.ensures.0.began _),
      wrote_with c.args.job.words.now _ c.args.arguments.now _ c.args.plan _ _ _ same c.drive-ran.ensures.1,
    )
