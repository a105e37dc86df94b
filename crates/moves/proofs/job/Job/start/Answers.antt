-- `moves::job::Job::start` meets its contract.
use native.Mathlib.Omega.{arith}
use Rattle.table.proofs.Filling.{starts_of_lem, starts_sixty_four}
use Rattle.moves.proofs.job.Job.start.Goals as goal

pub bounds-self-function : goal.bounds-self-function
bounds-self-function c =
    rw c.args.self.located (omega (arith, c.requires.1, c.requires.0.contents.header.few, starts_sixty_four c.args.self.words.now))

pub returns : goal.returns
returns c =
    rw c.args.self.located (starts_of_lem c.args.self.words.now c.args.function c.requires.1 c.requires.0.contents.header.few)
