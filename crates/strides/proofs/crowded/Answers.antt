-- `strides::crowded` meets its contract, by the laws of Pausing.
use mathlib.Core.Path.{refl}
use Rattle.strides.proofs.Pausing.{fork_crowded}
use Rattle.strides.proofs.crowded.Goals as goal

pub returns : goal.returns
returns c =
    fork_crowded c.args.words.now c.args.ws.now c.args.locals.now c.args.plan c.args.g c.args.seat c.requires.0 c.requires.1 _ refl
