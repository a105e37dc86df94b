-- `strides::fork` meets its contract, by the laws of Pausing.
use mathlib.Core.Path.{ap, ◌∙◌}
use Rattle.compact.specs.Compact.{freed_by}
use Rattle.strides.proofs.Pausing.{expands, fork_calm, fork_framed, fork_restarts, fork_frees}
use Rattle.strides.proofs.fork.Goals as goal

pub expand-requires : goal.expand-requires
expand-requires c =
    expands (fork_calm c.args.words.now c.args.ws.now c.args.locals.now c.args.plan c.args.g c.args.seat c.requires.0).starts

pub fork-step-requires : goal.fork-step-requires
fork-step-requires c =
    rw c.expand.ensures (fork_framed c.args.words.now c.args.ws.now c.args.locals.now c.args.plan c.args.g c.args.seat c.requires.0)

pub restart-next-requires : goal.restart-next-requires
restart-next-requires c =
    fork_restarts c.args.words.now c.args.ws.now c.args.locals.now c.args.plan c.args.g c.args.seat c.requires.0 _ c.expand.ensures _ c.fork-step.auto.ws _ c.fork-step.ensures c.requires.1

pub returns : goal.returns
returns c =
    fork_frees c.args.words.now c.args.ws.now c.args.locals.now c.args.plan c.args.g c.args.seat c.requires.0 _ c.expand.ensures _ c.fork-step.auto.ws _ c.fork-step.ensures c.requires.1 _ (c.free.ensures ∙ ap (freed_by _) c.restart-next.ensures)
