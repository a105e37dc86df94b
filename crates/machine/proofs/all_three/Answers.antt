-- `machine::all_three` meets its contract: each answer by its machine, its stop by `listed_of`, demand 3 by `claim_of`, the depth by `same_depth_of` and that stops agree by `stops_agree_of` (proofs/Machines.antt). Assumes nothing.
use Rattle.machine.proofs.Machines.{all_three}
use Rattle.machine.proofs.all_three.Goals as goal

pub returns : goal.returns
returns c =
    all_three c.args.words.now c.args.arguments.now _ _ _ c.args.workspace.now _ _ _ _ _ _ c.run-sequential.ensures.answer c.run-sequential.ensures.leaves c.run-parallel.ensures.answer c.run-parallel.ensures.leaves c.run-heartbeat.ensures.answer c.run-heartbeat.ensures.leaves
