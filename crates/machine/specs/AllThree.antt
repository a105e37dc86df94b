-- What the call of all three machines on one workspace tells, for any input: each answer by its definition, the workspace at the end, a
-- listed stop where an answer is a stop, demand 3 of these three answers, with the N and τ of the call, that they show one depth where the
-- sequential one has a value, and that they agree where it is a stop 21 to 24.
use Rattle.std.specs.Prelude.{ℕ, ◌≡◌, List, length}
use Rattle.language.specs.Answers.{sequential_of, parallel_of, heartbeat_of}
use Rattle.language.specs.Stops.{StopListed}
use Rattle.language.specs.Claim.{DemandThree, SameDepth, StopsAgree}
use Rattle.schedule.specs.Machine.{Schedule}
use Rattle.language.specs.declared.Counts.{Counts}
use Rattle.language.specs.declared.Answer.{Answer}
use Rattle.language.specs.declared.Answer.TheVariants.{Value}
use Rattle.graph_answers.specs.Answers.{graphed_of, graph_left}
use Rattle.graph_answers.specs.Claim.{Not25, FourOr25}
use Rattle.graph_answers.specs.declared.Graphed.{Graphed}
use Rattle.machine.specs.declared.ByMachine.{ByMachine}
use Rattle.machine.specs.Workspace.{left_by}
use Rattle.machine.specs.Written.{StopToldLent}

-- `ws` are the workspace's words at the call and `ws'` those at its end
pub record AllThree (w arguments : List ℕ) (fuel N τ : ℕ) (ws ws' : List ℕ) (r : ByMachine Answer) : Type 0 where
  pub sequential : r.sequential ≡ sequential_of w arguments fuel N τ (length ws)
  pub parallel : r.parallel ≡ parallel_of w arguments fuel N τ (length ws)
  pub heartbeat : r.heartbeat ≡ heartbeat_of w arguments fuel N τ (length ws)
  pub workspace : ws' ≡ left_by r.sequential ws
  pub sequential_stop : StopListed w fuel r.sequential
  pub parallel_stop : StopListed w fuel r.parallel
  pub heartbeat_stop : StopListed w fuel r.heartbeat
  pub demand_3 : DemandThree N τ r.sequential r.parallel r.heartbeat
  pub same_depth : SameDepth r.sequential r.parallel r.heartbeat
  pub stops_agree : StopsAgree r.sequential r.parallel r.heartbeat

-- The same where each machine is lent a buffer for its cost graph (02, P1): a, b and c are the buffers' words at the call, and a', b' and c' those at its
-- end. Demand 3 is one claim as before; it "also needs that this run did not stop with 25", and beside a 25 it holds of the counts of that run.
pub record AllThreeGraphs (w arguments : List ℕ) (fuel N τ : ℕ) (ws a b c ws' a' b' c' : List ℕ) (r : ByMachine Graphed) : Type 0 where
  pub sequential : r.sequential ≡ graphed_of Schedule.sequential w arguments fuel N τ (length ws) (length a)
  pub parallel : r.parallel ≡ graphed_of Schedule.parallel w arguments fuel N τ (length ws) (length b)
  pub heartbeat : r.heartbeat ≡ graphed_of (Schedule.heartbeat N) w arguments fuel N τ (length ws) (length c)
  pub workspace : ws' ≡ left_by r.sequential.answer ws
  pub sequential_graph : a' ≡ graph_left Schedule.sequential w arguments fuel N τ (length ws) a
  pub parallel_graph : b' ≡ graph_left Schedule.parallel w arguments fuel N τ (length ws) b
  pub heartbeat_graph : c' ≡ graph_left (Schedule.heartbeat N) w arguments fuel N τ (length ws) c
  pub sequential_stop : StopToldLent w fuel r.sequential.answer
  pub parallel_stop : StopToldLent w fuel r.parallel.answer
  pub heartbeat_stop : StopToldLent w fuel r.heartbeat.answer
  pub demand_3 : Not25 r.parallel.answer → Not25 r.heartbeat.answer
      → DemandThree N τ r.sequential.answer r.parallel.answer r.heartbeat.answer
  pub demand_3_or_25 : (v : ℕ) (k : Counts) → r.sequential.answer ≡ Value v k → FourOr25 N τ v k r.parallel.answer r.heartbeat.answer
  pub same_depth : SameDepth r.sequential.answer r.parallel.answer r.heartbeat.answer
  pub stops_agree : StopsAgree r.sequential.answer r.parallel.answer r.heartbeat.answer
