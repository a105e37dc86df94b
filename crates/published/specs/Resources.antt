-- What a derivation of a judgment uses: its transitions, and the most frames that it occupies at once. A step is one transition. A fork is none, and
-- its frame is occupied until its join: above the frames that the body goes on with, and below those of the branch that runs.
-- The depth that a value or a stop tells (02, P7) is this height of its derivation: `seq_frames` and so on for a value (theorem `adequate`, field
-- `deepest_is`), the last index of the families of Stops.antt for a stop (theorem `stop_iff_derived`).
use Rattle.std.specs.Prelude.{ℕ, ◌+◌, max, length}
use Rattle.schedule.specs.FrameMachine.{Control, FrameMachine}
use Rattle.published.specs.CostGraph.{CostGraph}
use Rattle.published.specs.Judgments.{PlainStack, Sequential, seq_value, seq_step, Parallel, par_value, par_step, par_fork, Heartbeat, hb_value, hb_step, hb_promote}

-- The frames of a fork with this many below it: left and right branch one after the other, then the body.
abbrev pub fork_frames : ℕ → ℕ → ℕ → ℕ → ℕ
fork_frames below left right body = max (below + 1 + max left right) body

module _ {M : FrameMachine} where
  unfoldable pub seq_transitions : {c : Control M.Code} {S : PlainStack M} {v : ℕ} {g : CostGraph} → Sequential M c S v g → ℕ
  seq_transitions seq_value = 0
  seq_transitions (seq_step x d) = seq_transitions d + 1

  unfoldable pub seq_frames : {c : Control M.Code} {S : PlainStack M} {v : ℕ} {g : CostGraph} → Sequential M c S v g → ℕ
  seq_frames seq_value = 0
  seq_frames (seq_step {S = S} x d) = max (length S) (seq_frames d)

  unfoldable pub par_transitions : {c : Control M.Code} {S : PlainStack M} {v : ℕ} {g : CostGraph} → Parallel M c S v g → ℕ
  par_transitions par_value = 0
  par_transitions (par_step f x d) = par_transitions d + 1
  par_transitions (par_fork e d1 d2 d3) = par_transitions d1 + par_transitions d2 + par_transitions d3

  unfoldable pub par_frames : {c : Control M.Code} {S : PlainStack M} {v : ℕ} {g : CostGraph} → Parallel M c S v g → ℕ
  par_frames par_value = 0
  par_frames (par_step {S = S} f x d) = max (length S) (par_frames d)
  par_frames (par_fork {S = S} e d1 d2 d3) = fork_frames (length S) (par_frames d1) (par_frames d2) (par_frames d3)

  unfoldable pub hb_transitions : {N : ℕ} {c : Control M.Code} {S : PlainStack M} {n v : ℕ} {g : CostGraph} → Heartbeat M N c S n v g → ℕ
  hb_transitions hb_value = 0
  hb_transitions (hb_step q x d) = hb_transitions d + 1
  hb_transitions (hb_promote q o d1 d2 d3) = hb_transitions d1 + hb_transitions d2 + hb_transitions d3

  unfoldable pub hb_frames : {N : ℕ} {c : Control M.Code} {S : PlainStack M} {n v : ℕ} {g : CostGraph} → Heartbeat M N c S n v g → ℕ
  hb_frames hb_value = 0
  hb_frames (hb_step {S = S} q x d) = max (length S) (hb_frames d)
  hb_frames (hb_promote {older = older} q o d1 d2 d3) = fork_frames (length older) (hb_frames d1) (hb_frames d2) (hb_frames d3)
