-- What a call of the report writes and leaves, for any input, workspace and output buffer.
use Rattle.std.specs.Prelude.{ℕ, ◌≡◌, cond, List, ◌++◌, length, drop, leb}
use Rattle.language.specs.declared.Answer.{Answer}
use Rattle.language.specs.Answers.{Machine, sequential_of, parallel_of, heartbeat_of}
use Rattle.language.specs.Stops.{StopListed}
use Rattle.language.specs.Claim.{DemandThree, SameDepth, StopsAgree}
use Rattle.language.specs.House.{FivePercent}
use Rattle.machine.specs.Workspace.{left_by}
use Rattle.report.specs.Input.{Job, words_of, period_word, job_of, complete, whole}
use Rattle.lines.specs.Buffer.{Wrote}
use Rattle.lines.specs.Lines.{refusal_line, report_lines}

-- a machine's answer to a job, with a workspace of so many words
abbrev pub answer_to : Machine → Job → ℕ → Answer
answer_to machine job workspace = machine job.table job.arguments job.fuel job.period job.tau workspace

-- the three answers, told
unfoldable pub lines_on : Job → ℕ → List ℕ
lines_on job workspace =
    report_lines (answer_to sequential_of job workspace) (answer_to parallel_of job workspace) (answer_to heartbeat_of job workspace)

-- `refused 1 function 0 node 0`
abbrev pub no_job : List ℕ
no_job = refusal_line (record { number = 1; function = 0; node = 0 })

-- THE REPORT on an input's words, with a workspace of so many words
unfoldable pub words_report : List ℕ → ℕ → List ℕ
words_report w workspace = cond (complete w) (lines_on (job_of w) workspace) no_job

-- and on its bytes
unfoldable pub report_of : List ℕ → ℕ → List ℕ
report_of bytes workspace = cond (whole bytes) (words_report (words_of bytes) workspace) no_job

-- the workspace's words at the end, by the words at the call: as the machines leave them, or as they were where none was called
unfoldable pub words_leave : List ℕ → List ℕ → List ℕ
words_leave w ws = cond (complete w) (left_by (answer_to sequential_of (job_of w) (length ws)) ws) ws

unfoldable pub left_after : List ℕ → List ℕ → List ℕ
left_after bytes ws = cond (whole bytes) (words_leave (words_of bytes) ws) ws

-- what is told of an input's words: the report, at the front of a buffer, and the workspace
pub record WordsReported (w ws out ws' out' : List ℕ) (r : ℕ) : Type 0 where
  pub wrote : Wrote out 0 (words_report w (length ws)) out' r
  pub workspace : ws' ≡ words_leave w ws

-- DEMAND 3 of the answers that a report tells, with N and τ after the defaults
abbrev pub DemandThreeOf : Job → ℕ → Type 0
DemandThreeOf job workspace =
    DemandThree job.period job.tau (answer_to sequential_of job workspace) (answer_to parallel_of job workspace)
    (answer_to heartbeat_of job workspace)

-- 02, P7, of the answers that a report tells: "Where the sequential run has a value, all three machines show the same depth."
abbrev pub SameDepthOf : Job → ℕ → Type 0
SameDepthOf job workspace =
    SameDepth (answer_to sequential_of job workspace) (answer_to parallel_of job workspace) (answer_to heartbeat_of job workspace)

-- 02, P12, of the answers that a report tells: where the sequential one is a stop 21 to 24, all three are.
abbrev pub StopsAgreeOf : Job → ℕ → Type 0
StopsAgreeOf job workspace =
    StopsAgree (answer_to sequential_of job workspace) (answer_to parallel_of job workspace) (answer_to heartbeat_of job workspace)

-- 02, P2, of the answers that a report tells: 0 for N means 20 times the τ in use, "which holds the overhead to at most 5 percent of
-- sequential work"
abbrev pub FivePercentOf : List ℕ → ℕ → Type 0
FivePercentOf w workspace = period_word w ≡ 0
    → FivePercent (answer_to sequential_of (job_of w) workspace) (answer_to heartbeat_of (job_of w) workspace)

-- A stop that a report tells is listed.
pub record StopsListedOf (job : Job) (workspace : ℕ) : Type 0 where
  pub sequential_stop : StopListed job.table job.fuel (answer_to sequential_of job workspace)
  pub parallel_stop : StopListed job.table job.fuel (answer_to parallel_of job workspace)
  pub heartbeat_stop : StopListed job.table job.fuel (answer_to heartbeat_of job workspace)

-- WHAT A CALL TELLS. `ws` and `out` are the words of the workspace and the bytes of the output buffer at the call, `ws'` and `out'` those
-- at its end, and r is the number of bytes written: the report, at the front of the buffer. A buffer of fewer than 512 bytes, which may be
-- too few for a report, gets none: nothing runs then, and nothing is changed.
pub record Reported (bytes ws out ws' out' : List ℕ) (r : ℕ) : Type 0 where
  pub number : r ≡ cond (leb 512 (length out)) (length (report_of bytes (length ws))) 0
  pub written : out' ≡ cond (leb 512 (length out)) (report_of bytes (length ws) ++ drop (length (report_of bytes (length ws))) out) out
  pub workspace : ws' ≡ cond (leb 512 (length out)) (left_after bytes ws) ws
  pub stops : StopsListedOf (job_of (words_of bytes)) (length ws)
  pub demand_3 : DemandThreeOf (job_of (words_of bytes)) (length ws)
  pub same_depth : SameDepthOf (job_of (words_of bytes)) (length ws)
  pub stops_agree : StopsAgreeOf (job_of (words_of bytes)) (length ws)
  pub five_percent : FivePercentOf (words_of bytes) (length ws)
