-- DEMAND 2, as a reader of document 004 can check it: all of an answer, by its three cases. Each machine answers a value iff it accepts its input and the
-- figure's judgment derives that value within the fuel and the frames of the workspace; the counts in the answer are those of the derivation and of its
-- cost graph. It answers a stop iff it accepts its input and the rules of stops beside that figure derive its number, its place, its transitions and its
-- depth. It answers a refusal iff the check gives it. Judgments and stops are in crate `published`, specs/Judgments.antt and specs/Stops.antt, rule by rule.
use Rattle.std.specs.Prelude.{ℕ, ◌≡◌, List, ◌↔◌, length, Ok, Err}
use Rattle.table.specs.declared.Refusal.{Refusal}
use Rattle.schedule.specs.FrameMachine.{Place}
use Rattle.schedule.specs.Machine.{Schedule, sequential, parallel, heartbeat}
use Rattle.language.specs.declared.Counts.{Counts}
use Rattle.language.specs.declared.Stop.{Stop}
use Rattle.language.specs.declared.Answer.{Answer}
use Rattle.language.specs.declared.Answer.TheVariants.{Value, Stopped, Refused}
use Rattle.language.specs.Language.{language}
use Rattle.language.specs.Checks.{frames_in, checked_of}
use Rattle.language.specs.Answers.{entry_code, counts_of, sequential_of, parallel_of, heartbeat_of}
use Rattle.published.specs.CostGraph.{work_of, span_of, fork_count}
use Rattle.published.specs.Adequacy.{Judgment, published, Reaches}
use Rattle.published.specs.StopTheorems.{stops}

-- The judgment of a schedule at a table's entry: Figure 4, 5 or 6.
abbrev pub judged : Schedule → List ℕ → List ℕ → Judgment
judged m w arguments = published (language w) m (entry_code arguments)

-- v is derived within the limits, and k counts that derivation: its transitions, the forks, work and span of its graph (Figure 1), and the most frames that
-- it occupies at once, which is the depth (02, P7).
pub record Counted (J : Judgment) (fuel frames τ v : ℕ) (k : Counts) : Type 0 where
  pub reaches : Reaches J fuel frames v
  pub counts_are : k ≡ counts_of (J.transitions reaches.derivation) (fork_count reaches.graph) (work_of τ reaches.graph)
      (span_of τ reaches.graph) (J.frames reaches.derivation)

-- The place that a stop names, and the derivation of a stop at a table's entry. 01: "The answer is the number, function, node and transitions made.";
-- 02, P7: and the depth.
abbrev pub place_of : Stop → Place
place_of s = record { function = s.function; node = s.node }

abbrev pub stops_judged : Schedule → List ℕ → List ℕ → (fuel frames : ℕ) → Stop → Type 0
stops_judged m w arguments fuel frames s = stops (language w) m (entry_code arguments) fuel frames s.number (place_of s) s.transitions
    s.deepest

-- An answer r is that of a schedule's judgment.
pub record Published (m : Schedule) (w arguments : List ℕ) (fuel N τ workspace : ℕ) (r : Answer) : Type 0 where
  pub value_iff : (v : ℕ) (k : Counts) → (r ≡ Value v k)
      ↔ ((checked_of w (length arguments) fuel N τ workspace ≡ Ok tt)
      × Counted (judged m w arguments) fuel (frames_in workspace) τ v k)
  pub stop_iff : (s : Stop)
      → (r ≡ Stopped s) ↔ ((checked_of w (length arguments) fuel N τ workspace ≡ Ok tt)
      × stops_judged m w arguments fuel (frames_in workspace) s)
  pub refusal_iff : (f : Refusal) → (r ≡ Refused f) ↔ (checked_of w (length arguments) fuel N τ workspace ≡ Err f)

pub record AllPublished (w arguments : List ℕ) (fuel N τ workspace : ℕ) : Type 0 where
  pub figure_4 : Published sequential w arguments fuel N τ workspace (sequential_of w arguments fuel N τ workspace)
  pub figure_5 : Published parallel w arguments fuel N τ workspace (parallel_of w arguments fuel N τ workspace)
  pub figure_6 : Published (heartbeat N) w arguments fuel N τ workspace (heartbeat_of w arguments fuel N τ workspace)

-- THEOREM (proofs/Answers.antt, `demand_2`), for every table, arguments, fuel, N, τ and length of the workspace. Crate `machine` promises that
-- `Schedule::run` answers `answer_of` of its schedule, which is `sequential_of`, `parallel_of` or `heartbeat_of`.
abbrev pub DemandTwo : Type 0
DemandTwo = (w arguments : List ℕ) (fuel N τ workspace : ℕ) → AllPublished w arguments fuel N τ workspace

-- THEOREM (`none_beside_stop`), of any such answer: where it is a stop, the judgment derives no value within the fuel and the frames.
abbrev pub NoneBesideStop : Type 0
NoneBesideStop = (m : Schedule) (w arguments : List ℕ) (fuel N τ workspace : ℕ) (r : Answer) → Published m w arguments fuel N τ workspace r
    → (s : Stop) → r ≡ Stopped s → (v : ℕ) → Reaches (judged m w arguments) fuel (frames_in workspace) v → ⊥
