-- What the functions that tell a report have to show.
--     Complete, has, lacks    an input's words, by the test of them
--     turned_away, told       the report on words that are no job, and on a job
--     dividable               what the breadth's division asks of the answers
--     cramped                 a buffer without room for a report
--     overhead_bounded        what the default N buys
--     no_words, by_words      the report on bytes that are no words, and on bytes that are
--     too_long, ragged, all_words   which bytes are words
-- Assumes nothing.
use mathlib.Core.Path.{◌≡◌, refl, sym, ◌∙◌}
use Prim.Native.Nat.{ℕ, ◌+◌, ◌-◌, ◌*◌, ◌%◌, ◌≤◌, ◌<◌}
use mathlib.Core.Bool.{Bool, true, false, ◌&&◌}
use mathlib.Core.List.{List}
use native.Mathlib.Omega.{arith}
use lib.ListN.{length, take, drop, length-drop}
use lib.Seq.{take_all, length-take-le}
use lib.Dec.{leb}
use borrow.Author.Tests.{leb-true, le-leb, lt-leb, eq-eqb, ne_eqb}
use Rattle.schedule.proofs.Moves.{and_true}
use Rattle.io.specs.Counts.{IsPrefixLen as ByteCount}
use Rattle.schedule.specs.Machine.{sequential, parallel, heartbeat}
use Rattle.language.specs.Values.{SpanPositive, WorkAtMost}
use Rattle.language.proofs.Values.{spans_positive, sequential_work}
use Rattle.language.proofs.Stops.{stops_listed}
use Rattle.language.proofs.Claim.{claim, same_depth, stops_agree}
use Rattle.language.proofs.House.{house_overhead}
use Rattle.language.specs.declared.Answer.{Answer}
use Rattle.machine.specs.declared.ByMachine.{ByMachine}
use Rattle.machine.specs.AllThree.{AllThree}
use Rattle.report.specs.Input.{count_of, words_of, or_house, period_word, job_of, complete, whole}
use Rattle.lines.specs.Lines.{report_lines}
use Rattle.lines.specs.Buffer.{Wrote}
use Rattle.report.specs.Report.{no_job, StopsListedOf, DemandThreeOf, SameDepthOf, StopsAgreeOf, FivePercentOf, lines_on, words_report, words_leave, report_of, left_after, WordsReported, Reported}
use Rattle.lines.proofs.Buffer.{same}

-- what a complete input has
pub record Complete (w : List ℕ) : Type 0 where
  pub four : 4 ≤ length w
  pub few : count_of w ≤ 3
  pub room : 4 + 2 * count_of w ≤ length w

parts : (w : List ℕ) → complete w ≡ true → Complete w
unfolding complete
parts w h =
    let a = and_true (leb 4 (length w)) (leb (count_of w) 3 && leb (4 + 2 * count_of w) (length w)) h in
    let b = and_true (leb (count_of w) 3) (leb (4 + 2 * count_of w) (length w)) a.1 in
    record { four = leb-true _ _ a.0; few = leb-true _ _ b.0; room = leb-true _ _ b.1 }

module _ (w : List ℕ) (answer : Bool) (is : answer ≡ complete w) where
  pub lacks : answer ≡ false → complete w ≡ false
  lacks h = sym is ∙ h

  pub passes : answer ≡ true → complete w ≡ true
  passes h = sym is ∙ h

  pub has : answer ≡ true → Complete w
  has h = parts w (passes h)

pub from_on : (w : List ℕ) (from : ℕ) → take (length w - from) (drop from w) ≡ drop from w
from_on w from = take_all (length w - from) (drop from w) (simp length-drop (omega arith))

module _ (w ws out out' : List ℕ) (r : ℕ) where
  pub turned_away : complete w ≡ false → Wrote out 0 no_job out' r → WordsReported w ws out ws out' r
  unfolding words_report words_leave
  turned_away h wrote = record { wrote = rw h wrote; workspace = rw h }

  pub told : (ws' : List ℕ) (answers : ByMachine Answer) (table arguments : List ℕ) (fuel N τ : ℕ) → complete w ≡ true
      → table ≡ (job_of w).table → arguments ≡ (job_of w).arguments → fuel ≡ (job_of w).fuel → N ≡ (job_of w).period → τ ≡ (job_of w).tau
      → AllThree table arguments fuel N τ ws ws' answers
      → Wrote out 0 (report_lines answers.sequential answers.parallel answers.heartbeat) out' r → WordsReported w ws out ws' out' r
  unfolding words_report words_leave lines_on
  told ws' answers table arguments fuel N τ h et ea ef en ep a wrote = record {
    wrote = rw (h, ← et, ← ea, ← ef, ← en, ← ep, ← a.sequential, ← a.parallel, ← a.heartbeat) wrote;
    workspace = rw (h, ← et, ← ea, ← ef, ← en, ← ep, ← a.sequential) a.workspace;
  }

-- No value's span is 0, and the sequential work has its bound.
pub dividable : (table arguments : List ℕ) (fuel N τ : ℕ) (ws ws' : List ℕ) (answers : ByMachine Answer)
    → AllThree table arguments fuel N τ ws ws' answers
    → WorkAtMost 100000000 answers.sequential × SpanPositive answers.parallel
dividable table arguments fuel N τ ws ws' answers a = (
  λ v counts e. sequential_work table arguments fuel N τ (length ws) v counts (sym a.sequential ∙ e),
  λ v counts e. spans_positive parallel table arguments fuel N τ (length ws) v counts (sym a.parallel ∙ e),
)

module _ (bytes ws out : List ℕ) where
  every : DemandThreeOf (job_of (words_of bytes)) (length ws)
  every = claim _ _ _ _ _ _

  one_depth : SameDepthOf (job_of (words_of bytes)) (length ws)
  one_depth = same_depth _ _ _ _ _ _

  alike : StopsAgreeOf (job_of (words_of bytes)) (length ws)
  alike = stops_agree _ _ _ _ _ _

  overhead_bounded : FivePercentOf (words_of bytes) (length ws)
  unfolding job_of or_house
  overhead_bounded h = let zero : period_word (words_of bytes) ≡ 0 = omega (arith, h) in rw zero (house_overhead _ _ _ _ _)

  listed : StopsListedOf (job_of (words_of bytes)) (length ws)
  listed = record {
    sequential_stop = stops_listed sequential _ _ _ _ _ _;
    parallel_stop = stops_listed parallel _ _ _ _ _ _;
    heartbeat_stop = stops_listed (heartbeat _) _ _ _ _ _ _;
  }

  pub cramped : length out < 512 → Reported bytes ws out ws out 0 × ByteCount 0 out
  cramped h = (record { number = rw (lt-leb 512 (length out) h); written = rw (lt-leb 512 (length out) h); workspace = rw (lt-leb 512 (length out) h); stops = listed; demand_3 = every; same_depth = one_depth; stops_agree = alike; five_percent = overhead_bounded }, (omega arith, refl))

  pub reported : (ws' out' : List ℕ) (r : ℕ) (text : List ℕ) → 512 ≤ length out → text ≡ report_of bytes (length ws) → ws' ≡ left_after bytes ws
      → Wrote out 0 text out' r → Reported bytes ws out ws' out' r × ByteCount r out'
  reported ws' out' r text h is left wrote =
      let end : r ≡ length text = omega (arith, wrote.ends) in
      let room : r ≤ length out' = omega (arith, wrote.fits, same wrote) in (
        record {
          number = rw (le-leb 512 (length out) h, ← is) end;
          written = rw (le-leb 512 (length out) h, ← is, ← end) wrote.content;
          workspace = rw (le-leb 512 (length out) h) left;
          stops = listed;
          demand_3 = every;
          same_depth = one_depth;
          stops_agree = alike;
          five_percent = overhead_bounded;
        },
        (room, sym (length-take-le r out' room)),
      )

  pub no_words : (out' : List ℕ) (r : ℕ) → whole bytes ≡ false → 512 ≤ length out → Wrote out 0 no_job out' r
      → Reported bytes ws out ws out' r × ByteCount r out'
  unfolding report_of left_after
  no_words out' r w h wrote = reported ws out' r no_job h (rw w) (rw w) wrote

  pub by_words : (ws' out' : List ℕ) (r : ℕ) (words : List ℕ) → whole bytes ≡ true → 512 ≤ length out → words ≡ words_of bytes
      → WordsReported words ws out ws' out' r → Reported bytes ws out ws' out' r × ByteCount r out'
  unfolding report_of left_after
  by_words ws' out' r words w h is g =
      reported ws' out' r (words_report words (length ws)) h (rw (w, is)) (g.workspace ∙ rw (w, is)) g.wrote

pub too_long : (bytes : List ℕ) → 65536 < length bytes → whole bytes ≡ false
unfolding whole
too_long bytes h = rw (lt-leb (length bytes) 65536 h)

pub ragged : (bytes : List ℕ) → length bytes ≤ 65536 → (length bytes % 4 ≡ 0 → ⊥) → whole bytes ≡ false
unfolding whole
ragged bytes h g = rw (le-leb (length bytes) 65536 h, ne_eqb (length bytes % 4) 0 g)

pub all_words : (bytes : List ℕ) → length bytes ≤ 65536 → length bytes % 4 ≡ 0 → whole bytes ≡ true
unfolding whole
all_words bytes h g = rw (le-leb (length bytes) 65536 h, eq-eqb (length bytes % 4) 0 g)
