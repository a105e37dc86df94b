-- From a run to the three machines: the arguments as locals, the check before the run, and the three answers together.
--     copied            the copied arguments are the first locals
--     few               there is room for them
--     ran_with          so that the run is that of the arguments
--     zeroed            words that are cleared after a run are what its answer leaves
--     tells_run         an accepted input's answer is that of its run
--     tells_refusal     a refused one's is the refusal
--     left_length, all_three     one workspace for all three
use Prim.Native.Nat.{ℕ, ◌+◌, ◌≤◌}
use mathlib.Core.Path.{◌≡◌, refl, sym, ap, ◌∙◌}
use mathlib.Core.List.{List}
use native.Mathlib.Omega.{arith}
use lib.ListN.{length, take, drop, replicate, length-replicate}
use lib.Seq.{paste, take-paste, take_all}
use Rattle.std.specs.Prelude.{Ok, Err}
use Rattle.schedule.specs.Graph.{Graph}
use Rattle.schedule.specs.Machine.{Schedule, sequential, parallel, heartbeat, Outcome, ended, ongoing, value, stop}
use Rattle.table.specs.declared.Refusal.{Refusal}
use Rattle.table.specs.Read.{Reading}
use Rattle.language.specs.declared.Answer.{Answer}
use Rattle.language.specs.declared.Answer.TheVariants.{Value, Stopped, Refused}
use Rattle.language.specs.Checks.{checked_of}
use Rattle.language.specs.Admitted.{Admitted}
use Rattle.language.specs.Answers.{told_by, after_check, run_of, answer_of, sequential_of, parallel_of, heartbeat_of}
use Rattle.language.proofs.Told.{answer_refused, answer_run}
use Rattle.language.proofs.Stops.{listed_of}
use Rattle.language.proofs.Claim.{claim_of, same_depth_of, stops_agree_of}
use Rattle.moves.specs.declared.Plan.{Plan}
use Rattle.machine.specs.Workspace.{left_by}
use Rattle.machine.specs.Runs.{Accepted, Ran, Tells}
use Rattle.graph_answers.specs.declared.Graphed.{Graphed}
use Rattle.graph_answers.specs.Answers.{graphed_of, graph_left}
use Rattle.graph_answers.proofs.Claim.{claim_lent, claim_or_25, same_depth_lent, stops_agree_lent}
use Rattle.machine.specs.Written.{StopToldLent}
use Rattle.machine.specs.AllThree.{AllThree, AllThreeGraphs}

pub copied : (before arguments after : List ℕ) → length arguments ≤ length before
    → after ≡ paste before 0 (drop 0 arguments) (length arguments) → take (length arguments) after ≡ arguments
copied before arguments after h e =
    let whole : length arguments ≡ 0 + length arguments = omega arith in
    rw e (ap (λ (n : ℕ). take n (paste before 0 arguments (length arguments))) whole ∙ take-paste before 0 arguments (length arguments) (omega arith) (omega arith) ∙ take_all (length arguments) arguments (omega arith))

pub few : (w arguments ws : List ℕ) (plan : Plan) → Accepted w arguments ws plan → length arguments ≤ 3
few w arguments ws plan a = omega (arith, a.count, (a.table.contents.entries 0 a.table.contents.header.some).arity)

pub ran_with : (w from arguments : List ℕ) (size : ℕ) (plan : Plan) (r : Answer) → from ≡ arguments → Ran w from size plan r → Ran w arguments size plan r
ran_with w from arguments size plan r e h = rw e at h

pub zeroed : (ws ws' : List ℕ) (n : ℕ) (r : Answer) → ws' ≡ replicate n 0 → n ≡ length ws → left_by r ws ≡ replicate (length ws) 0 → ws' ≡ left_by r ws
zeroed ws ws' n r e l left = e ∙ ap (λ (k : ℕ). replicate k 0) l ∙ sym left

-- `asked` are the words of the workspace that the check was told of
module _ (w arguments : List ℕ) (fuel N τ size asked : ℕ) (read : Reading) (told : read ≡ checked_of w (length arguments) fuel N τ asked) where
  pub tells_run : read ≡ Ok tt → Admitted w (length arguments) fuel N τ asked → asked ≡ size
      → (plan : Plan) (r : Answer) → Ran w arguments size plan r → plan.fuel.0 ≡ fuel → plan.tau ≡ τ
      → Tells w arguments fuel N τ size plan.birth plan.period r
  tells_run e a same plan r ran f t m suits =
      (rw (f, t) at (ran.answers m (rw f (suits a.fuel.most)))) ∙ answer_run m w arguments fuel N τ size (rw same at (sym told ∙ e))

  pub tells_refusal : (f : Refusal) → read ≡ Err f → asked ≡ size → (m : Schedule) → Refused f ≡ answer_of m w arguments fuel N τ size
  tells_refusal f e same m = answer_refused m w arguments fuel N τ size f (rw same at (sym told ∙ e))

-- ONE WORKSPACE: by what the check says
unfoldable left_after : Reading → List ℕ → List ℕ
left_after (Ok _) ws = replicate (length ws) 0
left_after (Err r) ws = ws

told_left : {X : Type 0} (τ : ℕ) (o : Outcome Graph X) (ws : List ℕ) → left_by (told_by τ o) ws ≡ replicate (length ws) 0
unfolding left_by told_by
told_left τ (ended (value v) g t) ws = refl
told_left τ (ended (stop i p) g t) ws = refl
told_left τ (ongoing s) ws = refl

left_checked : {X : Type 0} (c : Reading) (τ : ℕ) (o : Outcome Graph X) (ws : List ℕ) → left_by (after_check c (told_by τ o)) ws ≡ left_after c ws
unfolding after_check left_by left_after
left_checked (Ok _) τ o ws = told_left τ o ws
left_checked (Err r) τ o ws = refl

left_answer : (m : Schedule) (w arguments : List ℕ) (fuel N τ size : ℕ) (ws : List ℕ)
    → left_by (answer_of m w arguments fuel N τ size) ws ≡ left_after (checked_of w (length arguments) fuel N τ size) ws
unfolding answer_of run_of
left_answer m w arguments fuel N τ size ws = left_checked (checked_of w (length arguments) fuel N τ size) τ _ ws

left_graphed : (m : Schedule) (w arguments : List ℕ) (fuel N τ size lent : ℕ) (ws : List ℕ)
    → left_by (graphed_of m w arguments fuel N τ size lent).answer ws ≡ left_after (checked_of w (length arguments) fuel N τ size) ws
unfolding graphed_of
left_graphed m w arguments fuel N τ size lent ws = left_checked (checked_of w (length arguments) fuel N τ size) τ _ ws

pub left_length : (a : Answer) (ws : List ℕ) → length (left_by a ws) ≡ length ws
unfolding left_by
left_length (Value v t) ws = length-replicate _ _
left_length (Stopped s) ws = length-replicate _ _
left_length (Refused r) ws = refl

left_again : (c : Reading) (ws : List ℕ) → left_after c (left_after c ws) ≡ left_after c ws
unfolding left_after
left_again (Ok _) ws = simp length-replicate
left_again (Err r) ws = refl

module _ (w arguments : List ℕ) (fuel N τ : ℕ) (ws ws₁ ws₂ ws₃ : List ℕ) (s p h : Answer) where
  pub all_three : s ≡ sequential_of w arguments fuel N τ (length ws) → ws₁ ≡ left_by s ws
      → p ≡ parallel_of w arguments fuel N τ (length ws₁) → ws₂ ≡ left_by p ws₁
      → h ≡ heartbeat_of w arguments fuel N τ (length ws₂) → ws₃ ≡ left_by h ws₂
      → AllThree w arguments fuel N τ ws ws₃ (record { sequential = s; parallel = p; heartbeat = h })
  all_three es e₁ ep e₂ eh e₃ =
      let l₁ : length ws₁ ≡ length ws = ap length e₁ ∙ left_length s ws in
      let l₂ : length ws₂ ≡ length ws = ap length e₂ ∙ left_length p ws₁ ∙ l₁ in
      let fp : p ≡ parallel_of w arguments fuel N τ (length ws) = ep ∙ ap (λ (n : ℕ). parallel_of w arguments fuel N τ n) l₁ in
      let fh : h ≡ heartbeat_of w arguments fuel N τ (length ws) = eh ∙ ap (λ (n : ℕ). heartbeat_of w arguments fuel N τ n) l₂ in
      let c = checked_of w (length arguments) fuel N τ (length ws) in
      let a₁ : left_by s ws ≡ left_after c ws = ap (λ (a : Answer). left_by a ws) es ∙ left_answer sequential w arguments fuel N τ (length ws) ws in
      let b₁ : ws₁ ≡ left_after c ws = e₁ ∙ a₁ in
      let b₂ : ws₂ ≡ left_after c ws = e₂ ∙ ap (λ (a : Answer). left_by a ws₁) fp ∙ left_answer parallel w arguments fuel N τ (length ws) ws₁ ∙ ap (left_after c) b₁ ∙ left_again c ws in
      let b₃ : ws₃ ≡ left_after c ws = e₃ ∙ ap (λ (a : Answer). left_by a ws₂) fh ∙ left_answer (heartbeat N) w arguments fuel N τ (length ws) ws₂ ∙ ap (left_after c) b₂ ∙ left_again c ws in
      record {
        sequential = es;
        parallel = fp;
        heartbeat = fh;
        workspace = b₃ ∙ sym a₁;
        sequential_stop = listed_of sequential w arguments fuel N τ (length ws) s es;
        parallel_stop = listed_of parallel w arguments fuel N τ (length ws) p fp;
        heartbeat_stop = listed_of (heartbeat N) w arguments fuel N τ (length ws) h fh;
        demand_3 = claim_of w arguments fuel N τ (length ws) s p h es fp fh;
        same_depth = same_depth_of w arguments fuel N τ (length ws) s p h es fp fh;
        stops_agree = stops_agree_of w arguments fuel N τ (length ws) s p h es fp fh;
      }

-- ONE WORKSPACE, and a buffer for each
module _ (w arguments : List ℕ) (fuel N τ : ℕ) (ws ws₁ ws₂ ws₃ a b c a' b' c' : List ℕ) (s p h : Graphed) where
  pub all_three_graphs : s ≡ graphed_of sequential w arguments fuel N τ (length ws) (length a) → ws₁ ≡ left_by s.answer ws
      → a' ≡ graph_left sequential w arguments fuel N τ (length ws) a → StopToldLent w fuel s.answer
      → p ≡ graphed_of parallel w arguments fuel N τ (length ws₁) (length b) → ws₂ ≡ left_by p.answer ws₁
      → b' ≡ graph_left parallel w arguments fuel N τ (length ws₁) b → StopToldLent w fuel p.answer
      → h ≡ graphed_of (heartbeat N) w arguments fuel N τ (length ws₂) (length c) → ws₃ ≡ left_by h.answer ws₂
      → c' ≡ graph_left (heartbeat N) w arguments fuel N τ (length ws₂) c → StopToldLent w fuel h.answer
      → AllThreeGraphs w arguments fuel N τ ws a b c ws₃ a' b' c' (record { sequential = s; parallel = p; heartbeat = h })
  all_three_graphs es e₁ ga ls ep e₂ gb lp eh e₃ gc lh =
      let l₁ : length ws₁ ≡ length ws = ap length e₁ ∙ left_length s.answer ws in
      let l₂ : length ws₂ ≡ length ws = ap length e₂ ∙ left_length p.answer ws₁ ∙ l₁ in
      let fp : p ≡ graphed_of parallel w arguments fuel N τ (length ws) (length b) = ep ∙ ap (λ (n : ℕ). graphed_of parallel w arguments fuel N τ n (length b)) l₁ in
      let fh : h ≡ graphed_of (heartbeat N) w arguments fuel N τ (length ws) (length c) = eh ∙ ap (λ (n : ℕ). graphed_of (heartbeat N) w arguments fuel N τ n (length c)) l₂ in
      let C = checked_of w (length arguments) fuel N τ (length ws) in
      let a₁ : left_by s.answer ws ≡ left_after C ws = ap (λ (x : Graphed). left_by x.answer ws) es ∙ left_graphed sequential w arguments fuel N τ (length ws) (length a) ws in
      let b₁ : ws₁ ≡ left_after C ws = e₁ ∙ a₁ in
      let b₂ : ws₂ ≡ left_after C ws = e₂ ∙ ap (λ (x : Graphed). left_by x.answer ws₁) fp ∙ left_graphed parallel w arguments fuel N τ (length ws) (length b) ws₁ ∙ ap (left_after C) b₁ ∙ left_again C ws in
      let b₃ : ws₃ ≡ left_after C ws = e₃ ∙ ap (λ (x : Graphed). left_by x.answer ws₂) fh ∙ left_graphed (heartbeat N) w arguments fuel N τ (length ws) (length c) ws₂ ∙ ap (left_after C) b₂ ∙ left_again C ws in
      let is = ap (λ (x : Graphed). x.answer) es in
      let ip = ap (λ (x : Graphed). x.answer) fp in
      let ih = ap (λ (x : Graphed). x.answer) fh in
      record {
        sequential = es;
        parallel = fp;
        heartbeat = fh;
        workspace = b₃ ∙ sym a₁;
        sequential_graph = ga;
        parallel_graph = gb ∙ ap (λ (n : ℕ). graph_left parallel w arguments fuel N τ n b) l₁;
        heartbeat_graph = gc ∙ ap (λ (n : ℕ). graph_left (heartbeat N) w arguments fuel N τ n c) l₂;
        sequential_stop = ls;
        parallel_stop = lp;
        heartbeat_stop = lh;
        demand_3 = λ x y. rw (is, ip, ih) (claim_lent w arguments fuel N τ (length ws) (length a) (length b) (length c) (rw ip at x) (rw ih at y));
        demand_3_or_25 = λ v k x. rw (ip, ih) (claim_or_25 w arguments fuel N τ (length ws) (length a) (length b) (length c) v k (sym is ∙ x));
        same_depth = rw (is, ip, ih) (same_depth_lent w arguments fuel N τ (length ws) (length a) (length b) (length c));
        stops_agree = rw (is, ip, ih) (stops_agree_lent w arguments fuel N τ (length ws) (length a) (length b) (length c));
      }
