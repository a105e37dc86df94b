-- The depth of every answer: within the frames, all of them at a stop 21, and just as many as a value needs.
use Prim.Native.Nat.{ℕ, zero, suc, ◌*◌, ◌≤◌}
use Rattle.std.specs.Prelude as prelude
use Rattle.std.specs.Prelude.{Ok, Err}
use mathlib.Core.Path.{◌≡◌, refl, ap, ◌∙◌}
use mathlib.Core.Bool.{Bool, true, false}
use mathlib.Core.List.{List, [], ◌∷◌, ◌++◌}
use native.Mathlib.Omega.{arith}
use lib.Dec.{ltb}
use lib.ListN.{length}
use Rattle.std.specs.Prelude.{Ok, Err}
use Rattle.table.specs.Read.{Reading}
use Rattle.table.specs.declared.Node.{Node}
use Rattle.table.specs.declared.Node.TheVariants.{Constant, Local, Arithmetic, Choose, Let, Call, Both, Unknown}
use Rattle.table.specs.Words.{arity_at}
use Rattle.arithmetic.specs.declared.Failure.{Failure}
use Rattle.arithmetic.specs.Operate.{computed, number_of}
use Rattle.schedule.specs.Graph.{Graph}
use Rattle.schedule.specs.Algebra.{graphs}
use Rattle.schedule.specs.FrameMachine.{stuck, fail}
use Rattle.schedule.specs.Machine as machine
use Rattle.schedule.specs.Machine.{value, stop, Result, ended, ongoing, Schedule}
use Rattle.schedule.specs.Runs.{outcome}
use Rattle.schedule.specs.Depth.{NoOwn21}
use Rattle.schedule.proofs.Finish.{finishes}
use Rattle.schedule.proofs.Depth.{depth_within, full_at_21, frames_enough}
use Rattle.language.specs.declared.Counts.{Counts}
use Rattle.language.specs.declared.Stop.{Stop}
use Rattle.language.specs.declared.Answer.TheVariants.{Value, Stopped}
use Rattle.language.specs.Language as language
use Rattle.language.specs.Language.{Code, Frame, left_operand, right_operand, condition, binding, argument, result, operated, call, next, gathered, arrive}
use Rattle.language.specs.Checks.{frames_in, checked_of}
use Rattle.language.specs.Admitted.{Admitted}
use Rattle.language.specs.Answers.{entry_code, told_by, after_check, run_of, answer_of, deepest_of}
use Rattle.language.specs.Depth.{DepthsWithin, FullAtStop21, JustEnough}
use Rattle.language.proofs.Admission.{checked_iff}
use Rattle.language.proofs.Stops.{number_known}
use Rattle.language.proofs.House.{value_admitted}
use Rattle.language.proofs.Values.{value_ran}

-- Stop 21 is the machine's own: an operation's is 22 to 24, and an unknown node's 4.
module _ (w : List ℕ) where
  called_not_21 : (c : Code) (f n : ℕ) → call w c f n ≡ stuck 21 → ⊥
  unfolding call
  called_not_21 c f zero e = let no : ◌≡◌ {A = ℕ} 0 1 = cc in omega arith
  called_not_21 c f (suc n) e = let no : ◌≡◌ {A = ℕ} 0 1 = cc in omega arith

  next_not_21 : (c : Code) (n : Node) → next w c n ≡ stuck 21 → ⊥
  unfolding next
  next_not_21 c (Constant v) e = let no : ◌≡◌ {A = ℕ} 0 1 = cc in omega arith
  next_not_21 c (Local slot) e = let no : ◌≡◌ {A = ℕ} 0 1 = cc in omega arith
  next_not_21 c (Arithmetic o b) e = let no : ◌≡◌ {A = ℕ} 0 1 = cc in omega arith
  next_not_21 c (Choose b d) e = let no : ◌≡◌ {A = ℕ} 0 1 = cc in omega arith
  next_not_21 c (Let b) e = let no : ◌≡◌ {A = ℕ} 0 1 = cc in omega arith
  next_not_21 c (Call f b d) e = called_not_21 c f (arity_at w f) e
  next_not_21 c (Both b d) e = let no : ◌≡◌ {A = ℕ} 0 1 = cc in omega arith
  next_not_21 c Unknown e = let no : ◌≡◌ {A = ℕ} 4 21 = cc in omega arith

  result_not_21 : (r : prelude.Result ℕ Failure) → result r ≡ fail 21 → ⊥
  unfolding result
  result_not_21 (Ok v) e = let no : ◌≡◌ {A = ℕ} 0 1 = cc in omega arith
  result_not_21 (Err d) e = let is : number_of d ≡ 21 = cc in omega (arith, (number_known d).least)

  operated_not_21 : (n : Node) (x y : ℕ) → operated n x y ≡ fail 21 → ⊥
  unfolding operated
  operated_not_21 (Constant v) x y e = let no : ◌≡◌ {A = ℕ} 4 21 = cc in omega arith
  operated_not_21 (Local slot) x y e = let no : ◌≡◌ {A = ℕ} 4 21 = cc in omega arith
  operated_not_21 (Arithmetic o b) x y e = result_not_21 (computed o x y) e
  operated_not_21 (Choose b d) x y e = let no : ◌≡◌ {A = ℕ} 4 21 = cc in omega arith
  operated_not_21 (Let b) x y e = let no : ◌≡◌ {A = ℕ} 4 21 = cc in omega arith
  operated_not_21 (Call f b d) x y e = let no : ◌≡◌ {A = ℕ} 4 21 = cc in omega arith
  operated_not_21 (Both b d) x y e = let no : ◌≡◌ {A = ℕ} 4 21 = cc in omega arith
  operated_not_21 Unknown x y e = let no : ◌≡◌ {A = ℕ} 4 21 = cc in omega arith

  gathered_not_21 : (c : Code) (vs : List ℕ) → gathered w c vs ≡ fail 21 → ⊥
  unfolding gathered
  gathered_not_21 c vs e = on (ltb (length vs) (arity_at w (language.called w c))) refl e
    where
      on : (q : Bool) → ltb (length vs) (arity_at w (language.called w c)) ≡ q → gathered w c vs ≡ fail 21 → ⊥
      on true h e = let no : ◌≡◌ {A = ℕ} 0 1 = cc in omega arith
      on false h e = let no : ◌≡◌ {A = ℕ} 0 1 = cc in omega arith

  arrive_not_21 : (f : Frame) (v : ℕ) → arrive w f v ≡ fail 21 → ⊥
  unfolding arrive
  arrive_not_21 (left_operand c) v e = let no : ◌≡◌ {A = ℕ} 0 1 = cc in omega arith
  arrive_not_21 (right_operand c x) v e = operated_not_21 _ x v e
  arrive_not_21 (condition c) v e = let no : ◌≡◌ {A = ℕ} 0 1 = cc in omega arith
  arrive_not_21 (binding c) v e = let no : ◌≡◌ {A = ℕ} 0 1 = cc in omega arith
  arrive_not_21 (argument c vs) v e = gathered_not_21 c (vs ++ (v ∷ [])) e

  own : NoOwn21 (language.language w)
  own = record { at_code = λ c e. next_not_21 c _ e; at_frame = arrive_not_21 }

module _ (m : Schedule) (w arguments : List ℕ) (fuel τ : ℕ) where
  abbrev ran : ℕ → Result graphs (language.language w)
  ran workspace = outcome graphs (language.language w) fuel (frames_in workspace) m (entry_code arguments)

  -- The depth that a run tells is the one that it counts.
  told_depth : (z : machine.Ending) (g : Graph) (t : machine.RunCounts)
      → deepest_of (told_by {X = machine.State graphs (language.language w)} τ (ended z g t)) ≡ t.deepest
  unfolding deepest_of told_by
  told_depth (value v) g t = refl
  told_depth (stop i p) g t = refl

  run_within : (workspace : ℕ) → deepest_of (run_of m w arguments fuel τ workspace) ≤ frames_in workspace
  unfolding run_of
  run_within workspace =
      let e = finishes graphs (language.language w) fuel (frames_in workspace) m (entry_code arguments) in
      let within = depth_within graphs (language.language w) fuel (frames_in workspace) m (entry_code arguments) e.0 e.1.cost e.1.counts e.1.is in
      omega (arith, ap (λ o. deepest_of (told_by τ o)) e.1.is, told_depth e.0 e.1.cost e.1.counts, within)

  check_within : (workspace : ℕ) (r : Reading) → deepest_of (after_check r (run_of m w arguments fuel τ workspace)) ≤ frames_in workspace
  unfolding after_check deepest_of
  check_within workspace (Ok _) = run_within workspace
  check_within workspace (Err r) = omega arith

  full_run : (workspace : ℕ) (s : Stop) (o : Result graphs (language.language w)) → ran workspace ≡ o → told_by τ o ≡ Stopped s → s.number ≡ 21
      → s.deepest ≡ frames_in workspace
  unfolding told_by
  full_run workspace s (ended (value v) g t) e q h = let no : ◌≡◌ {A = ℕ} 0 1 = cc in absurd (omega arith)
  full_run workspace s (ended (stop i p) g t) e q h =
      let number : i ≡ s.number = cc in
      let depth : t.deepest ≡ s.deepest = cc in
      let is : i ≡ 21 = omega arith in
      let full = full_at_21 graphs (language.language w) fuel (frames_in workspace) m (entry_code arguments) p g t (own w) (rw is at e) in
      omega (arith, depth, full)
  full_run workspace s (ongoing u) e q h = let no : ◌≡◌ {A = ℕ} 0 21 = cc in absurd (omega arith)

  full_check : (workspace : ℕ) (s : Stop) (r : Reading) → after_check r (run_of m w arguments fuel τ workspace) ≡ Stopped s → s.number ≡ 21
      → s.deepest ≡ frames_in workspace
  unfolding after_check run_of
  full_check workspace s (Ok _) q h = full_run workspace s _ refl q h
  full_check workspace s (Err r) q h = absurd cc

pub depths_within : DepthsWithin
unfolding answer_of
depths_within m w arguments fuel N τ workspace =
    let within = check_within m w arguments fuel τ workspace (checked_of w (length arguments) fuel N τ workspace) in
    omega (arith, within)

pub full_at_stop_21 : FullAtStop21
unfolding answer_of
full_at_stop_21 m w arguments fuel N τ workspace s e h =
    full_check m w arguments fuel τ workspace s (checked_of w (length arguments) fuel N τ workspace) e (omega (arith, h))

-- A value's workspace, of another number of frames.
resized : {w : List ℕ} {count fuel N τ workspace : ℕ} → Admitted w count fuel N τ workspace → (k : ℕ) → 1 ≤ k → k ≤ 4096
    → Admitted w count fuel N τ (32 * k)
resized a k least most = record {
  table = a.table;
  arguments = a.arguments;
  fuel = a.fuel;
  period = a.period;
  tau = a.tau;
  whole = omega arith;
  frames = record { least = omega arith; most = omega arith };
}

pub just_enough : JustEnough
unfolding answer_of after_check run_of told_by deepest_of
just_enough m w arguments fuel N τ workspace v a e k least most = ((λ q. omega (arith, only q)), (λ h. enough (omega (arith, h))))
  where
    frames : frames_in (32 * k) ≡ k
    frames = omega arith

    only : answer_of m w arguments fuel N τ (32 * k) ≡ Value v a → a.deepest ≤ k
    only q = omega (arith, depths_within m w arguments fuel N τ (32 * k), ap deepest_of q, frames)

    enough : a.deepest ≤ k → answer_of m w arguments fuel N τ (32 * k) ≡ Value v a
    enough h =
        let r = value_ran m w arguments fuel τ workspace v a N e in
        let room : r.t.deepest ≤ frames_in (32 * k) = omega (arith, ap (λ (x : Counts). x.deepest) r.counted, frames) in
        let again = frames_enough graphs (language.language w) fuel (frames_in workspace) (frames_in (32 * k)) m (entry_code arguments) v r.g r.t r.is room in
        let accepted = (checked_iff w (length arguments) fuel N τ (32 * k)).1 (resized (value_admitted m w arguments fuel N τ workspace v a e) k least most) in
        rw accepted (ap (told_by τ) again ∙ ap (Value v) r.counted)
