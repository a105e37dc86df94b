-- What every stop of an accepted table tells: its nodes are known, and what is known leads to what is known (crate `schedule`, proofs/Stopping.antt). A
-- code is known if it stands in a body's tree, and a frame if its node does and has the tag of its kind.
use Prim.Native.Nat.{ℕ, zero, suc, ◌+◌, ◌≤◌, ◌<◌}
use Rattle.std.specs.Prelude as prelude
use Rattle.std.specs.Prelude.{Ok, Err}
use mathlib.Core.Path.{◌≡◌, refl, ap, sym, ◌∙◌}
use mathlib.Core.Bool.{Bool, true, false, cond}
use mathlib.Core.List.{List, [], ◌∷◌, ◌++◌}
use native.Mathlib.Omega.{arith}
use lib.Dec.{ltb, eqb}
use lib.ListN.{length, length-append}
use borrow.Author.Tests.{ltb-true}
use Rattle.std.specs.Prelude.{Ok, Err}
use Rattle.table.specs.Read.{Reading}
use Rattle.table.specs.declared.Operation.{Operation}
use Rattle.table.specs.declared.Node.{Node}
use Rattle.table.specs.declared.Node.TheVariants.{Constant, Local, Arithmetic, Choose, Let, Call, Both, Unknown}
use Rattle.table.specs.Words.{functions, arity_at, nodes_at, start_of, body_at, tag_at, a_at, b_at, c_at}
use Rattle.table.specs.Nodes.{node_at}
use Rattle.table.specs.WellFormed.{Subtree, root, Children, Assured, call, WellFormed}
use Rattle.table.proofs.Views.{assured, tag_for, node_tag, known_node, at_arithmetic, at_choose, at_let, at_call, at_both, first_of, later_of_lem}
use Rattle.schedule.specs.Graph.{Graph}
use Rattle.schedule.specs.Algebra.{graphs}
use Rattle.schedule.specs.FrameMachine.{Place, evaluate, close, keep}
use Rattle.schedule.specs.FrameMachine.{Next as FlatNext, Arrival as FlatArrival}
use Rattle.schedule.specs.Machine.{value, stop, Result, ended, ongoing, Schedule}
use Rattle.schedule.specs.Machine as machine
use Rattle.schedule.specs.Runs.{outcome}
use Rattle.schedule.proofs.Finish.{finishes}
use Rattle.schedule.proofs.Stopping as stopping
use Rattle.schedule.proofs.Stopping.{NextOk, ArrivalOk, Leading}
use Rattle.arithmetic.specs.declared.Failure.{Failure}
use Rattle.arithmetic.specs.declared.Failure.TheVariants.{TooLarge, BelowZero, DivisionByZero}
use Rattle.arithmetic.specs.Operate.{computed, number_of}
use Rattle.language.specs.declared.Stop.{Stop}
use Rattle.language.specs.declared.Answer.{Answer}
use Rattle.language.specs.declared.Answer.TheVariants.{Value, Stopped, Refused}
use Rattle.language.specs.Language as language
use Rattle.language.specs.Language.{Code, Frame, left_operand, right_operand, condition, binding, argument, place, frame_place, result, operated, next, gathered, arrive}
use Rattle.language.specs.Checks.{frames_in, checked_of}
use Rattle.language.specs.Answers.{entry_code, told_by, after_check, run_of, answer_of}
use Rattle.language.specs.Stops.{Listed, StopListed, StopsListed}
use Rattle.language.proofs.Admission.{checked_iff}

-- A number of 01's list, at a node of the table.
record Tells (w : List ℕ) (i : ℕ) (p : Place) : Type 0 where
  least : 20 ≤ i
  most : i ≤ 24
  function : p.function < functions w
  node : p.node < nodes_at w p.function

module _ (w : List ℕ) where
  -- A subtree of function f's body stands at p.
  record Stands (f p : ℕ) : Type 0 where
    function : f < functions w
    level : ℕ
    bound : ℕ
    after : ℕ
    tree : Subtree w (body_at w f) level p bound after

  -- And has this tag.
  record Tagged (c : Code) (tag : ℕ) : Type 0 where
    stands : Stands c.function c.node
    is : tag_at w (start_of w c.function) c.node ≡ tag

  abbrev CodeOk : Code → Type 0
  CodeOk c = Stands c.function c.node

  abbrev FrameOk : Frame → Type 0
  FrameOk (left_operand c) = Tagged c 2
  FrameOk (right_operand c x) = Tagged c 2
  FrameOk (condition c) = Tagged c 3
  FrameOk (binding c) = Tagged c 4
  FrameOk (argument c vs) = Tagged c 5

  abbrev ForkOk : Code → Type 0
  ForkOk c = Tagged c 6

-- What is made of a node, and of a value that returns to a frame, at a place.
abbrev Nexts : (w : List ℕ) → Place → FlatNext Code Frame Code → Type 0
Nexts w = NextOk (language.language w) (CodeOk w) (FrameOk w) (ForkOk w) (Tells w)

abbrev Arrives : (w : List ℕ) → Place → FlatArrival Code Frame → Type 0
Arrives w = ArrivalOk (language.language w) (CodeOk w) (FrameOk w) (ForkOk w) (Tells w)

-- A node that stands is in the table.
tells_at : (w : List ℕ) (i : ℕ) (c : Code) → 20 ≤ i → i ≤ 24 → CodeOk w c → Tells w i (place c)
tells_at w i c a b s = record { least = a; most = b; function = s.function; node = inside s.tree }
  where
    inside : {level p k q : ℕ} → Subtree w (body_at w c.function) level p k q → p < nodes_at w c.function
    inside (root h z ch) = h

-- And a place with the same numbers.
spent_at : (w : List ℕ) (c : Code) {p : Place} → CodeOk w c → p.function ≡ c.function → p.node ≡ c.node → Tells w 20 p
spent_at w c s f n =
    let z = tells_at w 20 c (omega arith) (omega arith) s in
    record { least = z.least; most = z.most; function = rw f z.function; node = rw (f, n) z.node }

-- An operation's stop is 22, 23 or 24.
pub record Arithmetical (i : ℕ) : Type 0 where
  pub least : 22 ≤ i
  pub most : i ≤ 24

pub number_known : (e : Failure) → Arithmetical (number_of e)
number_known TooLarge = record { least = omega arith; most = omega arith }
number_known BelowZero = record { least = omega arith; most = omega arith }
number_known DivisionByZero = record { least = omega arith; most = omega arith }

result_known : (w : List ℕ) (c : Code) → CodeOk w c → (r : prelude.Result ℕ Failure) → Arrives w (place c) (result r)
unfolding result
result_known w c s (Ok v) = tt
result_known w c s (Err e) = let a = number_known e in record { tells = tells_at w (number_of e) c (omega arith) (omega arith) s; other = λ e. omega arith }

module _ (w : List ℕ) (table : WellFormed w) where
  -- A function's body.
  enter : (g : ℕ) → g < functions w → Stands w g 0
  enter g h = record { function = h; level = 1; bound = arity_at w g; after = nodes_at w g; tree = table.trees g h }

  module _ (c : Code) (s : CodeOk w c) where
    abbrev node : Node
    node = node_at w (start_of w c.function) c.node

    there : {level p bound after : ℕ} → Subtree w (body_at w c.function) level p bound after → Stands w c.function p
    there {level} {p} {bound} {after} t = record { function = s.function; level = level; bound = bound; after = after; tree = t }

    tag_is : (o : Node) → node ≡ o → tag_at w (start_of w c.function) c.node ≡ tag_for o
    tag_is o e = sym (node_tag (tag_at w (start_of w c.function) c.node) _ _ _ (known_node w (body_at w c.function) s.tree)) ∙ ap tag_for e

    tagged : (o : Node) (tag : ℕ) → node ≡ o → tag_for o ≡ tag → Tagged w c tag
    tagged o tag e t = record { stands = s; is = tag_is o e ∙ t }

    called : {f b d : ℕ} {level k q : ℕ} → Assured w (body_at w c.function) level c.node k q (Call f b d)
        → (n : ℕ) → arity_at w f ≡ n → Tagged w c 5
        → Nexts w (place c) (language.call w c f n)
    unfolding language.call
    called {f} (call h ch) zero e t = enter f h
    called (call h ch) (suc n) e t = (t, there (first_of w (body_at w c.function) ch (omega arith)).tree)

    next_known : (o : Node) → node ≡ o → Nexts w (place c) (next w c o)
    unfolding next tag_for
    next_known (Constant v) e = tt
    next_known (Local slot) e = tt
    next_known (Arithmetic o b) e =
        let t = tagged (Arithmetic o b) 2 e refl in (t, there (at_arithmetic w (body_at w c.function) s.tree t.is).2)
    next_known (Choose b d) e =
        let t = tagged (Choose b d) 3 e refl in (t, there (at_choose w (body_at w c.function) s.tree t.is).0)
    next_known (Let b) e = let t = tagged (Let b) 4 e refl in (t, there (at_let w (body_at w c.function) s.tree t.is).1)
    next_known (Call f b d) e =
        called (rw e at (assured w (body_at w c.function) s.tree)) (arity_at w f) refl (tagged (Call f b d) 5 e refl)
    next_known (Both b d) e = let t = tagged (Both b d) 6 e refl in (t, there (at_both w (body_at w c.function) s.tree t.is).1)
    next_known Unknown e = absurd (known_node w (body_at w c.function) s.tree e)

  -- By the tag of a frame's node.
  module _ (c : Code) where
    operands : (t : Tagged w c 2)
        → (o : Operation) × (node_at w (start_of w c.function) c.node ≡ Arithmetic o (b_at w (start_of w c.function) c.node))
        × Stands w c.function (b_at w (start_of w c.function) c.node)
    operands t =
        let a = at_arithmetic w (body_at w c.function) t.stands.tree t.is in (a.0, a.1, there c t.stands a.3)

    operated_known : (t : Tagged w c 2) (x v : ℕ)
        → Arrives w (place c) (operated (node_at w (start_of w c.function) c.node) x v)
    unfolding operated
    operated_known t x v =
        let a = operands t in rw a.1 (result_known w c t.stands (computed a.0 x v))

    chosen : (t : Tagged w c 3) (q : Bool)
        → Stands w c.function (cond q (c_at w (start_of w c.function) c.node) (b_at w (start_of w c.function) c.node))
    chosen t true = there c t.stands (at_choose w (body_at w c.function) t.stands.tree t.is).2
    chosen t false = there c t.stands (at_choose w (body_at w c.function) t.stands.tree t.is).1

    gathered_known : (t : Tagged w c 5) (vs : List ℕ) → 1 ≤ length vs
        → Arrives w (place c) (gathered w c vs)
    unfolding gathered
    gathered_known t vs l = on (ltb (length vs) (arity_at w (language.called w c))) refl
      where
        ch : (a_at w (start_of w c.function) c.node < functions w)
            × Children w (body_at w c.function) (t.stands.level + 1) c.node t.stands.bound t.stands.bound t.stands.after
            (b_at w (start_of w c.function) c.node) (c_at w (start_of w c.function) c.node)
            (arity_at w (a_at w (start_of w c.function) c.node))
        ch = at_call w (body_at w c.function) t.stands.tree t.is

        on : (q : Bool) → ltb (length vs) (arity_at w (language.called w c)) ≡ q
            → Arrives w (place c)
            (cond q (keep (argument c vs) (language.at c (cond (ltb 1 (length vs)) (language.third w c) (language.second w c)) c.locals))
            (close (evaluate (language.entered (language.called w c) vs))))
        on true e =
            (t, there c t.stands (later_of_lem w (body_at w c.function) (length vs) ch.1 (ltb-true _ _ e) (table.contents.entries _ ch.0).arity l).tree)
        on false e = enter (language.called w c) ch.0

  arrive_known : (f : Frame) (v : ℕ) → FrameOk w f → Arrives w (frame_place f) (arrive w f v)
  unfolding arrive
  arrive_known (left_operand c) v t = (t, (operands c t).2)
  arrive_known (right_operand c x) v t = operated_known c t x v
  arrive_known (condition c) v t = chosen c t (eqb v 0)
  arrive_known (binding c) v t = there c t.stands (at_let w (body_at w c.function) t.stands.tree t.is).2
  arrive_known (argument c vs) v t = gathered_known c t (vs ++ (v ∷ [])) (omega (arith, length-append vs (v ∷ [])))

  spent_known : (f : Frame) → FrameOk w f → Tells w 20 (frame_place f)
  spent_known (left_operand c) t = spent_at w c t.stands (omega arith) (omega arith)
  spent_known (right_operand c x) t = spent_at w c t.stands (omega arith) (omega arith)
  spent_known (condition c) t = spent_at w c t.stands (omega arith) (omega arith)
  spent_known (binding c) t = spent_at w c t.stands (omega arith) (omega arith)
  spent_known (argument c vs) t = spent_at w c t.stands (omega arith) (omega arith)

  known : Leading (language.language w) (CodeOk w) (FrameOk w) (ForkOk w) (Tells w)
  known = record {
    spent_at_code = λ c s. spent_at w c s refl refl;
    spent_at_frame = spent_known;
    spent_at_fork = λ c t. spent_at w c t.stands (omega arith) (omega arith);
    full_at_code = λ c s. tells_at w 21 c (omega arith) (omega arith) s;
    next = λ c s. next_known c s _ refl;
    arrive = arrive_known;
    right = λ c t. there c t.stands (at_both w (body_at w c.function) t.stands.tree t.is).2;
    body = λ c u v t. there c t.stands (at_both w (body_at w c.function) t.stands.tree t.is).3;
  }

-- The stop of an answer that has one.
unfoldable pub stop_of : Stop → Answer → Stop
stop_of other (Value v k) = other
stop_of other (Stopped s) = s
stop_of other (Refused r) = other

module _ (m : Schedule) (w arguments : List ℕ) (fuel N τ workspace : ℕ) (s : Stop) where
  abbrev ran : Result graphs (language.language w)
  ran = outcome graphs (language.language w) fuel (frames_in workspace) m (entry_code arguments)

  ended_so : (table : WellFormed w) (i : ℕ) (p : Place) (g : Graph) (t : machine.RunCounts) → ran ≡ ended (stop i p) g t
      → ◌≡◌ {A = Stop} (record { number = i; function = p.function; node = p.node; transitions = t.transitions; deepest = t.deepest }) s → Listed w fuel s
  ended_so table i p g t e q =
      let a = stopping.told (language.language w) (CodeOk w) (FrameOk w) (ForkOk w) (Tells w) graphs fuel (frames_in workspace) (known w table) m
      (entry_code arguments) (enter w table 0 (omega (arith, table.contents.header.some))) i p g t e in
      let z : Listed w fuel (record { number = i; function = p.function; node = p.node; transitions = t.transitions; deepest = t.deepest }) = record {
        least = a.tells.least;
        most = omega arith;
        function = a.tells.function;
        node = a.tells.node;
        within_fuel = a.within_fuel;
        spent = λ h. a.spent (omega arith);
      } in
      rw q at z

  ran_so : WellFormed w → (o : Result graphs (language.language w)) → ran ≡ o → told_by τ o ≡ Stopped s → Listed w fuel s
  unfolding told_by stop_of
  ran_so table (ended (value v) g t) e q = let no : ◌≡◌ {A = ℕ} 0 1 = cc in absurd (omega arith)
  ran_so table (ended (stop i p) g t) e q = ended_so table i p g t e (ap (stop_of s) q)
  ran_so table (ongoing u) e q =
      let z = finishes graphs (language.language w) fuel (frames_in workspace) m (entry_code arguments) in
      let k = z.1.is in
      let no : ◌≡◌ {A = ℕ} 0 1 = cc in
      absurd (omega arith)

  checked_so : (r : Reading) → checked_of w (length arguments) fuel N τ workspace ≡ r
      → after_check r (run_of m w arguments fuel τ workspace) ≡ Stopped s → Listed w fuel s
  unfolding after_check run_of
  checked_so (Ok _) e q = ran_so ((checked_iff w (length arguments) fuel N τ workspace).0 e).table _ refl q
  checked_so (Err r) e q = absurd cc

pub stops_listed : StopsListed
unfolding answer_of
stops_listed m w arguments fuel N τ workspace s e = checked_so m w arguments fuel N τ workspace s _ refl e

-- and so of any answer that is a machine's
pub listed_of : (m : Schedule) (w arguments : List ℕ) (fuel N τ workspace : ℕ) (r : Answer) → r ≡ answer_of m w arguments fuel N τ workspace
    → StopListed w fuel r
listed_of m w arguments fuel N τ workspace r e s q = stops_listed m w arguments fuel N τ workspace s (sym e ∙ q)
