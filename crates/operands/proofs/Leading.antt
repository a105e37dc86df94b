-- What a node of the job language leads to, where its children have values by ordinary frames alone.
use Prim.Native.Nat.{ℕ, ◌+◌, max}
use Rattle.std.specs.Prelude.{Ok}
use mathlib.Core.Path.{◌≡◌, refl}
use mathlib.Core.Bool.{cond}
use mathlib.Core.List.{List, [], ◌∷◌, ◌++◌}
use native.Mathlib.Omega.{arith}
use lib.ListN.{get_or}
use lib.Dec.{eqb}
use Rattle.schedule.specs.FrameMachine.{evaluate, return, go_on, open_frame, close, keep}
use Rattle.schedule.specs.Stretch.{Leads, goes, enters, Through, closes, keeps}
use Rattle.table.specs.declared.Operation.{Operation}
use Rattle.table.specs.declared.Node.{Node}
use Rattle.table.specs.declared.Node.TheVariants.{Constant, Local, Arithmetic}
use Rattle.table.specs.Words.{arity_at, start_of, tag_at}
use Rattle.table.specs.Nodes.{node_of, node_at}
use Rattle.arithmetic.specs.Operate.{computed}
use Rattle.language.specs.Language.{Code, left_operand, right_operand, condition, binding, argument, at, first, entered, second, third, called, next, call, arrive, gathered, result, operated, language}

module _ (w : List ℕ) (f p : ℕ) (ls : List ℕ) where
  abbrev code : Code
  code = record { function = f; node = p; locals = ls }

  abbrev node : Node
  node = node_at w (start_of w f) p

  pub constant_leads : (v : ℕ) → node ≡ Constant v → Leads (language w) code (return v) 1 0
  unfolding next
  constant_leads v e = let q : next w code node ≡ go_on (return v) = rw e in goes q refl refl

  pub local_leads : (slot : ℕ) → node ≡ Local slot → Leads (language w) code (return (get_or ls slot 0)) 1 0
  unfolding next
  local_leads slot e = let q : next w code node ≡ go_on (return (get_or ls slot 0)) = rw e in goes q refl refl

  -- a left operand x arrives: the right one has the value y
  pub right_through : (o : Operation) (b x y v j c : ℕ) → node ≡ Arithmetic o b → Leads (language w) (at code (second w code) ls) (return y) j c
      → computed o x y ≡ Ok v → Through (language w) (left_operand code) x (return v) (j + 2) c
  unfolding arrive operated result
  right_through o b x y v j c e u q =
      let r : arrive w (right_operand code x) y ≡ close (return v) = rw (e, q) in
      keeps {k = j + 2} {h = c} (right_operand code x) (at code (second w code) ls) y j 1 c 0 refl u (closes r refl refl) (omega arith) (omega arith)

  pub arithmetic_leads : (o : Operation) (b x y v i j a c : ℕ) → node ≡ Arithmetic o b → Leads (language w) (first code) (return x) i a
      → Leads (language w) (at code (second w code) ls) (return y) j c → computed o x y ≡ Ok v → Leads (language w) code (return v) (i + j + 3) (max a c + 1)
  unfolding next
  arithmetic_leads o b x y v i j a c e t u q =
      let n : next w code node ≡ open_frame (left_operand code) (first code) = rw e in
      enters {k = i + j + 3} {h = max a c + 1} (left_operand code) (first code) x i (j + 2) a c n t (right_through o b x y v j c e u q) (omega arith) (omega arith)

  pub choose_leads : (x i a : ℕ) → tag_at w (start_of w f) p ≡ 3 → Leads (language w) (first code) (return x) i a
      → Leads (language w) code (evaluate (at code (cond (eqb x 0) (third w code) (second w code)) ls)) (i + 2) (a + 1)
  unfolding next node_of arrive
  choose_leads x i a e t =
      let n : next w code node ≡ open_frame (condition code) (first code) = rw e in
      enters {k = i + 2} {h = a + 1} (condition code) (first code) x i 1 a 0 n t (closes refl refl refl) (omega arith) (omega arith)

  pub let_leads : (x i a : ℕ) → tag_at w (start_of w f) p ≡ 4 → Leads (language w) (first code) (return x) i a
      → Leads (language w) code (evaluate (at code (second w code) (ls ++ (x ∷ [])))) (i + 2) (a + 1)
  unfolding next node_of arrive
  let_leads x i a e t =
      let n : next w code node ≡ open_frame (binding code) (first code) = rw e in
      enters {k = i + 2} {h = a + 1} (binding code) (first code) x i 1 a 0 n t (closes refl refl refl) (omega arith) (omega arith)

  pub call_one_leads : (x i a : ℕ) → tag_at w (start_of w f) p ≡ 5 → arity_at w (called w code) ≡ 1 → Leads (language w) (first code) (return x) i a
      → Leads (language w) code (evaluate (entered (called w code) (x ∷ []))) (i + 2) (a + 1)
  unfolding next node_of call arrive gathered
  call_one_leads x i a e n t =
      let m : next w code node ≡ open_frame (argument code []) (first code) = rw (e, n) in
      let r : arrive w (argument code []) x ≡ close (evaluate (entered (called w code) (x ∷ []))) = rw n in
      enters {k = i + 2} {h = a + 1} (argument code []) (first code) x i 1 a 0 m t (closes r refl refl) (omega arith) (omega arith)

  pub call_two_leads : (x y i j a c : ℕ) → tag_at w (start_of w f) p ≡ 5 → arity_at w (called w code) ≡ 2 → Leads (language w) (first code) (return x) i a
      → Leads (language w) (at code (second w code) ls) (return y) j c
      → Leads (language w) code (evaluate (entered (called w code) (x ∷ y ∷ []))) (i + j + 3) (max a c + 1)
  unfolding next node_of call arrive gathered
  call_two_leads x y i j a c e n t u =
      let m : next w code node ≡ open_frame (argument code []) (first code) = rw (e, n) in
      let r : arrive w (argument code []) x ≡ keep (argument code (x ∷ [])) (at code (second w code) ls) = rw n in
      let z : arrive w (argument code (x ∷ [])) y ≡ close (evaluate (entered (called w code) (x ∷ y ∷ []))) = rw n in
      enters {k = i + j + 3} {h = max a c + 1} (argument code []) (first code) x i (j + 2) a c m t
      (keeps {k = j + 2} {h = c} (argument code (x ∷ [])) (at code (second w code) ls) y j 1 c 0 r u (closes z refl refl) (omega arith) (omega arith))
      (omega arith) (omega arith)

  pub call_three_leads : (x y z i j l a c d : ℕ) → tag_at w (start_of w f) p ≡ 5 → arity_at w (called w code) ≡ 3 → Leads (language w) (first code) (return x) i a
      → Leads (language w) (at code (second w code) ls) (return y) j c → Leads (language w) (at code (third w code) ls) (return z) l d
      → Leads (language w) code (evaluate (entered (called w code) (x ∷ y ∷ z ∷ []))) (i + j + l + 4) (max a (max c d) + 1)
  unfolding next node_of call arrive gathered
  call_three_leads x y z i j l a c d e n t u v =
      let m : next w code node ≡ open_frame (argument code []) (first code) = rw (e, n) in
      let r : arrive w (argument code []) x ≡ keep (argument code (x ∷ [])) (at code (second w code) ls) = rw n in
      let q : arrive w (argument code (x ∷ [])) y ≡ keep (argument code (x ∷ y ∷ [])) (at code (third w code) ls) = rw n in
      let o : arrive w (argument code (x ∷ y ∷ [])) z ≡ close (evaluate (entered (called w code) (x ∷ y ∷ z ∷ []))) = rw n in
      enters {k = i + j + l + 4} {h = max a (max c d) + 1} (argument code []) (first code) x i (j + l + 3) a (max c d) m t
      (keeps {k = j + l + 3} {h = max c d} (argument code (x ∷ [])) (at code (second w code) ls) y j (l + 2) c d r u
      (keeps {k = l + 2} {h = d} (argument code (x ∷ y ∷ [])) (at code (third w code) ls) z l 1 d 0 q v (closes o refl refl) (omega arith) (omega arith))
      (omega arith) (omega arith))
      (omega arith) (omega arith)
