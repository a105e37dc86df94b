-- What a call tells: where its arguments stand, what it leads to where they are simple, and its one step.
use Rattle.std.specs.Prelude.{Ok}
use Prim.Native.Nat.{ℕ, ◌+◌, ◌*◌, ◌≤◌, ◌<◌, max}
use mathlib.Core.Path.{◌≡◌, refl, ap, ◌∙◌}
use mathlib.Core.Bool.{Bool, true, false, cond}
use mathlib.Core.List.{List, [], ◌∷◌, ◌++◌}
use native.Mathlib.Omega.{arith}
use native.Mathlib.Decide.{ℕ_discrete}
use lib.ListN.{length, get_or, take}
use lib.Dec.{eqb}
use borrow.Author.Tests.{eq-eqb, ne_eqb}
use Rattle.schedule.specs.FrameMachine.{return}
use Rattle.schedule.specs.Stretch.{Leads}
use Rattle.table.specs.Words.{functions, arity_at, start_of, tag_at, a_at, b_at, c_at}
use Rattle.frames.specs.Frames.{appended}
use Rattle.frames.proofs.Writes.{is_appended}
use Rattle.language.specs.Language.{language}
use Rattle.moves.specs.declared.Control.TheVariants.{Eval}
use Rattle.frames.specs.declared.Seat.{Seat}
use Rattle.moves.specs.Layout.{control_of}
use Rattle.moves.specs.Ready.{Stands, Controlled}
use Rattle.moves.proofs.Nodes.{called_in, argument_first, argument_later, enter}
use Rattle.compact.specs.declared.Compact.{Compact}
use Rattle.compact.specs.Compact.{later_of, Roomy}
use Rattle.operands.specs.Operands.{cost_at, frames_of, both_of, simple_at, SimpleAt, CostAt}
use Rattle.strides.specs.Strides.{body_of, Tagged, code_of, Jump}
use Rattle.operands.proofs.Leading.{call_one_leads, call_two_leads, call_three_leads}
use Rattle.strides.proofs.Forms.{first_word, child_cost, child_simple, child_leads, jump}

-- two costs together, where neither is 0
pub both_some : (n k l : ℕ) → n ≡ both_of k l → 0 < n → (0 < k) × (0 < l) × (n ≡ k + l)
both_some n k l e h = on (ℕ_discrete k 0) (ℕ_discrete l 0)
  where
    on : Dec (k ≡ 0) → Dec (l ≡ 0) → (0 < k) × (0 < l) × (n ≡ k + l)
    on (yes a) d = let z : n ≡ 0 = rw (eq-eqb k 0 a) at e in absurd (omega arith)
    on (no a) (yes b) = let z : n ≡ 0 = rw (ne_eqb k 0 a, eq-eqb l 0 b) at e in absurd (omega arith)
    on (no a) (no b) = let z : n ≡ k + l = rw (ne_eqb k 0 a, ne_eqb l 0 b) at e in (omega arith, omega arith, z)

pub both_few : (k l : ℕ) → both_of k l ≤ k + l
both_few k l = on (eqb k 0) (eqb l 0)
  where
    on : (a b : Bool) → cond a 0 (cond b 0 (k + l)) ≤ k + l
    on true b = omega arith
    on false true = omega arith
    on false false = omega arith

-- A CALL of f at its place
module _ {w ls : List ℕ} {g : Compact} {seat : Seat} {start at f : ℕ} (t : Tagged w ls g seat start at 5) (called : f ≡ get_or w (at + 1) 0) where
  pub there : at ≡ start_of w seat.function + 4 * seat.node
  there = t.site.word ∙ ap (λ (s : ℕ). s + 4 * seat.node) t.site.place

  pub tag : tag_at w (start_of w seat.function) seat.node ≡ 5
  tag = rw there at t.is

  pub f_is : f ≡ a_at w (start_of w seat.function) seat.node
  f_is = rw there at called

  known : f < functions w
  known = rw f_is (called_in w t.site.table t.site.stands tag)

  pub callee_inside : 2 * f + 1 < length w
  callee_inside = omega (arith, known, t.site.table.contents.header.room)

  entered : {n : ℕ} → arity_at w f ≡ n → Stands w f 0 n
  entered n = rw n at (enter w t.site.table t.site.stands f known)

  -- its arguments
  first_stands : 0 < arity_at w f → Stands w seat.function (seat.node + 1) seat.count
  first_stands h = argument_first w t.site.table t.site.stands tag (rw f_is at h)

  second_stands : 1 < arity_at w f → Stands w seat.function (get_or w (at + 2) 0) seat.count
  second_stands h = rw there (argument_later w t.site.table t.site.stands tag 1 (omega arith) (rw f_is at h))

  third_stands : 2 < arity_at w f → Stands w seat.function (get_or w (at + 3) 0) seat.count
  third_stands h = rw there (argument_later w t.site.table t.site.stands tag 2 (omega arith) (rw f_is at h))

  pub first_cost : 0 < arity_at w f → CostAt w (at + 4)
  first_cost h = child_cost w ls g seat start at t.site _ (at + 4) (first_stands h) (first_word w ls g seat start at t.site)

  pub second_cost : 1 < arity_at w f → CostAt w (start + 4 * get_or w (at + 2) 0)
  second_cost h = child_cost w ls g seat start at t.site _ _ (second_stands h) refl

  pub third_cost : 2 < arity_at w f → CostAt w (start + 4 * get_or w (at + 3) 0)
  third_cost h = child_cost w ls g seat start at t.site _ _ (third_stands h) refl

  pub first_simple : 0 < arity_at w f → {k : ℕ} → k ≡ cost_at w (at + 4) → 0 < k → SimpleAt w (at + 4) ls 0
  first_simple h {k} e s = child_simple w ls g seat start at t.site _ (at + 4) k (first_stands h) (first_word w ls g seat start at t.site) e s

  pub second_simple : 1 < arity_at w f → {k : ℕ} → k ≡ cost_at w (start + 4 * get_or w (at + 2) 0) → 0 < k → SimpleAt w (start + 4 * get_or w (at + 2) 0) ls 0
  second_simple h {k} e s = child_simple w ls g seat start at t.site _ _ k (second_stands h) refl e s

  pub third_simple : 2 < arity_at w f → {k : ℕ} → k ≡ cost_at w (start + 4 * get_or w (at + 3) 0) → 0 < k → SimpleAt w (start + 4 * get_or w (at + 3) 0) ls 0
  third_simple h {k} e s = child_simple w ls g seat start at t.site _ _ k (third_stands h) refl e s

  module _ {k x : ℕ} (cost : k ≡ cost_at w (at + 4)) (value : simple_at w (at + 4) ls 0 ≡ Ok x) where
    first_leads : 0 < arity_at w f → 0 < k → Leads (language w) (code_of seat (seat.node + 1) ls) (return x) k (frames_of k)
    first_leads h s = child_leads w ls g seat start at t.site _ (at + 4) k (first_stands h) (first_word w ls g seat start at t.site) cost s x value

    pub jump_one : arity_at w f ≡ 1 → {h : ℕ} {ls' : List ℕ} {next : Compact} → h ≡ frames_of k → (0 < k) × Roomy g (k + 2) (h + 1)
        → ls' ≡ appended ls 0 x → next ≡ later_of g (Eval (body_of f 1)) g.depth (k + 2) → Jump w ls g seat ls' next
    unfolding control_of Controlled
    jump_one n {h} {ls'} {next} eh room u e =
        let a = is_appended ls ls' 0 x (omega arith) t.site.sixteen u in
        let are : take 1 ls' ≡ x ∷ [] = a.are in
        let lead = call_one_leads w seat.function seat.node (take seat.count ls) x k (frames_of k) tag (rw f_is at n) (first_leads (omega arith) room.0) in
        jump w ls g seat start at t.site ls' next (Eval (body_of f 1)) (k + 2) (h + 1) (omega arith) e room.1 (rw (f_is, eh, are) lead) (entered n) a.sixteen

    -- with a second, whose words begin at start + 4 * q
    module _ {l y : ℕ} (cost₂ : l ≡ cost_at w (start + 4 * get_or w (at + 2) 0)) (value₂ : simple_at w (start + 4 * get_or w (at + 2) 0) ls 0 ≡ Ok y) where
      second_leads : 1 < arity_at w f → 0 < l → Leads (language w) (code_of seat (b_at w (start_of w seat.function) seat.node) ls) (return y) l (frames_of l)
      second_leads h s =
          let b : get_or w (at + 2) 0 ≡ b_at w (start_of w seat.function) seat.node = ap (λ (z : ℕ). get_or w (z + 2) 0) there in
          rw (← b) (child_leads w ls g seat start at t.site _ _ l (second_stands h) refl cost₂ s y value₂)

      pub jump_two : arity_at w f ≡ 2 → {a b h n made : ℕ} {ls₁ ls' : List ℕ} {next : Compact} → a ≡ frames_of k → b ≡ frames_of l → h ≡ max a b → n ≡ both_of k l
          → (0 < n) × Roomy g (n + 3) (h + 1) → ls₁ ≡ appended ls 0 x → ls' ≡ appended ls₁ 1 y → next ≡ later_of g (Eval (body_of f 2)) g.depth made → made ≡ k + l + 3
          → Jump w ls g seat ls' next
      unfolding control_of Controlled
      jump_two m {a} {b} {h} {n} {made} {ls₁} {ls'} {next} ea eb eh en room u₁ u₂ e em =
          let some = both_some n k l en room.0 in
          let a₁ = is_appended ls ls₁ 0 x (omega arith) t.site.sixteen u₁ in
          let a₂ = is_appended ls₁ ls' 1 y (omega arith) a₁.sixteen u₂ in
          let one : take 1 ls₁ ≡ x ∷ [] = a₁.are in
          let are : take 2 ls' ≡ x ∷ y ∷ [] = a₂.are ∙ ap (λ (v : List ℕ). v ++ (y ∷ [])) one in
          let lead = call_two_leads w seat.function seat.node (take seat.count ls) x y k l (frames_of k) (frames_of l) tag (rw f_is at m) (first_leads (omega arith) some.0) (second_leads (omega arith) some.1) in
          let top : h ≡ max (frames_of k) (frames_of l) = rw (ea, eb) at eh in
          jump w ls g seat start at t.site ls' next (Eval (body_of f 2)) (k + l + 3) (h + 1) (omega arith) (rw em at e) (rw some.2 at room.1) (rw (f_is, top, are) lead) (entered m) a₂.sixteen

      -- and a third, at start + 4 * p
      module _ {i z : ℕ} (cost₃ : i ≡ cost_at w (start + 4 * get_or w (at + 3) 0)) (value₃ : simple_at w (start + 4 * get_or w (at + 3) 0) ls 0 ≡ Ok z) where
        third_leads : 2 < arity_at w f → 0 < i → Leads (language w) (code_of seat (c_at w (start_of w seat.function) seat.node) ls) (return z) i (frames_of i)
        third_leads h s =
            let c : get_or w (at + 3) 0 ≡ c_at w (start_of w seat.function) seat.node = ap (λ (y : ℕ). get_or w (y + 3) 0) there in
            rw (← c) (child_leads w ls g seat start at t.site _ _ i (third_stands h) refl cost₃ s z value₃)

        pub jump_three : arity_at w f ≡ 3 → {a b c d h n j : ℕ} {ls₁ ls₂ ls' : List ℕ} {next : Compact} → a ≡ frames_of k → b ≡ frames_of l → c ≡ frames_of i → d ≡ max b c → h ≡ max a d
            → j ≡ both_of k l → n ≡ both_of j i → (0 < n) × Roomy g (n + 4) (h + 1) → ls₁ ≡ appended ls 0 x → ls₂ ≡ appended ls₁ 1 y → ls' ≡ appended ls₂ 2 z
            → next ≡ later_of g (Eval (body_of f 3)) g.depth (k + l + i + 4) → Jump w ls g seat ls' next
        unfolding control_of Controlled
        jump_three m {a} {b} {c} {d} {h} {n} {j} {ls₁} {ls₂} {ls'} {next} ea eb ec ed eh ej en room u₁ u₂ u₃ e =
            let last = both_some n j i en room.0 in
            let some = both_some j k l ej last.0 in
            let sum : n ≡ k + l + i = omega (arith, last.2, some.2) in
            let a₁ = is_appended ls ls₁ 0 x (omega arith) t.site.sixteen u₁ in
            let a₂ = is_appended ls₁ ls₂ 1 y (omega arith) a₁.sixteen u₂ in
            let a₃ = is_appended ls₂ ls' 2 z (omega arith) a₂.sixteen u₃ in
            let one : take 1 ls₁ ≡ x ∷ [] = a₁.are in
            let two : take 2 ls₂ ≡ x ∷ y ∷ [] = a₂.are ∙ ap (λ (v : List ℕ). v ++ (y ∷ [])) one in
            let are : take 3 ls' ≡ x ∷ y ∷ z ∷ [] = a₃.are ∙ ap (λ (v : List ℕ). v ++ (z ∷ [])) two in
            let lead = call_three_leads w seat.function seat.node (take seat.count ls) x y z k l i (frames_of k) (frames_of l) (frames_of i) tag (rw f_is at m) (first_leads (omega arith) some.0) (second_leads (omega arith) some.1) (third_leads (omega arith) last.1) in
            let top : h ≡ max (frames_of k) (max (frames_of l) (frames_of i)) = rw (ea, rw (eb, ec) at ed) at eh in
            jump w ls g seat start at t.site ls' next (Eval (body_of f 3)) (k + l + i + 4) (h + 1) (omega arith) e (rw sum at room.1) (rw (f_is, top, are) lead) (entered m) a₃.sixteen
