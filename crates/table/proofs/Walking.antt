-- What each way through a call of the walk tells.
use Prim.Native.Nat.{ℕ, zero, suc, ◌+◌, ◌<◌, ◌≤◌}
use mathlib.Core.Path.{◌≡◌, refl, sym}
use mathlib.Core.List.{List}
use native.Mathlib.Omega.{arith}
use borrow.Author.Tests.{le-leb, lt-leb, eq-eqb, ne_eqb}
use Rattle.std.specs.Prelude.{Some, None, Ok, Err}
use Rattle.table.specs.declared.Body.{Body}
use Rattle.table.specs.declared.Fault.{Fault}
use Rattle.table.specs.declared.Shape.{Shape}
use Rattle.table.specs.Words.{b_at, c_at}
use Rattle.table.specs.Walk.{Walked, fault_at, shape_at, number_of, next, after_first, children, own, walk_of, Walks}
use Rattle.table.proofs.Shapes.{sound, last_few}

-- a number other than 0 and 1, and one other than 0, 1 and 2
two_more : (n : ℕ) → (n ≡ 0 → ⊥) → (n ≡ 1 → ⊥) → (j : ℕ) × (n ≡ suc (suc j))
two_more zero n0 n1 = absurd (n0 refl)
two_more (suc zero) n0 n1 = absurd (n1 refl)
two_more (suc (suc j)) n0 n1 = (j, refl)

three_more : (n : ℕ) → (n ≡ 0 → ⊥) → (n ≡ 1 → ⊥) → (n ≡ 2 → ⊥) → (j : ℕ) × (n ≡ suc (suc (suc j)))
three_more zero n0 n1 n2 = absurd (n0 refl)
three_more (suc zero) n0 n1 n2 = absurd (n1 refl)
three_more (suc (suc zero)) n0 n1 n2 = absurd (n2 refl)
three_more (suc (suc (suc j))) n0 n1 n2 = (j, refl)

module _ (w : List ℕ) (body : Body) (level p k : ℕ) where
  -- a fault moves nowhere
  stops : (r : Walked) (fault : Fault) → r ≡ Err fault → ((bound : ℕ) → body.nodes ≤ p + bound → Err fault ≡ walk_of bound w body level p k) → Walks w body level p k r
  stops r fault is same = rw is (record { same = same; moves = λ q u. absurd cc })

  pub walks_end : {r : Walked} → r ≡ fault_at 18 p → body.nodes ≤ p → Walks w body level p k r
  unfolding walk_of
  walks_end is h = stops _ _ is go
    where
      go : (bound : ℕ) → body.nodes ≤ p + bound → fault_at 18 p ≡ walk_of bound w body level p k
      go zero g = refl
      go (suc bound) g = rw (le-leb _ _ h)

  module _ (s : Shape) (h : p < body.nodes) (e : s ≡ shape_at w body.start p k) where
    -- inside the body, the walk at a bound is that of the children at one less
    inside : {r : Walked} → ((bound : ℕ) → body.nodes ≤ p + 1 + bound → r ≡ own (number_of s level) p (children (walk_of bound w body (level + 1)) (b_at w body.start p) (c_at w body.start p) p k s.last s.children)) → (bound : ℕ) → body.nodes ≤ p + bound → r ≡ walk_of bound w body level p k
    unfolding walk_of
    inside f zero g = absurd (omega arith)
    inside f (suc bound) g = rw (lt-leb _ _ h, ← e) (f bound (omega arith))

    pub walks_own : {r : Walked} {number : ℕ} → r ≡ fault_at number p → Some number ≡ number_of s level → Walks w body level p k r
    unfolding own
    walks_own is x = stops _ _ is (inside (λ bound g. rw (← x)))

    module _ (none : None ≡ number_of s level) where
      pub deeper : k ≤ 16 → (level + 1 ≤ 65) × (s.last ≤ 16)
      deeper few = let o = sound s level (sym none) in (omega (arith, o.low), rw e (last_few w _ _ _ k few _ (rw e at o.bound)))

      within : {r : Walked} → ((bound : ℕ) → body.nodes ≤ p + 1 + bound → r ≡ children (walk_of bound w body (level + 1)) (b_at w body.start p) (c_at w body.start p) p k s.last s.children) → (bound : ℕ) → body.nodes ≤ p + bound → r ≡ walk_of bound w body level p k
      unfolding own
      within f = inside (λ bound g. rw (← none) (f bound g))

      pub walks_leaf : s.children ≡ 0 → Walks w body level p k (Ok (p + 1))
      unfolding children
      walks_leaf z = record { same = within (λ bound g. rw z); moves = λ q u. let v : p + 1 ≡ q = cc in omega arith }

      pub walks_first : {r : Walked} {fault : Fault} → r ≡ Err fault → (s.children ≡ 0 → ⊥) → Walks w body (level + 1) (p + 1) k (Err fault) → Walks w body level p k r
      unfolding children next
      walks_first {r} {fault} is n0 f = at s.children refl
        where
          at : (n : ℕ) → s.children ≡ n → Walks w body level p k r
          at zero z = absurd (n0 z)
          at (suc zero) z = stops _ _ is (within (λ bound g. rw (z, ← f.same bound g)))
          at (suc (suc n)) z = stops _ _ is (within (λ bound g. rw (z, ← f.same bound g)))

      pub walks_one : {first : Walked} → Walks w body (level + 1) (p + 1) k first → s.children ≡ 1 → Walks w body level p k first
      unfolding children
      walks_one f z = record { same = within (λ bound g. rw z (f.same bound g)); moves = λ q u. omega (arith, f.moves q u) }

      module _ {m : ℕ} (f : Walks w body (level + 1) (p + 1) k (Ok m)) where
        module _ {b : ℕ} (n0 : s.children ≡ 0 → ⊥) (n1 : s.children ≡ 1 → ⊥) (d : b ≡ b_at w body.start p) where
          pub walks_b : {r : Walked} → r ≡ fault_at 17 p → (b ≡ m → ⊥) → Walks w body level p k r
          unfolding children next
          walks_b is v = let j = two_more _ n0 n1 in stops _ _ is (within (λ bound g. rw (j.1, ← f.same bound g, ← d, ne_eqb _ _ v)))

          module _ (v : b ≡ m) where
            pub within_b : (p < b) × (b < body.nodes + 1)
            within_b = omega (arith, f.moves m refl)

            pub walks_two : {r : Walked} → s.children ≡ 2 → Walks w body (level + 1) b s.last r → Walks w body level p k r
            unfolding children next after_first
            walks_two z g = record {
              same = within (λ bound l. rw (z, ← f.same bound l, ← d, eq-eqb _ _ v) (g.same bound (omega (arith, f.moves m refl))));
              moves = λ q x. omega (arith, f.moves m refl, g.moves q x);
            }

            module _ (n2 : s.children ≡ 2 → ⊥) where
              pub walks_second : {r : Walked} {fault : Fault} → r ≡ Err fault → Walks w body (level + 1) b k (Err fault) → Walks w body level p k r
              unfolding children next after_first
              walks_second is g = let j = three_more _ n0 n1 n2 in stops _ _ is (within (λ bound l. rw (j.1, ← f.same bound l, ← d, eq-eqb _ _ v, ← g.same bound (omega (arith, f.moves m refl)))))

              module _ {o c : ℕ} (g : Walks w body (level + 1) b k (Ok o)) (t : c ≡ c_at w body.start p) where
                pub walks_c : {r : Walked} → r ≡ fault_at 17 p → (c ≡ o → ⊥) → Walks w body level p k r
                unfolding children next after_first
                walks_c is y = let j = three_more _ n0 n1 n2 in stops _ _ is (within (λ bound l. rw (j.1, ← f.same bound l, ← d, eq-eqb _ _ v, ← g.same bound (omega (arith, f.moves m refl)), ← t, ne_eqb _ _ y)))

                pub within_c : c ≡ o → (p < c) × (c < body.nodes + 1)
                within_c y = omega (arith, f.moves m refl, g.moves o refl)

                pub walks_three : {r : Walked} → c ≡ o → Walks w body (level + 1) c s.last r → Walks w body level p k r
                unfolding children next after_first
                walks_three y a = let j = three_more _ n0 n1 n2 in record {
                  same = within (λ bound l. rw (j.1, ← f.same bound l, ← d, eq-eqb _ _ v, ← g.same bound (omega (arith, f.moves m refl)), ← t, eq-eqb _ _ y) (a.same bound (omega (arith, f.moves m refl, g.moves o refl))));
                  moves = λ q z. omega (arith, f.moves m refl, g.moves o refl, a.moves q z);
                }
