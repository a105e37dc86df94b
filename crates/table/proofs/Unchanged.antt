-- P4 changed numbers and nothing else: each part of the reading, with 4, 16, 17 and 18 read as 4, is the part of before.
use Prim.Native.Nat.{ℕ, zero, suc, ◌+◌}
use mathlib.Core.Path.{◌≡◌, refl, sym, ap, ◌∙◌}
use mathlib.Core.List.{List}
use mathlib.Core.Bool.{Bool, true, false, cond}
use mathlib.Core.Logic.{◌↔◌}
use lib.ListN.{length}
use lib.Dec.{leb, eqb}
use Rattle.std.specs.Prelude.{Some, None, Ok, Err}
use Rattle.table.specs.declared.Body.{Body}
use Rattle.table.specs.declared.Shape.{Shape}
use Rattle.table.specs.Words.{functions, arity_at, nodes_at, start_of, body_at}
use Rattle.table.specs.Walk.{Walked, fault_at, shape_at, number_of, next, after_first, children, own, walk_of}
use Rattle.table.specs.Read.{Reading, ◌then◌, unless, header_test, header, entry_test, entry, exact, root_of, body_read, each, contents, bodies, read_of}
use Rattle.table.specs.Before.{number_before, next_before, after_first_before, children_before, walk_before, root_before, body_before, read_before, as_four, read_as_four, Unchanged, AcceptedBefore}
use Rattle.table.proofs.Acceptance.{read_iff}

walk_as_four : Walked → Walked
walk_as_four (Ok q) = Ok q
walk_as_four (Err fault) = fault_at (as_four fault.number) fault.node

own_unchanged : (s : Shape) (level p : ℕ) (rest : Walked) → walk_as_four (own (number_of s level) p rest) ≡ own (number_before s level) p (walk_as_four rest)
unfolding walk_as_four own
own_unchanged s level p rest = at s.known s.clear s.bound (leb level 64)
  where
    at : (x y z l : Bool) → walk_as_four (own (cond x (cond y (cond z (cond l None (Some 6)) (Some 5)) (Some 16)) (Some 4)) p rest) ≡ own (cond x (cond y (cond z (cond l None (Some 6)) (Some 5)) (Some 4)) (Some 4)) p (walk_as_four rest)
    at true true true true = refl
    at true true true false = refl
    at true true false l = refl
    at true false z l = refl
    at false y z l = refl

next_unchanged : (b p : ℕ) (r rest : Walked) → walk_as_four (next b p r rest) ≡ next_before b p (walk_as_four r) (walk_as_four rest)
unfolding walk_as_four next next_before
next_unchanged b p (Err fault) rest = refl
next_unchanged b p (Ok m) rest = at (eqb b m)
  where
    at : (t : Bool) → walk_as_four (cond t rest (fault_at 17 p)) ≡ cond t (walk_as_four rest) (fault_at 4 p)
    at true = refl
    at false = refl

module _ (sub before : ℕ → ℕ → Walked) (same : (p k : ℕ) → walk_as_four (sub p k) ≡ before p k) (b c p k last : ℕ) where
  after_unchanged : (n : ℕ) → walk_as_four (after_first sub b c p k last n) ≡ after_first_before before b c p k last n
  unfolding after_first after_first_before
  after_unchanged zero = same b last
  after_unchanged (suc n) = rw (next_unchanged c p (sub b k) (sub c last), same b k, same c last)

  children_unchanged : (n : ℕ) → walk_as_four (children sub b c p k last n) ≡ children_before before b c p k last n
  unfolding walk_as_four children children_before
  children_unchanged zero = refl
  children_unchanged (suc zero) = same (p + 1) k
  children_unchanged (suc (suc n)) = rw (next_unchanged b p (sub (p + 1) k) (after_first sub b c p k last n), same (p + 1) k, after_unchanged n)

module _ (w : List ℕ) (body : Body) where
  walk_unchanged : (bound level p k : ℕ) → walk_as_four (walk_of bound w body level p k) ≡ walk_before bound w body level p k
  unfolding walk_as_four walk_of walk_before
  walk_unchanged zero level p k = refl
  walk_unchanged (suc bound) level p k = at _ refl _ _ (leb body.nodes p) (own_unchanged s level p _ ∙ ap (own (number_before s level) p) (children_unchanged _ _ (walk_unchanged bound (level + 1)) _ _ p k s.last s.children))
    where
      s : Shape
      s = shape_at w body.start p k

      at : (n : ℕ) → as_four n ≡ 4 → (x y : Walked) (t : Bool) → walk_as_four x ≡ y → walk_as_four (cond t (fault_at n p) x) ≡ cond t (fault_at 4 p) y
      at n four x y true e = ap (λ m. fault_at m p) four
      at n four x y false e = e

root_unchanged : (nodes f : ℕ) (r : Walked) → read_as_four (root_of nodes f r) ≡ root_before nodes f (walk_as_four r)
unfolding walk_as_four read_as_four root_of root_before
root_unchanged nodes f (Err fault) = refl
root_unchanged nodes f (Ok q) = at (eqb q nodes)
  where
    at : (t : Bool) → read_as_four (unless t 18 f q) ≡ unless t 4 f q
    at true = refl
    at false = refl

-- the parts in order
pub then_unchanged : (a b : Reading) → read_as_four (a then b) ≡ (read_as_four a then read_as_four b)
unfolding read_as_four ◌then◌
then_unchanged (Ok _) b = refl
then_unchanged (Err r) b = refl

each_unchanged : (told before : ℕ → Reading) → ((f : ℕ) → read_as_four (told f) ≡ before f) → (n f : ℕ) → read_as_four (each told n f) ≡ each before n f
unfolding read_as_four each
each_unchanged told before same zero f = refl
each_unchanged told before same (suc n) f = rw (then_unchanged (told f) (each told n (f + 1)), same f, each_unchanged told before same n (f + 1))

-- a number that is read as it is, as 1 to 3 are
pub unless_unchanged : (t : Bool) (number function node : ℕ) → as_four number ≡ number → read_as_four (unless t number function node) ≡ unless t number function node
unfolding read_as_four
unless_unchanged true number function node e = refl
unless_unchanged false number function node e = rw e

module _ (w : List ℕ) where
  header_unchanged : read_as_four (header w) ≡ header w
  unfolding header
  header_unchanged = unless_unchanged (header_test w) 1 0 0 refl

  contents_unchanged : read_as_four (contents w) ≡ contents w
  unfolding contents exact entry
  contents_unchanged = rw (then_unchanged (each (entry w) (functions w) 0) (exact w), each_unchanged (entry w) (entry w) (λ f. unless_unchanged (entry_test w f) 2 f 0 refl) (functions w) 0, unless_unchanged (eqb (length w) (start_of w (functions w))) 3 0 0 refl)

  body_unchanged : (f : ℕ) → read_as_four (body_read w f) ≡ body_before w f
  unfolding body_read
  body_unchanged f = root_unchanged (nodes_at w f) f _ ∙ ap (root_before (nodes_at w f) f) (walk_unchanged w (body_at w f) (nodes_at w f) 1 0 (arity_at w f))

pub unchanged : Unchanged
unfolding read_of bodies read_before
unchanged w = rw (then_unchanged (header w) (contents w then bodies w), then_unchanged (contents w) (bodies w), header_unchanged w, contents_unchanged w, each_unchanged (body_read w) (body_before w) (body_unchanged w) (functions w) 0)

accepted_as_four : (r : Reading) → (read_as_four r ≡ Ok tt) ↔ (r ≡ Ok tt)
unfolding read_as_four
accepted_as_four (Ok _) = ((λ e. refl), (λ e. refl))
accepted_as_four (Err r) = ((λ e. absurd cc), (λ e. absurd cc))

pub accepted_before : AcceptedBefore
accepted_before w = ((λ e. (read_iff w).0 ((accepted_as_four (read_of w)).0 (unchanged w ∙ e))), (λ h. sym (unchanged w) ∙ (accepted_as_four (read_of w)).1 ((read_iff w).1 h)))
