-- The reader's answer before 02's P4, and the theorems that P4 changed numbers and nothing else. 01 has one number, 4, also for "an unused word
-- not 0; a child position that is wrong (told at the parent); a body that ends early or runs on (told at that position)". Each definition here
-- is the one of Walk or Read with that number; nothing but the theorems uses them.
use Rattle.std.specs.Prelude.{ℕ, zero, suc, ◌+◌, ◌≡◌, List, cond, ◌&&◌, ◌↔◌, leb, eqb, Option, Some, None, Ok, Err}
use Rattle.table.specs.declared.Body.{Body}
use Rattle.table.specs.declared.Shape.{Shape}
use Rattle.table.specs.Words.{functions, arity_at, nodes_at, body_at, b_at, c_at}
use Rattle.table.specs.Walk.{Walked, fault_at, shape_at, own}
use Rattle.table.specs.Read.{Reading, refused, refusal_of, ◌then◌, unless, header, each, contents, read_of}
use Rattle.table.specs.WellFormed.{WellFormed}

abbrev pub number_before : Shape → ℕ → Option ℕ
number_before s level = cond s.known (cond s.clear (cond s.bound (cond (leb level 64) None (Some 6)) (Some 5)) (Some 4)) (Some 4)

unfoldable pub next_before : ℕ → ℕ → Walked → Walked → Walked
next_before b p (Ok m) rest = cond (eqb b m) rest (fault_at 4 p)
next_before b p (Err fault) rest = Err fault

unfoldable pub after_first_before : (ℕ → ℕ → Walked) → ℕ → ℕ → ℕ → ℕ → ℕ → ℕ → Walked
after_first_before sub b c p k last zero = sub b last
after_first_before sub b c p k last (suc n) = next_before c p (sub b k) (sub c last)

unfoldable pub children_before : (ℕ → ℕ → Walked) → ℕ → ℕ → ℕ → ℕ → ℕ → ℕ → Walked
children_before sub b c p k last zero = Ok (p + 1)
children_before sub b c p k last (suc zero) = sub (p + 1) k
children_before sub b c p k last (suc (suc n)) = next_before b p (sub (p + 1) k) (after_first_before sub b c p k last n)

unfoldable pub walk_before : ℕ → List ℕ → Body → ℕ → ℕ → ℕ → Walked
walk_before zero w body level p k = fault_at 4 p
walk_before (suc bound) w body level p k =
    cond (leb body.nodes p)
    (fault_at 4 p)
    (own (number_before (shape_at w body.start p k) level) p
    (children_before (walk_before bound w body (level + 1)) (b_at w body.start p) (c_at w body.start p) p k (shape_at w body.start p k).last (shape_at w body.start p k).children))

unfoldable pub root_before : ℕ → ℕ → Walked → Reading
root_before nodes f (Ok q) = unless (eqb q nodes) 4 f q
root_before nodes f (Err fault) = Err (refusal_of f fault)

abbrev pub body_before : List ℕ → ℕ → Reading
body_before w f = root_before (nodes_at w f) f (walk_before (nodes_at w f) w (body_at w f) 1 0 (arity_at w f))

unfoldable pub read_before : List ℕ → Reading
read_before w = header w then contents w then each (body_before w) (functions w) 0

-- 16, 17 and 18 read as 4, and every other number as it is
abbrev pub as_four : ℕ → ℕ
as_four number = cond (leb 16 number && leb number 18) 4 number

unfoldable pub read_as_four : Reading → Reading
read_as_four (Ok _) = Ok tt
read_as_four (Err r) = refused (as_four r.number) r.function r.node

-- THEOREM (`unchanged`, proofs/Unchanged.antt): with 4, 16, 17 and 18 all read as 4, the answer for every table is the one of before, and
-- so accepted for the same tables, and refused with the same function and node.
abbrev pub Unchanged : Type 0
Unchanged = (w : List ℕ) → read_as_four (read_of w) ≡ read_before w

-- THEOREM (`accepted_before`, in the same file): what an accepted table assures is what it assured before
abbrev pub AcceptedBefore : Type 0
AcceptedBefore = (w : List ℕ) → (read_before w ≡ Ok tt) ↔ WellFormed w
