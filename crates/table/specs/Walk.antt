-- The walk of a body (01, "The job table", its last paragraph), with the refusals 4, 5 and 6 and those of 02's P4: 16, 17 and 18.
use Rattle.std.specs.Prelude.{ℕ, zero, suc, ◌+◌, ◌*◌, ◌<◌, ◌≤◌, ◌≡◌, List, [], ◌∷◌, Bool, true, false, cond, ◌&&◌, length, get_or, ltb, leb, eqb, Option, Some, None, Result, Ok, Err}
use Rattle.table.specs.declared.Node.{Node}
use Rattle.table.specs.declared.Node.TheVariants.{Constant, Local, Arithmetic, Choose, Let, Call, Both, Unknown}
use Rattle.table.specs.declared.Body.{Body}
use Rattle.table.specs.declared.Shape.{Shape}
use Rattle.table.specs.declared.Fault.{Fault}
use Rattle.table.specs.Words.{functions, arity_at, a_at, b_at, c_at}
use Rattle.table.specs.Nodes.{node_at}

-- where the walk of a subtree ends: at the position after it, or at a fault, with its number and the node that is told
abbrev pub Walked : Type 0
Walked = Result ℕ Fault

abbrev pub fault_at : ℕ → ℕ → Walked
fault_at number node = Err (record { number = number; node = node })

abbrev pub is_zero : ℕ → Bool
is_zero x = eqb x 0

-- a node whose words are known, with its unused words 0 or not, what it reads or binds allowed or not, its children, and the
-- locals bound at the last of them
abbrev pub known : Bool → Bool → ℕ → ℕ → Shape
known clear bound children last = record { known = true; clear = clear; bound = bound; children = children; last = last }

-- "Unknown tag, operation or function"
abbrev pub unknown : ℕ → Shape
unknown k = record { known = false; clear = true; bound = true; children = 0; last = k }

-- a call has "as many children as its arity": below two of them b is unused, and below three c
abbrev pub unused : ℕ → ℕ → List Bool
unused b c = (is_zero b && is_zero c) ∷ (is_zero b && is_zero c) ∷ is_zero c ∷ []

unfoldable pub unused_of : ℕ → ℕ → ℕ → Bool
unused_of arity b c = get_or (unused b c) arity true

unfoldable pub call_shape : List ℕ → ℕ → ℕ → ℕ → ℕ → Shape
call_shape w f b c k = cond (ltb f (functions w)) (known (unused_of (arity_at w f) b c) true (arity_at w f) k) (unknown k)

-- A node's own words, with k locals bound. "An unused word is 0"; "a slot not bound; a let or both that would bind more than 16
-- locals"; let: "second with one more local"; both: "body with two more locals".
unfoldable pub shape_of : List ℕ → ℕ → ℕ → ℕ → ℕ → Node → Shape
shape_of w a b c k (Constant v) = known (is_zero c) true 0 k
shape_of w a b c k (Local slot) = known (is_zero b && is_zero c) (ltb slot k) 0 k
shape_of w a b c k (Arithmetic operation second) = known (is_zero c) true 2 k
shape_of w a b c k (Choose second third) = known (is_zero a) true 3 k
shape_of w a b c k (Let second) = known (is_zero a && is_zero c) (leb (k + 1) 16) 2 (k + 1)
shape_of w a b c k (Call f second third) = call_shape w f b c k
shape_of w a b c k (Both second third) = known (is_zero a) (leb (k + 2) 16) 3 (k + 2)
shape_of w a b c k Unknown = unknown k

abbrev pub shape_at : List ℕ → ℕ → ℕ → ℕ → Shape
shape_at w s p k = shape_of w (a_at w s p) (b_at w s p) (c_at w s p) k (node_at w s p)

-- P4: at a node "4, 16, 5 and 6", where 16 is "an unused word that is not 0" and 6 is 01's "Level above 64"; none where it is not refused
abbrev pub number_of : Shape → ℕ → Option ℕ
number_of s level = cond s.known (cond s.clear (cond s.bound (cond (leb level 64) None (Some 6)) (Some 5)) (Some 16)) (Some 4)

-- after a child of the node at p: its end is the position b that the node gives for its next child, or the walk ends there with
-- "17, a wrong child position" (P4), "told at the parent" (01); a fault in the child is told as it is
unfoldable pub next : ℕ → ℕ → Walked → Walked → Walked
next b p (Ok m) rest = cond (eqb b m) rest (fault_at 17 p)
next b p (Err fault) rest = Err fault

-- "first child; b compared; second child; c compared; third child", where `sub` walks the subtree at a position with a number of
-- locals bound: of a node with n + 2 children, those after the first; and of a node with n. The last child has `last` locals bound
-- and the others k.
unfoldable pub after_first : (ℕ → ℕ → Walked) → ℕ → ℕ → ℕ → ℕ → ℕ → ℕ → Walked
after_first sub b c p k last zero = sub b last
after_first sub b c p k last (suc n) = next c p (sub b k) (sub c last)

unfoldable pub children : (ℕ → ℕ → Walked) → ℕ → ℕ → ℕ → ℕ → ℕ → ℕ → Walked
children sub b c p k last zero = Ok (p + 1)
children sub b c p k last (suc zero) = sub (p + 1) k
children sub b c p k last (suc (suc n)) = next b p (sub (p + 1) k) (after_first sub b c p k last n)

-- "the node's own words" first: a number that refuses them is told at the node
unfoldable pub own : Option ℕ → ℕ → Walked → Walked
own None p rest = rest
own (Some number) p rest = fault_at number p

-- "The walk goes from a node into its children and returns the position after the subtree": of the subtree at p, with k locals
-- bound, at a level. P4: "an early end is found first", with 18, "a body that ends early or runs on"; it is told at the position
-- after its last node. `bound` bounds the nodes that remain.
unfoldable pub walk_of : ℕ → List ℕ → Body → ℕ → ℕ → ℕ → Walked
walk_of zero w body level p k = fault_at 18 p
walk_of (suc bound) w body level p k =
    cond (leb body.nodes p)
    (fault_at 18 p)
    (own (number_of (shape_at w body.start p k) level) p
    (children (walk_of bound w body (level + 1)) (b_at w body.start p) (c_at w body.start p) p k (shape_at w body.start p k).last (shape_at w body.start p k).children))

-- the words that the walk of a body looks at are there
pub record Readable (w : List ℕ) (body : Body) : Type 0 where
  pub contents : 2 * functions w < length w
  pub words : body.start + 4 * body.nodes ≤ length w

-- what a call of the walk tells: the definition's answer, at every bound that is large enough; and that it moves on in the body
pub record Walks (w : List ℕ) (body : Body) (level p k : ℕ) (r : Walked) : Type 0 where
  pub same : (bound : ℕ) → body.nodes ≤ p + bound → r ≡ walk_of bound w body level p k
  pub moves : (q : ℕ) → r ≡ Ok q → (p < q) × (q ≤ body.nodes)
