-- The reader's answer (01, "Turned away by the input", 1 to 6; 02, P4, 16 to 18).
use Rattle.std.specs.Prelude.{ℕ, zero, suc, ◌+◌, ◌*◌, List, [], ◌∷◌, Bool, cond, ◌&&◌, length, ltb, leb, eqb, Result, Ok, Err}
use Rattle.table.specs.declared.Fault.{Fault}
use Rattle.table.specs.declared.Refusal.{Refusal}
use Rattle.table.specs.Words.{functions, arity_at, nodes_at, nodes_before, start_of, body_at}
use Rattle.table.specs.Walk.{Walked, walk_of}

infixr 20 ◌then◌
-- the reader's answer: accepted, or refused
abbrev pub Reading : Type 0
Reading = Result (Unit {0}) Refusal

-- "The answer is the number with function and node"
abbrev pub refused : ℕ → ℕ → ℕ → Reading
refused number function node = Err (record { number = number; function = function; node = node })

-- a refusal ends the reading
unfoldable pub ◌then◌ : Reading → Reading → Reading
◌then◌ (Ok _) rest = rest
◌then◌ (Err r) rest = Err r

-- refused with that number, function and node unless the test holds
abbrev pub unless : Bool → ℕ → ℕ → ℕ → Reading
unless test number function node = cond test (Ok tt) (refused number function node)

-- "1. No word, F not 1 to 64, or fewer than 1 + 2F words."
abbrev pub header_test : List ℕ → Bool
header_test w = leb 1 (length w) && (leb 1 (functions w) && (leb (functions w) 64 && leb (1 + 2 * functions w) (length w)))

unfoldable pub header : List ℕ → Reading
header w = unless (header_test w) 1 0 0

-- "2. Arity above 3, node count 0, or a running sum of nodes above 4,000": of the entry of function f
abbrev pub entry_test : List ℕ → ℕ → Bool
entry_test w f = leb (arity_at w f) 3 && (leb 1 (nodes_at w f) && leb (nodes_before w f + nodes_at w f) 4000)

unfoldable pub entry : List ℕ → ℕ → Reading
entry w f = unless (entry_test w f) 2 f 0

-- "3. Length not exact": "exactly 1 + 2F + 4 × (all nodes)"
unfoldable pub exact : List ℕ → Reading
exact w = unless (eqb (length w) (start_of w (functions w))) 3 0 0

-- a fault in the body of a function, with that function
abbrev pub refusal_of : ℕ → Fault → Refusal
refusal_of function fault = record { number = fault.number; function = function; node = fault.node }

-- the walk of f's root, at level 1 with the arguments bound. P4: "the running on after the root", with 18; it is told at the position
-- where the root's tree ends
unfoldable pub root_of : ℕ → ℕ → Walked → Reading
root_of nodes f (Ok q) = unless (eqb q nodes) 18 f q
root_of nodes f (Err fault) = Err (refusal_of f fault)

unfoldable pub body_read : List ℕ → ℕ → Reading
body_read w f = root_of (nodes_at w f) f (walk_of (nodes_at w f) w (body_at w f) 1 0 (arity_at w f))

-- "It takes functions in order": what functions f, f + 1 and so on tell, n of them
unfoldable pub each : (ℕ → Reading) → ℕ → ℕ → Reading
each told zero f = Ok tt
each told (suc n) f = told f then each told n (f + 1)

unfoldable pub contents : List ℕ → Reading
contents w = each (entry w) (functions w) 0 then exact w

unfoldable pub bodies : List ℕ → Reading
bodies w = each (body_read w) (functions w) 0

-- "Numbers are tried in rising order, except that 4, 5 and 6 belong to one walk" (01), "with 16, 17 and 18 now in it" (P4)
unfoldable pub read_of : List ℕ → Reading
read_of w = header w then contents w then bodies w

-- the first words of the bodies of functions f, f + 1 and so on, n of them, and 0 past the last function
unfoldable pub starts_from : List ℕ → ℕ → ℕ → List ℕ
starts_from w zero f = []
starts_from w (suc n) f = cond (ltb f (functions w)) (start_of w f) 0 ∷ starts_from w n (f + 1)

abbrev pub starts_of : List ℕ → List ℕ
starts_of w = starts_from w 64 0
