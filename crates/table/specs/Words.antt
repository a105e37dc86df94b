-- Where the parts of a job table stand in its words (01, "The job table"). A word past the end counts as 0.
use Rattle.std.specs.Prelude.{ℕ, zero, suc, ◌+◌, ◌*◌, List, get_or}
use Rattle.table.specs.declared.Body.{Body}

-- "Word 0: the number of functions, F"
abbrev pub functions : List ℕ → ℕ
functions w = get_or w 0 0

-- "Then F pairs: arity and node count"
abbrev pub arity_at : List ℕ → ℕ → ℕ
arity_at w f = get_or w (2 * f + 1) 0

abbrev pub nodes_at : List ℕ → ℕ → ℕ
nodes_at w f = get_or w (2 * f + 2) 0

-- the running sum of nodes: of the functions before f
unfoldable pub nodes_before : List ℕ → ℕ → ℕ
nodes_before w zero = 0
nodes_before w (suc f) = nodes_before w f + nodes_at w f

-- "Then the bodies in the same order, four words a node": the first word of f's body
abbrev pub start_of : List ℕ → ℕ → ℕ
start_of w f = 1 + 2 * functions w + 4 * nodes_before w f

abbrev pub body_at : List ℕ → ℕ → Body
body_at w f = record { start = start_of w f; nodes = nodes_at w f }

-- "tag, a, b, c" of the node at position p, "counted from 0 in the body" that starts at word s
abbrev pub tag_at : List ℕ → ℕ → ℕ → ℕ
tag_at w s p = get_or w (s + 4 * p) 0

abbrev pub a_at : List ℕ → ℕ → ℕ → ℕ
a_at w s p = get_or w (s + 4 * p + 1) 0

abbrev pub b_at : List ℕ → ℕ → ℕ → ℕ
b_at w s p = get_or w (s + 4 * p + 2) 0

abbrev pub c_at : List ℕ → ℕ → ℕ → ℕ
c_at w s p = get_or w (s + 4 * p + 3) 0
