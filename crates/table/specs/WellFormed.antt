-- What an accepted table assures: all that a machine knows of a table.
use Rattle.std.specs.Prelude.{ℕ, suc, ◌+◌, ◌*◌, ◌<◌, ◌≤◌, ◌≡◌, List, length, None}
use Rattle.table.specs.declared.Operation.{Operation}
use Rattle.table.specs.declared.Node.{Node}
use Rattle.table.specs.declared.Node.TheVariants.{Constant, Local, Arithmetic, Choose, Let, Call, Both}
use Rattle.table.specs.declared.Body.{Body}
use Rattle.table.specs.Words.{functions, arity_at, nodes_at, nodes_before, start_of, body_at, b_at, c_at}
use Rattle.table.specs.Walk.{shape_at, number_of}

module _ (w : List ℕ) (body : Body) where
  mutual
    -- the subtree at p, with k locals bound, at a level, ends at q: its root is inside the body and no number refuses it
    pub data Subtree : ℕ → ℕ → ℕ → ℕ → Type 0 where
      root : {level p k q : ℕ} → p < body.nodes → number_of (shape_at w body.start p k) level ≡ None
          → Children (level + 1) p k (shape_at w body.start p k).last q (b_at w body.start p) (c_at w body.start p) (shape_at w body.start p k).children
          → Subtree level p k q

    -- the children, at a level, of the node at p that end at q, by their number: they stand one after the other, at p + 1, b and c,
    -- the last with `last` locals bound and the others with k
    pub data Children : ℕ → ℕ → ℕ → ℕ → ℕ → ℕ → ℕ → ℕ → Type 0 where
      none : {level p k last q b c : ℕ} → q ≡ p + 1 → Children level p k last q b c 0
      one : {level p k last q b c : ℕ} → Subtree level (p + 1) k q → Children level p k last q b c 1
      two : {level p k last q b c : ℕ} → Subtree level (p + 1) k b → Subtree level b last q → Children level p k last q b c 2
      three : {level p k last q b c n : ℕ} → Subtree level (p + 1) k b → Subtree level b k c → Subtree level c last q
          → Children level p k last q b c (suc (suc (suc n)))

  -- the same by the node: what its children are, and what it reads or binds
  pub data Assured (level p k q : ℕ) : Node → Type 0 where
    constant : {v : ℕ} → q ≡ p + 1 → Assured level p k q (Constant v)
    local : {slot : ℕ} → slot < k → q ≡ p + 1 → Assured level p k q (Local slot)
    arithmetic : {o : Operation} {b : ℕ} → Subtree (level + 1) (p + 1) k b → Subtree (level + 1) b k q → Assured level p k q (Arithmetic o b)
    choose : {b c : ℕ} → Subtree (level + 1) (p + 1) k b → Subtree (level + 1) b k c → Subtree (level + 1) c k q → Assured level p k q (Choose b c)
    binding : {b : ℕ} → k + 1 ≤ 16 → Subtree (level + 1) (p + 1) k b → Subtree (level + 1) b (k + 1) q → Assured level p k q (Let b)
    call : {f b c : ℕ} → f < functions w → Children (level + 1) p k k q b c (arity_at w f) → Assured level p k q (Call f b c)
    both : {b c : ℕ} → k + 2 ≤ 16 → Subtree (level + 1) (p + 1) k b → Subtree (level + 1) b k c → Subtree (level + 1) c (k + 2) q → Assured level p k q (Both b c)

-- not refused by 1: the number of functions, and room for their entries
pub record Header (w : List ℕ) : Type 0 where
  pub some : 1 ≤ functions w
  pub few : functions w ≤ 64
  pub room : 1 + 2 * functions w ≤ length w

-- not refused by 2: the arity and the node count of function f
pub record Entry (w : List ℕ) (f : ℕ) : Type 0 where
  pub arity : arity_at w f ≤ 3
  pub some : 1 ≤ nodes_at w f
  pub few : nodes_before w f + nodes_at w f ≤ 4000

-- not refused by 1, 2 or 3
pub record Contents (w : List ℕ) : Type 0 where
  pub header : Header w
  pub entries : (f : ℕ) → f < functions w → Entry w f
  pub exact : length w ≡ start_of w (functions w)

-- not refused: the contents are good, and each function's body is one tree over all of its nodes, at level 1, with the arguments
-- bound
pub record WellFormed (w : List ℕ) : Type 0 where
  pub contents : Contents w
  pub trees : (f : ℕ) → f < functions w → Subtree w (body_at w f) 1 0 (arity_at w f) (nodes_at w f)

-- function f of a table whose contents are good, and the first word of its body
pub record Located (w : List ℕ) (f start : ℕ) : Type 0 where
  pub contents : Contents w
  pub function : f < functions w
  pub place : start ≡ start_of w f
