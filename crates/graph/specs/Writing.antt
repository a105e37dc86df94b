-- THE WORDS WHILE A RUN GOES ON (02, P1). A machine that has made part of its run has written `buffer S g`: of each promoted frame the graph before its
-- fork and the fork's three words, lengths that are not known yet as 0, and of the running machine's graph all but its last stretch. Beside the words,
-- code keeps the transitions of that stretch, which are the running machine's credits, and in each promoted frame the place of the fork's three words
-- and, after the left's arrival, the place where the right graph begins. Nobody need believe these definitions: what code writes at last is the graph's
-- writing (proofs/Tracking.antt).
use Rattle.std.specs.Prelude.{ℕ, zero, suc, ◌+◌, ◌*◌, ◌-◌, ◌≤◌, ◌<◌, ◌≡◌, cond, List, [], ◌∷◌, ◌++◌, leb, length, get_or, set}
use Rattle.schedule.specs.Graph.{Graph}
use Rattle.schedule.specs.Algebra.{graphs}
use Rattle.schedule.specs.FrameMachine.{FrameMachine}
use Rattle.schedule.specs.Machine.{Slot, ordinary, plain_left, plain_right, promoted_left, promoted_right, RunCounts, State, state}
use Rattle.graph.specs.Words.{head, pending, parts, written}

module _ {Frame Fork : Type 0} where
  -- What the open forks have written. A fork's left length is known from the left's arrival on, its right length at the join.
  unfoldable pub opened : List (Slot Graph Frame Fork) → List ℕ
  opened [] = []
  opened (ordinary f ∷ S) = opened S
  opened (plain_left b ∷ S) = opened S
  opened (plain_right b v ∷ S) = opened S
  opened (promoted_left h b ∷ S) = (opened S ++ written h) ++ head 0 0
  opened (promoted_right h l b v ∷ S) = (opened S ++ written h) ++ (head (length (written l)) 0 ++ written l)

  -- The words so far, of a stack and the running machine's graph. Its `pending` transitions are not among them.
  abbrev pub buffer : List (Slot Graph Frame Fork) → Graph → List ℕ
  buffer S g = opened S ++ parts g

  -- The places that frames keep, by their number from the bottom: of a promoted fork's three words, and of its right graph.
  unfoldable pub Placed : (place right : ℕ → ℕ) → List (Slot Graph Frame Fork) → Type 0
  Placed place right [] = Unit {0}
  Placed place right (ordinary f ∷ S) = Placed place right S
  Placed place right (plain_left b ∷ S) = Placed place right S
  Placed place right (plain_right b v ∷ S) = Placed place right S
  Placed place right (promoted_left h b ∷ S) = (place (length S) ≡ length (opened S ++ written h)) × Placed place right S
  Placed place right (promoted_right h l b v ∷ S) =
      (place (length S) ≡ length (opened S ++ written h)) × (right (length S) ≡ length (opened S ++ written h) + 3 + length (written l))
      × Placed place right S

-- What a lent buffer holds of the words: where it has room for all of them, it begins with them. Where it has not, the graph will not fit, the buffer is
-- cleared in the end, and what it has until then does not matter.
abbrev pub Holds : List ℕ → List ℕ → Type 0
Holds lent w = length w ≤ length lent → (i : ℕ) → i < length w → get_or lent i 0 ≡ get_or w i 0

-- THE WRITES, on a lent buffer, with n words counted so far and k transitions pending. First the stretch ends; a stretch of none is no word.
unfoldable pub count_ended : ℕ → ℕ → ℕ
count_ended n zero = n
count_ended n (suc k) = n + 2

unfoldable pub stretched : List ℕ → ℕ → ℕ → List ℕ
stretched lent n zero = lent
stretched lent n (suc k) = set (set lent n 0) (n + 1) (suc k)

-- Words that do not fit are not written: so many must be within the buffer.
unfoldable pub within : ℕ → List ℕ → List ℕ → List ℕ
within end lent changed = cond (leb end (length lent)) changed lent

unfoldable pub lent_ended : List ℕ → ℕ → ℕ → List ℕ
lent_ended lent n k = within (count_ended n k) lent (stretched lent n k)

-- A promotion, or a fork that is promoted at its birth: three words, whose place the frame keeps.
abbrev pub lent_forked : List ℕ → ℕ → ℕ → List ℕ
lent_forked lent n k =
    within (count_ended n k + 3) lent
    (set (set (set (stretched lent n k) (count_ended n k) 1) (count_ended n k + 1) 0) (count_ended n k + 2) 0)

-- The left's arrival, and the join: the length of what was written from `from` on is filled in at `at`.
abbrev pub lent_filled : List ℕ → ℕ → ℕ → ℕ → ℕ → List ℕ
lent_filled lent n k at from = within (count_ended n k) lent (set (stretched lent n k) at (count_ended n k - from))

-- THE INVARIANT of a run that writes: what code holds of the machine's state over graphs. Nothing is asked of the buffer's length. With fuel at most
-- 100,000,000 the words stay few enough that code need not test their count.
pub record Tracks {Frame Fork : Type 0} (lent : List ℕ) (n : ℕ) (place right : ℕ → ℕ) (S : List (Slot Graph Frame Fork)) (k : ℕ) (g : Graph)
    (t : RunCounts) : Type 0 where
  pub counted : n ≡ length (buffer S g)
  pub pends : k ≡ pending g
  pub placed : Placed place right S
  pub holds : Holds lent (buffer S g)
  pub few : n + 2 * k ≤ 2 * t.transitions + 3 * t.forks

unfoldable pub TracksState : (M : FrameMachine) → List ℕ → ℕ → (place right : ℕ → ℕ) → State graphs M → Type 0
TracksState M lent n place right (state c S k g t) = Tracks lent n place right S k g t
