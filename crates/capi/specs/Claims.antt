-- What holds of calls from another language, told by the words that they write: demand 3 of three calls, their depth, that their stops agree, and what
-- every stop tells. All are proved in proofs/Claims.antt from what `Called` says of a call.
use Rattle.std.specs.Prelude.{ℕ, ◌+◌, ◌*◌, ◌≤◌, ◌<◌, ◌≡◌, List, length, get_or}
use Rattle.table.specs.Words.{functions, nodes_at}
use Rattle.capi.specs.Calls.{Called}

-- the words of an answer in a buffer, by their places in the header
module _ (out : List ℕ) where
  abbrev pub kind_in : ℕ
  kind_in = get_or out 0 0

  abbrev pub told_in : ℕ
  told_in = get_or out 1 0

  abbrev pub function_in : ℕ
  function_in = get_or out 2 0

  abbrev pub node_in : ℕ
  node_in = get_or out 3 0

  abbrev pub transitions_in : ℕ
  transitions_in = get_or out 4 0

  abbrev pub forks_in : ℕ
  forks_in = get_or out 5 0

  abbrev pub work_in : ℕ
  work_in = get_or out 6 0

  abbrev pub span_in : ℕ
  span_in = get_or out 7 0

  abbrev pub deepest_in : ℕ
  deepest_in = get_or out 8 0

-- The four statements of demand 3, of the words that three calls wrote: s the sequential one's, p the parallel one's, h the heartbeat's.
pub record FourOfWords (N τ : ℕ) (s p h : List ℕ) : Type 0 where
  pub parallel_value : (kind_in p ≡ 0) × (told_in p ≡ told_in s)
  pub heartbeat_value : (kind_in h ≡ 0) × (told_in h ≡ told_in s)
  pub work_bound : N * work_in h ≤ (N + τ) * work_in s
  pub span_bound : τ * span_in h ≤ (N + τ) * span_in p
  pub identity : work_in h + 2 * forks_in h ≡ work_in s + τ * forks_in h

-- a call that is served, of a machine, with a workspace of so many words: what it wrote
pub record CallWrote (machine : ℕ) (w arguments : List ℕ) (fuel N τ workspace : ℕ) (out' : List ℕ) : Type 0 where
  pub ws : List ℕ
  pub ws' : List ℕ
  pub out : List ℕ
  pub returned : ℕ
  pub is_known : machine ≤ 2
  pub has_room : 8 ≤ length out
  pub is_long : length ws ≡ workspace
  pub called : Called machine w arguments fuel N τ ws out ws' out' returned

-- THEOREM (`three_calls`): DEMAND 3 of three calls, in any order and on any workspaces of one length and any buffers of at least eight words. If the
-- sequential machine's answer is a value, the four statements hold.
abbrev pub ThreeCalls : Type 0
ThreeCalls = (w arguments : List ℕ) (fuel N τ workspace : ℕ) (s p h : List ℕ)
    → CallWrote 0 w arguments fuel N τ workspace s
    → CallWrote 1 w arguments fuel N τ workspace p
    → CallWrote 2 w arguments fuel N τ workspace h
    → kind_in s ≡ 0
    → FourOfWords N τ s p h

-- THEOREM (`depth_of_calls`): where three such calls lend nine words or more, they show the same depth (02, P7).
abbrev pub DepthOfCalls : Type 0
DepthOfCalls = (w arguments : List ℕ) (fuel N τ workspace : ℕ) (s p h : List ℕ)
    → CallWrote 0 w arguments fuel N τ workspace s
    → CallWrote 1 w arguments fuel N τ workspace p
    → CallWrote 2 w arguments fuel N τ workspace h
    → 9 ≤ length s
    → 9 ≤ length p
    → 9 ≤ length h
    → kind_in s ≡ 0
    → (deepest_in p ≡ deepest_in s) × (deepest_in h ≡ deepest_in s)

-- the stop of an answer's words beside the sequential machine's, s (02, P12); the depth where both buffers have nine words
pub record SameStopIn (s out : List ℕ) : Type 0 where
  pub kind : kind_in out ≡ 1
  pub number : told_in out ≡ told_in s
  pub function : function_in out ≡ function_in s
  pub node : node_in out ≡ node_in s
  pub never_more : transitions_in out ≤ transitions_in s
  pub depth : 9 ≤ length s → 9 ≤ length out → deepest_in out ≡ deepest_in s

-- THEOREM (`stops_of_calls`): if the sequential machine's answer is a stop 21 to 24, both others are that stop.
abbrev pub StopsOfCalls : Type 0
StopsOfCalls = (w arguments : List ℕ) (fuel N τ workspace : ℕ) (s p h : List ℕ)
    → CallWrote 0 w arguments fuel N τ workspace s
    → CallWrote 1 w arguments fuel N τ workspace p
    → CallWrote 2 w arguments fuel N τ workspace h
    → kind_in s ≡ 1
    → 21 ≤ told_in s
    → told_in s ≤ 24
    → SameStopIn s p × SameStopIn s h

-- THEOREM (`stop_of_call`): a stop's number is 20 to 24, its function and node are in the table, and its transitions are at most the fuel, and exactly the
-- fuel for 20.
pub record StopIn (w : List ℕ) (fuel : ℕ) (out : List ℕ) : Type 0 where
  pub least : 20 ≤ told_in out
  pub most : told_in out ≤ 24
  pub function : function_in out < functions w
  pub node : node_in out < nodes_at w (function_in out)
  pub within_fuel : transitions_in out ≤ fuel
  pub spent : told_in out ≡ 20 → transitions_in out ≡ fuel

abbrev pub StopOfCall : Type 0
StopOfCall = (machine : ℕ) (w arguments : List ℕ) (fuel N τ workspace : ℕ) (out : List ℕ) → CallWrote machine w arguments fuel N τ workspace out
    → kind_in out ≡ 1 → StopIn w fuel out
