-- CALLS WITH A BUFFER LENT for the run's cost graph (02, P1): what a call tells and leaves, for any input, and what holds of calls, told by the words that
-- they write. All is proved in proofs/Graphs.antt from what `GraphCalled` says of a call.
use Rattle.std.specs.Prelude.{ℕ, ◌-◌, ◌≤◌, ◌≡◌, cond, ◌⊎◌, List, [], ◌∷◌, ◌++◌, length, get_or, take, drop, replicate, eqb}
use Rattle.schedule.specs.Machine.{Schedule, sequential, parallel, heartbeat}
use Rattle.graph.specs.Words.{words_work, words_span}
use Rattle.graph_answers.specs.declared.Graphed.{Graphed}
use Rattle.graph_answers.specs.Answers.{graphed_of, graph_left}
use Rattle.machine.specs.Workspace.{left_by}
use Rattle.capi.specs.Words.{answer_words, written}
use Rattle.capi.specs.Calls.{served}
use Rattle.capi.specs.Claims.{kind_in, told_in, function_in, node_in, transitions_in, work_in, span_in, deepest_in, FourOfWords, SameStopIn, StopIn}

-- the machine of a number: 0 sequential, 1 parallel, 2 heartbeat
unfoldable pub schedule_by : (machine N : ℕ) → Schedule
schedule_by machine N = cond (eqb machine 0) sequential (cond (eqb machine 1) parallel (heartbeat N))

-- "The answer also gives the number of words written": a tenth word, after those of an answer without a buffer.
abbrev pub graph_words : Graphed → List ℕ
graph_words r = answer_words r.answer ++ (r.words ∷ [])

-- `ws`, `graph` and `out` are the words of the workspace, of the graph's buffer and of the answer's at the call, `ws'`, `graph'` and `out'` those at its
-- end, and r is what the call returns: where it is not served, 1, and nothing is changed
pub record GraphCalled (machine : ℕ) (w arguments : List ℕ) (fuel N τ : ℕ) (ws graph out ws' graph' out' : List ℕ) (r : ℕ) : Type 0 where
  pub returned : r ≡ cond (served machine (length out)) 0 1
  pub workspace : ws'
      ≡ cond (served machine (length out)) (left_by (graphed_of (schedule_by machine N) w arguments fuel N τ (length ws) (length graph)).answer ws) ws
  pub buffer : graph' ≡ cond (served machine (length out)) (graph_left (schedule_by machine N) w arguments fuel N τ (length ws) graph) graph
  pub answer : out'
      ≡ cond (served machine (length out)) (written out (graph_words (graphed_of (schedule_by machine N) w arguments fuel N τ (length ws) (length graph)))) out

-- the number of words written, by its place in the header
abbrev pub words_in : List ℕ → ℕ
words_in out = get_or out 9 0

-- a call that is served, of a machine, with a workspace of so many words: what it wrote
pub record GraphCallWrote (machine : ℕ) (w arguments : List ℕ) (fuel N τ workspace : ℕ) (out' graph' : List ℕ) : Type 0 where
  pub ws : List ℕ
  pub ws' : List ℕ
  pub graph : List ℕ
  pub out : List ℕ
  pub returned : ℕ
  pub is_known : machine ≤ 2
  pub has_room : 8 ≤ length out
  pub is_long : length ws ≡ workspace
  pub called : GraphCalled machine w arguments fuel N τ ws graph out ws' graph' out' returned

-- no stop 25
abbrev pub Not25In : List ℕ → Type 0
Not25In out = kind_in out ≡ 1 → told_in out ≡ 25 → ⊥

-- THEOREM (`three_graph_calls`): DEMAND 3 of three calls, each with a buffer of any length for its graph: "what demand 3 says of a parallel or heartbeat
-- run also needs that this run did not stop with 25". If the sequential machine's answer is a value, the four statements hold.
abbrev pub ThreeGraphCalls : Type 0
ThreeGraphCalls = (w arguments : List ℕ) (fuel N τ workspace : ℕ) (s p h a b c : List ℕ)
    → GraphCallWrote 0 w arguments fuel N τ workspace s a
    → GraphCallWrote 1 w arguments fuel N τ workspace p b
    → GraphCallWrote 2 w arguments fuel N τ workspace h c
    → kind_in s ≡ 0
    → Not25In p
    → Not25In h
    → FourOfWords N τ s p h

-- THEOREM (`depth_of_graph_calls`): where three such calls lend nine answer words or more, they show the same depth (02, P7), a 25 among them.
abbrev pub DepthOfGraphCalls : Type 0
DepthOfGraphCalls = (w arguments : List ℕ) (fuel N τ workspace : ℕ) (s p h a b c : List ℕ)
    → GraphCallWrote 0 w arguments fuel N τ workspace s a
    → GraphCallWrote 1 w arguments fuel N τ workspace p b
    → GraphCallWrote 2 w arguments fuel N τ workspace h c
    → 9 ≤ length s
    → 9 ≤ length p
    → 9 ≤ length h
    → kind_in s ≡ 0
    → (deepest_in p ≡ deepest_in s) × (deepest_in h ≡ deepest_in s)

-- THEOREM (`stops_of_graph_calls`): if the sequential machine's answer is a stop 21 to 24, both others are that stop (02, P12).
abbrev pub StopsOfGraphCalls : Type 0
StopsOfGraphCalls = (w arguments : List ℕ) (fuel N τ workspace : ℕ) (s p h a b c : List ℕ)
    → GraphCallWrote 0 w arguments fuel N τ workspace s a
    → GraphCallWrote 1 w arguments fuel N τ workspace p b
    → GraphCallWrote 2 w arguments fuel N τ workspace h c
    → kind_in s ≡ 1
    → 21 ≤ told_in s
    → told_in s ≤ 24
    → SameStopIn s p × SameStopIn s h

-- 25 "with function 0, node 0 and the run's transitions"
pub record Stop25In (fuel : ℕ) (out : List ℕ) : Type 0 where
  pub number : told_in out ≡ 25
  pub function : function_in out ≡ 0
  pub node : node_in out ≡ 0
  pub within_fuel : transitions_in out ≤ fuel

-- THEOREM (`stop_of_graph_call`): a stop is one of 01's list or 25.
abbrev pub StopOfGraphCall : Type 0
StopOfGraphCall = (machine : ℕ) (w arguments : List ℕ) (fuel N τ workspace : ℕ) (out graph : List ℕ)
    → GraphCallWrote machine w arguments fuel N τ workspace out graph → kind_in out ≡ 1 → StopIn w fuel out ⊎ Stop25In fuel out

-- "its work and span are the reported ones": of the words at the front of the graph's buffer, which are as many as told; the rest is zero
pub record GraphIn (τ : ℕ) (out graph : List ℕ) : Type 0 where
  pub long : length (take (words_in out) graph) ≡ words_in out
  pub work_is : words_work τ (take (words_in out) graph) ≡ work_in out
  pub span_is : words_span τ (take (words_in out) graph) ≡ span_in out
  pub rest : drop (words_in out) graph ≡ replicate (length graph - words_in out) 0

-- THEOREM (`graph_of_call`): so it is where a call's answer is a value and ten words were lent for it.
abbrev pub GraphOfCall : Type 0
GraphOfCall = (machine : ℕ) (w arguments : List ℕ) (fuel N τ workspace : ℕ) (out graph : List ℕ)
    → GraphCallWrote machine w arguments fuel N τ workspace out graph → 10 ≤ length out → kind_in out ≡ 0 → GraphIn τ out graph
