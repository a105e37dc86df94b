-- DEMAND 3, one claim about the three answers together (01, "Conditions of acceptance"): "with all four of its statements, and not one for
-- each machine or each count. Value, work, span and forks in it are those carried in the answers, and N and τ are those the calls were
-- given". That it holds for every input is proved in proofs/Claim.antt, `claim`.
use Rattle.std.specs.Prelude.{ℕ, ◌+◌, ◌*◌, ◌≤◌, ◌≡◌, List}
use Rattle.language.specs.declared.Counts.{Counts}
use Rattle.language.specs.declared.Stop.{Stop}
use Rattle.language.specs.declared.Answer.{Answer}
use Rattle.language.specs.declared.Answer.TheVariants.{Value, Stopped}
use Rattle.language.specs.Answers.{sequential_of, parallel_of, heartbeat_of, deepest_of}

-- The four statements, beside a sequential answer with value v and counts a: the two other machines have the same value, with counts p and
-- h; the work bound; the span bound; the identity of work and forks.
pub record FourStatements (N τ : ℕ) (v : ℕ) (a : Counts) (parallel heartbeat : Answer) : Type 0 where
  pub p : Counts
  pub h : Counts
  pub parallel_value : parallel ≡ Value v p
  pub heartbeat_value : heartbeat ≡ Value v h
  pub work_bound : N * h.work.0 ≤ (N + τ) * a.work.0
  pub span_bound : τ * h.span.0 ≤ (N + τ) * p.span.0
  pub identity : h.work.0 + 2 * h.forks ≡ a.work.0 + τ * h.forks

-- If the sequential answer is a value, the four statements hold.
pub record DemandThree (N τ : ℕ) (sequential parallel heartbeat : Answer) : Type 0 where
  pub at_a_value : (v : ℕ) (a : Counts) → sequential ≡ Value v a → FourStatements N τ v a parallel heartbeat

-- THEOREM (proofs/Claim.antt, `claim`), for every table, arguments, fuel, N, τ and length of the workspace, refused ones among them.
abbrev pub ForEveryInput : Type 0
ForEveryInput = (w arguments : List ℕ) (fuel N τ workspace : ℕ)
    → DemandThree N τ (sequential_of w arguments fuel N τ workspace) (parallel_of w arguments fuel N τ workspace)
    (heartbeat_of w arguments fuel N τ workspace)

-- BESIDE DEMAND 3 (02, P7): "Where the sequential run has a value, all three machines show the same depth."
pub record SameDepth (sequential parallel heartbeat : Answer) : Type 0 where
  pub at_a_value : (v : ℕ) (a : Counts) → sequential ≡ Value v a → (deepest_of parallel ≡ a.deepest) × (deepest_of heartbeat ≡ a.deepest)

-- THEOREM (proofs/Claim.antt, `same_depth`), for every input.
abbrev pub DepthForEveryInput : Type 0
DepthForEveryInput = (w arguments : List ℕ) (fuel N τ workspace : ℕ)
    → SameDepth (sequential_of w arguments fuel N τ workspace) (parallel_of w arguments fuel N τ workspace)
    (heartbeat_of w arguments fuel N τ workspace)

-- BESIDE DEMAND 3 (02, P12), about a sequential stop s and another machine's answer: it is a stop "with the same number, function and node. Their
-- transitions may be fewer, never more." The depth (02, P7) is the same too.
pub record SameStop (s : Stop) (answer : Answer) : Type 0 where
  pub other : Stop
  pub is : answer ≡ Stopped other
  pub number : other.number ≡ s.number
  pub function : other.function ≡ s.function
  pub node : other.node ≡ s.node
  pub never_more : other.transitions ≤ s.transitions
  pub depth : other.deepest ≡ s.deepest

-- If the sequential answer is a stop "with 21, 22, 23 or 24", both others are that stop. "For stop 20 nothing is claimed": there it would be false
-- (ExampleAgreement.antt, `NotAt20`).
pub record StopsAgree (sequential parallel heartbeat : Answer) : Type 0 where
  pub at_a_stop : (s : Stop) → sequential ≡ Stopped s → 21 ≤ s.number → s.number ≤ 24 → SameStop s parallel × SameStop s heartbeat

-- THEOREM (proofs/Claim.antt, `stops_agree`), for every input.
abbrev pub StopsForEveryInput : Type 0
StopsForEveryInput = (w arguments : List ℕ) (fuel N τ workspace : ℕ)
    → StopsAgree (sequential_of w arguments fuel N τ workspace) (parallel_of w arguments fuel N τ workspace)
    (heartbeat_of w arguments fuel N τ workspace)
