-- The registers of a run by one counter: credits and span are told by the transitions since the running machine's start.
use Rattle.std.specs.Prelude.{ℕ, ◌+◌, ◌-◌, ◌≤◌, ◌<◌, ◌^◌, ◌≡◌, cond, ltb}
use Rattle.moves.specs.declared.Control.{Control}
use Rattle.moves.specs.declared.Registers.{Registers}
use Rattle.moves.specs.declared.Plan.{Plan}
use Rattle.moves.specs.declared.Step.{Step}
use Rattle.moves.specs.declared.Step.TheVariants as step
use Rattle.compact.specs.declared.Compact.{Compact}
use Rattle.compact.specs.declared.Progress.{Progress}
use Rattle.compact.specs.declared.Event.{Event}
use Rattle.compact.specs.declared.Progress.TheVariants.{Go, Free, Paused, Value, Halt}

-- THE REGISTERS that they stand for
abbrev pub full : Compact → Registers
full g = record {
  control = g.control;
  depth = g.depth;
  oldest = g.oldest;
  credits = record { 0 = g.transitions - g.since };
  span = record { 0 = g.before.0 + (g.transitions - g.since) };
  transitions = g.transitions;
  forks = g.forks;
  deepest = g.deepest;
}

-- the step that a progress is; a pause is none, and what is told of it here is never asked
unfoldable pub step_of : Progress → Step
step_of (Go g) = step.Go (full g)
step_of (Free g event) = step.Go (full g)
step_of (Paused p) = step.Value 0
step_of (Value v) = step.Value v
step_of (Halt h) = step.Halt h

-- THE LIMIT: up to so many transitions there is fuel, and no promotion is due. 4096 is no fork.
unfoldable pub limit_of : Plan → ℕ → ℕ → ℕ
limit_of plan since oldest = cond (ltb oldest 4096) (cond (ltb plan.period (plan.fuel.0 - since)) (since + plan.period) plan.fuel.0) plan.fuel.0

-- what every stride keeps of it; below the fuel it is where a promotion is due
pub record Paced (plan : Plan) (g : Compact) : Type 0 where
  pub since : g.since ≤ g.transitions
  pub fuel : g.limit ≤ plan.fuel.0
  pub calm : g.oldest < 4096 → g.limit ≤ g.since + plan.period
  pub exact : g.limit < plan.fuel.0 → (g.oldest < 4096) × (g.since + plan.period ≤ g.limit)

unfoldable pub PacedBy : Plan → Progress → Type 0
PacedBy plan (Go g) = Paced plan g
PacedBy plan (Free g event) = Paced plan g
PacedBy plan (Paused p) = Unit {0}
PacedBy plan (Value v) = Unit {0}
PacedBy plan (Halt h) = Unit {0}

-- REGISTERS MADE COMPACT: any, by what they tell, with this limit or with theirs; and those of the same machine, with its start and its limit kept
abbrev pub limited_of : Registers → ℕ → Compact
limited_of s limit = record {
  control = s.control;
  depth = s.depth;
  oldest = s.oldest;
  transitions = s.transitions;
  since = s.transitions - s.credits.0;
  before = record { 0 = s.span.0 - s.credits.0 };
  limit = limit;
  forks = s.forks;
  deepest = s.deepest;
}

abbrev pub compact_of : Plan → Registers → Compact
compact_of plan s = limited_of s (limit_of plan (s.transitions - s.credits.0) s.oldest)

-- a step that goes on does so with such registers
unfoldable pub GoesWith : (Registers → Type 0) → Step → Type 0
GoesWith P (step.Go s) = P s
GoesWith P (step.Value v) = Unit {0}
GoesWith P (step.Halt h) = Unit {0}

-- the progress of a step, its registers made compact so: by a relation, and by a function
unfoldable pub Answers : (Registers → Compact → Type 0) → Step → Progress → Type 0
Answers R (step.Go s) r = (g : Compact) × (r ≡ Go g) × R s g
Answers R (step.Value v) r = r ≡ Value v
Answers R (step.Halt h) r = r ≡ Halt h

unfoldable pub answer_of : (Registers → Compact) → Step → Progress
answer_of f (step.Go s) = Go (f s)
answer_of f (step.Value v) = Value v
answer_of f (step.Halt h) = Halt h

abbrev pub settled_of : Plan → Step → Progress
settled_of plan o = answer_of (compact_of plan) o

-- these can be made compact
unfoldable pub Settles : Plan → Step → Type 0
Settles plan (step.Go s) = (s.credits.0 ≤ s.transitions) × (s.transitions ≤ plan.fuel.0) × (s.credits.0 ≤ s.span.0)
Settles plan (step.Value v) = Unit {0}
Settles plan (step.Halt h) = Unit {0}

-- and are of the machine that g tells of: it started where g's did
unfoldable pub Continues : Compact → Step → Type 0
Continues g (step.Go s) = s.transitions - s.credits.0 ≡ g.since
Continues g (step.Value v) = Unit {0}
Continues g (step.Halt h) = Unit {0}

-- and have no fork
unfoldable pub Forkless : Step → Type 0
Forkless (step.Go s) = s.oldest ≡ 4096
Forkless (step.Value v) = Unit {0}
Forkless (step.Halt h) = Unit {0}

abbrev pub kept_of : Compact → Registers → Compact
kept_of g s = record {
  control = s.control;
  depth = s.depth;
  oldest = s.oldest;
  transitions = s.transitions;
  since = g.since;
  before = g.before;
  limit = g.limit;
  forks = s.forks;
  deepest = s.deepest;
}

abbrev pub kept_by : Compact → Step → Progress
kept_by g o = answer_of (kept_of g) o

-- A STEP THAT WAS FREE, with its event
unfoldable pub freed_by : Event → Progress → Progress
freed_by event (Go g) = Free g event
freed_by event (Free g before) = Free g before
freed_by event (Paused p) = Paused p
freed_by event (Value v) = Value v
freed_by event (Halt h) = Halt h

-- one that was not: where it goes on, a transition was made
unfoldable pub Transits : Compact → Progress → Type 0
Transits g (Go next) = g.transitions < next.transitions
Transits g (Free next event) = ⊥
Transits g (Paused p) = ⊥
Transits g (Value v) = Unit {0}
Transits g (Halt h) = Unit {0}

-- THE REGISTERS k transitions later, no deeper than before
abbrev pub later_of : Compact → Control → ℕ → ℕ → Compact
later_of g c d k = record {
  control = c;
  depth = d;
  oldest = g.oldest;
  transitions = g.transitions + k;
  since = g.since;
  before = g.before;
  limit = g.limit;
  forks = g.forks;
  deepest = g.deepest;
}

-- the counts can rise
pub record Small (g : Compact) : Type 0 where
  pub transitions : g.transitions < 2 ^ 60
  pub depth : g.depth ≤ 4096

-- k transitions can be made, with h frames more at once, which were occupied before
pub record Roomy (g : Compact) (k h : ℕ) : Type 0 where
  pub transitions : g.transitions + k ≤ g.limit
  pub within : g.depth + h ≤ g.deepest
