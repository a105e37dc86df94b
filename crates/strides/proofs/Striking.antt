-- What a node comes to, by its tag: the strides there, and the steps.
use Prim.Native.Nat.{ℕ, ◌+◌, ◌<◌}
use mathlib.Core.Path.{◌≡◌, refl, ap}
use mathlib.Core.List.{List}
use native.Mathlib.Omega.{arith}
use lib.ListN.{length, get_or}
use Rattle.std.specs.Prelude.{Option, Some, None, Result, Ok, Err}
use Rattle.std.specs.Option.{ok_or}
use Rattle.table.specs.declared.Node.TheVariants.{Call}
use Rattle.table.specs.Words.{arity_at, start_of, b_at, c_at}
use Rattle.table.specs.Nodes.{node_of, node_at}
use Rattle.frames.specs.declared.Seat.{Seat}
use Rattle.moves.specs.declared.Control.{Control}
use Rattle.moves.specs.declared.Control.TheVariants.{Eval, Ret}
use Rattle.moves.specs.declared.kind.Kind.{Kind}
use Rattle.moves.specs.declared.kind.Kind.TheVariants.{LeftOperand, Argument}
use Rattle.moves.specs.declared.Plan.{Plan}
use Rattle.moves.specs.declared.Step.{Step}
use Rattle.moves.specs.Layout.{word_of}
use Rattle.moves.specs.Ready.{Paid, Framed, Stepped, transited, Opened}
use Rattle.moves.proofs.Nodes.{operation_in}
use Rattle.moves.proofs.Steps.{stepped_arithmetic, stepped_choose, stepped_let, stepped_call, stepped_enter}
use Rattle.compact.specs.declared.Compact.{Compact}
use Rattle.compact.specs.declared.Progress.{Progress}
use Rattle.compact.specs.declared.Progress.TheVariants.{Go}
use Rattle.compact.specs.Compact.{full, step_of, Paced, PacedBy, Transits, later_of}
use Rattle.compact.proofs.Keeping.{later_transits}
use Rattle.strides.specs.Strides.{body_of, Strides, Evaluating, Jumps, Paired, whole, half, neither, Calls, alone, given, Opens, operand, condition, binding, argument, Half, Jump, OrOpened}
use Rattle.operands.specs.Operands.{leaf_at}
use Rattle.strides.proofs.Settling.{site_tag, site_stands, site_framed, leaf_stepped}
use Rattle.strides.proofs.Calls.{f_is}
use Rattle.strides.proofs.Striding.{tagged, jump_strides, half_strides, one_strides}

-- WHAT A NODE COMES TO: it jumps; a call with no arguments is entered; a constant or a local has its value; an arithmetic's frame is written with its
-- left operand; or a frame is to be opened by a step
pub data Struck (w ws ls : List ℕ) (g : Compact) (seat : Seat) (at : ℕ) (ws' ls' : List ℕ) (r : Result Compact Kind) : Type 0 where
  jumps : (next : Compact) → r ≡ Ok next → ws' ≡ ws → Jump w ls g seat ls' next → Struck w ws ls g seat at ws' ls' r
  enters : get_or w at 0 ≡ 5 → arity_at w (get_or w (at + 1) 0) ≡ 0 → ws' ≡ ws → ls' ≡ ls → r ≡ Ok (later_of g (Eval (body_of (get_or w (at + 1) 0) 0)) g.depth 1)
      → Struck w ws ls g seat at ws' ls' r
  reads : get_or w at 0 < 2 → ws' ≡ ws → ls' ≡ ls → r ≡ Ok (later_of g (Ret (leaf_at w at ls 0)) g.depth 1) → Struck w ws ls g seat at ws' ls' r
  halves : (next : Compact) → r ≡ Ok next → ls' ≡ ls → get_or w at 0 ≡ 2 → Half w ws ls g seat ws' next → Struck w ws ls g seat at ws' ls' r
  opens : (kind : Kind) → r ≡ Err kind → ws' ≡ ws → ls' ≡ ls → Opens w at kind → Struck w ws ls g seat at ws' ls' r

-- BY ITS TAG
module _ {w ws ls : List ℕ} {g : Compact} {seat : Seat} {at : ℕ} where
  pub pair_strikes : get_or w at 0 ≡ 2 → {ws' : List ℕ} {r : Option Compact} → Paired w ws ls g seat ws' r → {o : Result Compact Kind} → o ≡ ok_or r LeftOperand
      → Struck w ws ls g seat at ws' ls o
  pair_strikes t (whole next e i j) u = jumps next (rw e at u) i j
  pair_strikes t (half next e j) u = halves next (rw e at u) refl t j
  pair_strikes t (neither e i) u = opens LeftOperand (rw e at u) i refl (operand t refl)

  pub jump_strikes : {kind : Kind} → Opens w at kind → {ls' : List ℕ} (r : Option Compact) → Jumps w ls g seat ls' r → {o : Result Compact Kind} → o ≡ ok_or r kind
      → Struck w ws ls g seat at ws ls' o
  jump_strikes h (Some next) j u = jumps next u refl j
  jump_strikes h None j u = opens _ u refl j h

  pub call_strikes : get_or w at 0 ≡ 5 → {ls' : List ℕ} {r : Option Compact} → Calls w ls g seat at ls' r → {o : Result Compact Kind} → o ≡ ok_or r Argument
      → Struck w ws ls g seat at ws ls' o
  call_strikes t (alone n i e) u = enters t n refl i (rw e at u)
  call_strikes t (given n j) u = jump_strikes (argument t n refl) _ j u

-- A STRIDE, where it goes on; else a step that opens a frame
module _ {w ws ls : List ℕ} {plan : Plan} {g : Compact} {seat : Seat} {start at tag : ℕ} (v : Evaluating w ws ls plan g seat start at tag) where
  of_tag : (k : ℕ) → get_or w at 0 ≡ k → Evaluating w ws ls plan g seat start at k
  of_tag k t = record { calm = v.calm; is = v.is; place = v.place; word = v.word; tagged = t; paid = v.paid }

  node_is : get_or w at 0 ≡ 5 → node_at w (start_of w seat.function) seat.node
      ≡ Call (get_or w (at + 1) 0) (b_at w (start_of w seat.function) seat.node) (c_at w (start_of w seat.function) seat.node)
  unfolding node_of
  node_is t = let h = tagged (of_tag 5 t) in rw (site_tag (of_tag 5 t), f_is h refl)

  by_one : {to : Control} {next : Compact} → next ≡ later_of g to g.depth 1 → ((o : Step) → o ≡ transited plan (full g) seat to → Stepped w ws ls plan (full g) ws ls o)
      → Strides w ws ls plan g ws ls (Go next)
  by_one {to} {next} e m =
      let t = later_transits plan g v.calm.starts.paced v.paid seat to (Go next) (ap Go e) in
      one_strides v ws ls (Go next) (m _ t.0) (t.1, t.2)

  pub struck_goes : {ws' ls' : List ℕ} {r : Result Compact Kind} {next : Compact} → Struck w ws ls g seat at ws' ls' r → r ≡ Ok next → Strides w ws ls plan g ws' ls' (Go next)
  struck_goes {ls' = ls'} {next = next} (jumps n e i j) u = let x : n ≡ next = cc in rw (i, ← x) (jump_strides v.calm.starts seat v.is ls' n j)
  struck_goes {next = next} (enters t n i k e) u =
      let x : next ≡ later_of g (Eval (body_of (get_or w (at + 1) 0) 0)) g.depth 1 = cc in
      rw (i, k) (by_one x (λ o m. stepped_enter w ws ls plan (full g) v.calm.starts.ready seat v.is _ _ _ o (node_is t) n m))
  struck_goes {next = next} (reads low i k e) u =
      let x : next ≡ later_of g (Ret (leaf_at w at ls 0)) g.depth 1 = cc in
      rw (i, k) (by_one x (λ o m. leaf_stepped v (rw v.tagged at low) m))
  struck_goes {ws' = ws'} {next = next} (halves n e k t j) u =
      let x : n ≡ next = cc in rw (k, ← x) (half_strides v.calm.starts seat v.is ws' n (site_tag (of_tag 2 t)) j)
  struck_goes (opens kind e i k h) u = cc

  struck_opens : {ws' ls' : List ℕ} {r : Result Compact Kind} {kind : Kind} → Struck w ws ls g seat at ws' ls' r → r ≡ Err kind → (ws' ≡ ws) × (ls' ≡ ls) × Opens w at kind
  struck_opens (jumps n e i j) u = cc
  struck_opens (enters t n i k e) u = cc
  struck_opens (reads low i k e) u = cc
  struck_opens (halves n e k t j) u = cc
  struck_opens {kind = kind} (opens n e i k h) u = let x : n ≡ kind = cc in (i, k, rw x at h)

  opens_strides : {kind : Kind} → Opens w at kind → (ws' : List ℕ) → length ws' ≡ length ws → (r : Progress)
      → Opened ws ws' ls plan (full g) seat (word_of kind) g.oldest (step_of r) × PacedBy plan r × Transits g r → Strides w ws ls plan g ws' ls r
  unfolding node_of
  opens_strides h ws' long r u = one_strides v ws' ls r (by h u.0) (u.1, u.2)
    where
      by : {kind : Kind} → Opens w at kind → Opened ws ws' ls plan (full g) seat (word_of kind) g.oldest (step_of r) → Stepped w ws ls plan (full g) ws' ls (step_of r)
      by (operand t k) o =
          let z = of_tag 2 t in
          let n = operation_in w v.calm.starts.ready.kept.table (site_stands v) (site_tag z) in
          stepped_arithmetic w ws ls plan (full g) v.calm.starts.ready seat v.is ws' long (step_of r) n.0 _ n.1 (rw k at o)
      by (condition t k) o =
          stepped_choose w ws ls plan (full g) v.calm.starts.ready seat v.is ws' long (step_of r)
          (b_at w (start_of w seat.function) seat.node) (c_at w (start_of w seat.function) seat.node) (rw (site_tag (of_tag 3 t))) (rw k at o)
      by (binding t k) o =
          stepped_let w ws ls plan (full g) v.calm.starts.ready seat v.is ws' long (step_of r)
          (b_at w (start_of w seat.function) seat.node) (rw (site_tag (of_tag 4 t))) (rw k at o)
      by (argument t n k) o =
          stepped_call w ws ls plan (full g) v.calm.starts.ready seat v.is ws' long (step_of r) _ _ _ (node_is t) (λ z. omega arith) (rw k at o)

  module _ {ws₁ ls₁ : List ℕ} {o : Result Compact Kind} {kind : Kind} (s : Struck w ws ls g seat at ws₁ ls₁ o) (e : o ≡ Err kind) where
    pub struck_framed : Framed ws₁ ls₁ (full g) seat × Paced plan g × Paid plan (full g)
    struck_framed = let x = struck_opens s e in rw (x.0, x.1) (site_framed v, v.calm.starts.paced, v.paid)

    pub struck_opened : {ws' : List ℕ} → length ws' ≡ length ws₁ → {r : Progress} → Opened ws₁ ws' ls₁ plan (full g) seat (word_of kind) g.oldest (step_of r) × PacedBy plan r × Transits g r
        → Strides w ws ls plan g ws' ls₁ r
    struck_opened {ws'} long {r} u =
        let x = struck_opens s e in
        rw x.1 (opens_strides x.2 ws' (rw x.0 at long) r (rw (x.0, x.1) at u))

  pub struck_asks : (kind : Kind) {ws₁ ls₁ : List ℕ} {r : Option Compact} → Struck w ws ls g seat at ws₁ ls₁ (ok_or r kind) → r ≡ None
      → Framed ws₁ ls₁ (full g) seat × Paced plan g × Paid plan (full g)
  struck_asks kind s e = struck_framed s (ap (λ o. ok_or o kind) e)

  pub struck_made : (kind : Kind) {ws₁ ls₁ : List ℕ} (r : Option Compact) → Struck w ws ls g seat at ws₁ ls₁ (ok_or r kind) → {ws' : List ℕ} → length ws' ≡ length ws₁
      → {p : Progress} → OrOpened ws₁ ls₁ plan g seat kind r ws' p → Strides w ws ls plan g ws' ls₁ p
  struck_made kind (Some next) s long u = rw (u.0, u.1) (struck_goes s refl)
  struck_made kind None s long u = struck_opened s refl long u
