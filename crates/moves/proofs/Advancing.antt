-- A move with the promotion that may be due is the definition's step.
--     promote_ready       where one is due there is a fork to promote
--     advanced_promote    the promotion is the step
--     advanced_move       else the move is
use Prim.Native.Nat.{ℕ, ◌*◌, ◌<◌, ◌≤◌, ◌^◌}
use mathlib.Core.Path.{◌≡◌, sym, ap, ◌∙◌}
use mathlib.Core.Bool.{Bool, true, false, true≢false, ◌&&◌}
use mathlib.Core.List.{List}
use native.Mathlib.Omega.{arith}
use lib.ListN.{length}
use lib.Dec.{ltb, leb}
use borrow.Author.Tests.{ltb-true}
use Rattle.schedule.specs.Machine.{ongoing}
use Rattle.schedule.specs.Bounds.{step_by}
use Rattle.moves.specs.declared.Registers.{Registers}
use Rattle.moves.specs.declared.Plan.{Plan}
use Rattle.moves.specs.declared.Step.{Step}
use Rattle.moves.specs.declared.Step.TheVariants.{Go}
use Rattle.moves.specs.Layout.{state_of, result_of}
use Rattle.moves.specs.Ready.{Ready, KeptBy, Stepped, Advanced, Promoted}
use Rattle.moves.proofs.Promotion.{due_is, promote_told}
use Rattle.moves.proofs.Sparing.{spared_marked}

and_right : (a b : Bool) → (a && b) ≡ true → b ≡ true
and_right true b e = e
and_right false b e = absurd (true≢false (sym e))

module _ (w ws ls : List ℕ) (plan : Plan) (s : Registers) (r : Ready w ws ls plan s) where
  pub promote_ready : (b : Bool) → b ≡ (leb plan.period s.credits.0 && ltb s.oldest s.depth) → b ≡ true
      → (32 * s.depth ≤ length ws) × (s.oldest < s.depth) × (s.depth ≤ 4096) × (s.forks < 2 ^ 60)
  promote_ready b e t = (
    r.kept.room,
    ltb-true _ _ (and_right (leb plan.period s.credits.0) (ltb s.oldest s.depth) (sym e ∙ t)),
    omega (arith, r.kept.room, r.limits.frames),
    omega (arith, r.bounded.forks, r.limits.fuel, r.limits.frames),
  )

  pub advanced_promote : (b : Bool) → b ≡ (leb plan.period s.credits.0 && ltb s.oldest s.depth) → b ≡ true
      → (ws' : List ℕ) → length ws' ≡ length ws → (next : Registers) → Promoted ws s ws' next → Advanced w ws ls plan s ws' ls (Go next)
  unfolding step_by result_of KeptBy
  advanced_promote b e t ws' long next u =
      let x = promote_told ws ws' s next r.kept.room (promote_ready b e t).1 u w r.kept.table r.kept.held r.kept.oldest in
      let d : next.depth ≡ s.depth = ap (λ (y : Registers). y.depth) u.registers in
      let c : next.control ≡ s.control = ap (λ (y : Registers). y.control) u.registers in
      let q : (leb plan.period s.credits.0 && ltb s.oldest s.depth) ≡ true = sym e ∙ t in
      record {
        same = rw (due_is ws s.depth s.oldest r.kept.oldest, q, ← x.0) (ap (λ (y : Registers). ongoing (state_of w plan.tau ws' ls y)) (sym u.registers));
        kept = record {
          table = r.kept.table;
          sixteen = r.kept.sixteen;
          room = omega (arith, r.kept.room);
          held = rw d x.1.0;
          control = rw c r.kept.control;
          oldest = rw d x.1.1;
          born = λ y. absurd (omega (arith, promote_ready b e t, r.kept.born y));
        };
        spared = spared_marked ws ws' s.oldest (omega (arith, r.kept.room, (promote_ready b e t).1)) 7 s.span.0 u.words;
      }

  pub advanced_move : (b : Bool) → b ≡ (leb plan.period s.credits.0 && ltb s.oldest s.depth) → b ≡ false
      → (ws' ls' : List ℕ) (o : Step) → Stepped w ws ls plan s ws' ls' o → Advanced w ws ls plan s ws' ls' o
  unfolding step_by
  advanced_move b e t ws' ls' o u =
      let q : (leb plan.period s.credits.0 && ltb s.oldest s.depth) ≡ false = sym e ∙ t in
      record { same = rw (due_is ws s.depth s.oldest r.kept.oldest, q) u.same; kept = u.kept; spared = u.spared }
