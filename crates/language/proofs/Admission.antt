-- An input is accepted iff it is admitted, and what the code's ways out tell.
use Prim.Native.Nat.{ℕ, ◌*◌, ◌%◌}
use mathlib.Core.Path.{◌≡◌, sym, ◌∙◌}
use mathlib.Core.List.{List}
use mathlib.Core.Logic.{◌↔◌}
use mathlib.Core.Bool.{◌&&◌}
use native.Mathlib.Omega.{arith}
use lib.Dec.{leb, eqb}
use borrow.Author.Tests.{le-leb, leb-true, eq-eqb, ne_eqb, eqb-true}
use Rattle.std.specs.Prelude.{Ok, Err}
use Rattle.table.specs.declared.Refusal.{Refusal}
use Rattle.table.specs.Words.{arity_at}
use Rattle.table.specs.Read.{Reading, refused, ◌then◌, unless, read_of}
use Rattle.table.proofs.InOrder.{then_iff, then_stop, then_go}
use Rattle.table.proofs.Acceptance.{unless_iff, and_true_both, read_iff}
use Rattle.language.specs.Checks.{range_of, frames_in, arguments_of, fuel_of, period_of, tau_of, workspace_of, settings_of, checked_of}
use Rattle.language.specs.Admitted.{Within, Admitted}

pub range_iff : (n least most number : ℕ) → (range_of n least most number ≡ Ok tt) ↔ Within least most n
unfolding range_of
range_iff n least most number = (only, all)
  where
    all : Within least most n → range_of n least most number ≡ Ok tt
    all h = (unless_iff (leb least n && leb n most) number 0 0).1 (rw (le-leb least n h.least, le-leb n most h.most))

    only : range_of n least most number ≡ Ok tt → Within least most n
    only e =
        let t = and_true_both (leb least n) (leb n most) ((unless_iff (leb least n && leb n most) number 0 0).0 e) in
        record { least = leb-true _ _ t.0; most = leb-true _ _ t.1 }

pub arguments_iff : (w : List ℕ) (count : ℕ) → (arguments_of w count ≡ Ok tt) ↔ (count ≡ arity_at w 0)
unfolding arguments_of
arguments_iff w count = ((λ e. eqb-true _ _ ((unless_iff _ 7 0 0).0 e)), (λ e. (unless_iff _ 7 0 0).1 (eq-eqb _ _ e)))

pub workspace_iff : (W : ℕ) → (workspace_of W ≡ Ok tt) ↔ ((W ≡ 32 * frames_in W) × Within 1 4096 (frames_in W))
unfolding workspace_of
workspace_iff W = (only, all)
  where
    all : (W ≡ 32 * frames_in W) × Within 1 4096 (frames_in W) → workspace_of W ≡ Ok tt
    all h =
        let d : W % 32 ≡ 0 = omega arith in
        (then_iff _ _).1 ((unless_iff _ 11 0 0).1 (eq-eqb _ _ d), (range_iff (frames_in W) 1 4096 11).1 h.1)

    only : workspace_of W ≡ Ok tt → (W ≡ 32 * frames_in W) × Within 1 4096 (frames_in W)
    only e =
        let t = (then_iff (unless (eqb (W % 32) 0) 11 0 0) (range_of (frames_in W) 1 4096 11)).0 e in
        let d : W % 32 ≡ 0 = eqb-true _ _ ((unless_iff _ 11 0 0).0 t.0) in
        (omega arith, (range_iff _ 1 4096 11).0 t.1)

module _ (w : List ℕ) (count fuel N τ W : ℕ) where
  -- THE THEOREM: accepted iff admitted
  pub checked_iff : (checked_of w count fuel N τ W ≡ Ok tt) ↔ Admitted w count fuel N τ W
  unfolding checked_of settings_of
  checked_iff = (only, all)
    where
      only : checked_of w count fuel N τ W ≡ Ok tt → Admitted w count fuel N τ W
      only e =
          let a = (then_iff (read_of w) _).0 e in
          let b = (then_iff (arguments_of w count) _).0 a.1 in
          let c = (then_iff (fuel_of fuel) _).0 b.1 in
          let d = (then_iff (period_of N) _).0 c.1 in
          let f = (then_iff (tau_of τ) _).0 d.1 in
          let g = (workspace_iff W).0 f.1 in
          record {
            table = (read_iff w).0 a.0;
            arguments = (arguments_iff w count).0 b.0;
            fuel = (range_iff fuel _ _ _).0 c.0;
            period = (range_iff N _ _ _).0 d.0;
            tau = (range_iff τ _ _ _).0 f.0;
            whole = g.0;
            frames = g.1;
          }

      all : Admitted w count fuel N τ W → checked_of w count fuel N τ W ≡ Ok tt
      all h =
          (then_iff (read_of w) _).1 (
            (read_iff w).1 h.table,
            (then_iff (arguments_of w count) _).1 (
              (arguments_iff w count).1 h.arguments,
              (then_iff (fuel_of fuel) _).1 (
                (range_iff fuel _ _ _).1 h.fuel,
                (then_iff (period_of N) _).1 (
                  (range_iff N _ _ _).1 h.period,
                  (then_iff (tau_of τ) _).1 ((range_iff τ _ _ _).1 h.tau, (workspace_iff W).1 (h.whole, h.frames)),
                ),
              ),
            ),
          )

  -- what answers as the definition does keeps both promises
  pub promised : (r : Reading) → r ≡ checked_of w count fuel N τ W
      → (r ≡ checked_of w count fuel N τ W) × ((r ≡ Ok tt) ↔ Admitted w count fuel N τ W)
  promised r e = (e, rw e checked_iff)

-- one check after another, as code has it: the first refuses, or accepts and the second answers
pub then_refuses : {a : Reading} (b : Reading) {r : Refusal} → Err r ≡ a → Err r ≡ (a then b)
then_refuses b e = sym (then_stop _ b _ (sym e))

pub then_goes : {a b t : Reading} → Ok tt ≡ a → t ≡ b → t ≡ (a then b)
then_goes e f = f ∙ sym (then_go _ _ (sym e))

-- the arguments' count, where a is the arity that code reads, and t the answer of what follows
module _ (w : List ℕ) (count a : ℕ) (e : a ≡ arity_at w 0) (t rest : Reading) where
  pub arguments_differ : (count ≡ a → ⊥) → t ≡ refused 7 0 0 → t ≡ (arguments_of w count then rest)
  unfolding arguments_of ◌then◌
  arguments_differ d f = rw (← e, ne_eqb count a d) f

  pub arguments_agree : count ≡ a → t ≡ rest → t ≡ (arguments_of w count then rest)
  unfolding arguments_of ◌then◌
  arguments_agree d f = rw (← e, eq-eqb count a d) f
