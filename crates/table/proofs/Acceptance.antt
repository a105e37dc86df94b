-- A table is accepted iff it is well-formed.
use Prim.Native.Nat.{ℕ, ◌+◌, ◌*◌, ◌<◌}
use mathlib.Core.Path.{◌≡◌, refl, sym, ap, ◌∙◌}
use mathlib.Core.List.{List}
use mathlib.Core.Logic.{◌↔◌}
use mathlib.Core.Bool.{Bool, true, false, ◌&&◌, true≢false}
use native.Mathlib.Omega.{arith}
use lib.ListN.{length}
use lib.Dec.{leb}
use borrow.Author.Tests.{le-leb, leb-true, eq-eqb, ne_eqb, eqb-true}
use Rattle.std.specs.Prelude.{Ok, Err}
use Rattle.table.specs.declared.Refusal.{Refusal}
use Rattle.table.specs.Words.{functions, arity_at, nodes_at, nodes_before, start_of, body_at}
use Rattle.table.specs.Walk.{Walked, Walks}
use Rattle.table.specs.Read.{Reading, refused, ◌then◌, unless, header_test, header, entry_test, entry, exact, root_of, body_read, each, contents, bodies, read_of}
use Rattle.table.specs.WellFormed.{Subtree, Header, Entry, Contents, WellFormed}
use Rattle.table.proofs.InOrder.{then_iff, each_iff, then_stop, then_go}
use Rattle.table.proofs.Trees.{walk_of_lem, tree_of}

pub unless_iff : (t : Bool) (number function node : ℕ) → (unless t number function node ≡ Ok tt) ↔ (t ≡ true)
unless_iff true number function node = ((λ e. refl), (λ e. refl))
unless_iff false number function node = ((λ e. absurd cc), (λ e. absurd (true≢false (sym e))))

pub and_true_both : (a b : Bool) → (a && b) ≡ true → (a ≡ true) × (b ≡ true)
and_true_both true b e = (refl, e)
and_true_both false b e = absurd (true≢false (sym e))

module _ (w : List ℕ) where
  pub header_iff : (header w ≡ Ok tt) ↔ Header w
  unfolding header
  header_iff = (only, λ h. (unless_iff (header_test w) 1 0 0).1 (rw (le-leb 1 (length w) (omega (arith, h.room)), le-leb 1 (functions w) h.some, le-leb (functions w) 64 h.few, le-leb (1 + 2 * functions w) (length w) h.room)))
    where
      only : header w ≡ Ok tt → Header w
      only e =
          let t = and_true_both (leb 1 (length w)) _ ((unless_iff (header_test w) 1 0 0).0 e) in
          let u = and_true_both (leb 1 (functions w)) _ t.1 in
          let v = and_true_both (leb (functions w) 64) (leb (1 + 2 * functions w) (length w)) u.1 in
          record { some = leb-true _ _ u.0; few = leb-true _ _ v.0; room = leb-true _ _ v.1 }

  pub entry_iff : (f : ℕ) → (entry w f ≡ Ok tt) ↔ Entry w f
  unfolding entry
  entry_iff f = (only, λ h. (unless_iff (entry_test w f) 2 f 0).1 (rw (le-leb (arity_at w f) 3 h.arity, le-leb 1 (nodes_at w f) h.some, le-leb (nodes_before w f + nodes_at w f) 4000 h.few)))
    where
      only : entry w f ≡ Ok tt → Entry w f
      only e =
          let t = and_true_both _ _ ((unless_iff (entry_test w f) 2 f 0).0 e) in
          let u = and_true_both _ _ t.1 in
          record { arity = leb-true _ _ t.0; some = leb-true _ _ u.0; few = leb-true _ _ u.1 }

  pub exact_iff : (exact w ≡ Ok tt) ↔ (length w ≡ start_of w (functions w))
  unfolding exact
  exact_iff = ((λ e. eqb-true _ _ ((unless_iff _ 3 0 0).0 e)), (λ e. (unless_iff _ 3 0 0).1 (eq-eqb _ _ e)))

  root_iff : (n f : ℕ) (r : Walked) → (root_of n f r ≡ Ok tt) ↔ (r ≡ Ok n)
  unfolding root_of
  root_iff n f (Ok q) = ((λ e. ap Ok (eqb-true _ _ ((unless_iff _ 18 f q).0 e))), (λ e. let x : q ≡ n = cc in (unless_iff _ 18 f q).1 (eq-eqb _ _ x)))
  root_iff n f (Err fault) = ((λ e. absurd cc), (λ e. absurd cc))

  pub body_iff : (f : ℕ) → (body_read w f ≡ Ok tt) ↔ Subtree w (body_at w f) 1 0 (arity_at w f) (nodes_at w f)
  unfolding body_read
  body_iff f = (
    (λ e. tree_of w (body_at w f) _ 1 0 (arity_at w f) (nodes_at w f) ((root_iff _ f _).0 e)),
    (λ s. (root_iff _ f _).1 (walk_of_lem w (body_at w f) s (nodes_at w f) (omega arith))),
  )

  pub contents_iff : ((header w ≡ Ok tt) × (contents w ≡ Ok tt)) ↔ Contents w
  unfolding contents
  contents_iff = (only, all)
    where
      only : (header w ≡ Ok tt) × (contents w ≡ Ok tt) → Contents w
      only e = let t = (then_iff _ _).0 e.1 in record {
        header = header_iff.0 e.0;
        entries = λ f h. (entry_iff f).0 ((each_iff (entry w) (functions w) 0).0 t.0 f (omega arith) (omega arith));
        exact = exact_iff.0 t.1;
      }

      all : Contents w → (header w ≡ Ok tt) × (contents w ≡ Ok tt)
      all c = (header_iff.1 c.header, (then_iff _ _).1 ((each_iff (entry w) (functions w) 0).1 (λ f l h. (entry_iff f).1 (c.entries f (omega arith))), exact_iff.1 c.exact))

  pub bodies_iff : (bodies w ≡ Ok tt) ↔ ((f : ℕ) → f < functions w → Subtree w (body_at w f) 1 0 (arity_at w f) (nodes_at w f))
  unfolding bodies
  bodies_iff = (
    (λ e f h. (body_iff f).0 ((each_iff (body_read w) (functions w) 0).0 e f (omega arith) (omega arith))),
    (λ t. (each_iff (body_read w) (functions w) 0).1 (λ f l h. (body_iff f).1 (t f (omega arith)))),
  )

  -- THE THEOREM: accepted iff well-formed
  pub read_iff : (read_of w ≡ Ok tt) ↔ WellFormed w
  unfolding read_of
  read_iff = (only, all)
    where
      only : read_of w ≡ Ok tt → WellFormed w
      only e =
          let t = (then_iff (header w) (contents w then bodies w)).0 e in
          let u = (then_iff (contents w) (bodies w)).0 t.1 in
          record { contents = contents_iff.0 (t.0, u.0); trees = bodies_iff.0 u.1 }

      all : WellFormed w → read_of w ≡ Ok tt
      all h =
          let c = contents_iff.1 h.contents in
          (then_iff (header w) (contents w then bodies w)).1 (c.0, (then_iff (contents w) (bodies w)).1 (c.1, bodies_iff.1 h.trees))

  -- what the walk of a root tells of its function
  pub body_answer : (f start n k : ℕ) → start ≡ start_of w f → n ≡ nodes_at w f → k ≡ arity_at w f → (r : Walked)
      → Walks w (record { start = start; nodes = n }) 1 0 k r → root_of n f r ≡ body_read w f
  unfolding body_read
  body_answer f start n k x y z r h = rw (← x, ← y, ← z, ← h.same n (omega arith))

  -- what `contents_read` answers, by its way out
  pub contents_stop : (r : Refusal) → each (entry w) (functions w) 0 ≡ Err r → Err r ≡ contents w
  unfolding contents
  contents_stop r e = sym (then_stop _ (exact w) r e)

  pub contents_long : each (entry w) (functions w) 0 ≡ Ok tt → (length w ≡ start_of w (functions w) → ⊥) → refused 3 0 0 ≡ contents w
  unfolding contents exact
  contents_long e d = sym (then_go _ (exact w) e ∙ rw (ne_eqb _ _ d))

  pub contents_good : each (entry w) (functions w) 0 ≡ Ok tt → length w ≡ start_of w (functions w) → Ok tt ≡ contents w
  unfolding contents exact
  contents_good e d = sym (then_go _ (exact w) e ∙ rw (eq-eqb _ _ d))

  -- what `read` answers, by its way out
  pub read_header : (r : Refusal) → header w ≡ Err r → Err r ≡ read_of w
  unfolding read_of
  read_header r e = sym (then_stop _ _ r e)

  pub read_contents : (r : Refusal) → header w ≡ Ok tt → contents w ≡ Err r → Err r ≡ read_of w
  unfolding read_of
  read_contents r h e = sym (then_go _ _ h ∙ then_stop _ _ r e)

  pub read_bodies : header w ≡ Ok tt → contents w ≡ Ok tt → bodies w ≡ read_of w
  unfolding read_of
  read_bodies h e = sym (then_go _ _ h ∙ then_go _ _ e)

  -- what answers as the definition does keeps both promises
  pub promised : (r : Reading) → r ≡ read_of w → (r ≡ read_of w) × ((r ≡ Ok tt) ↔ WellFormed w)
  promised r e = (e, rw e read_iff)
