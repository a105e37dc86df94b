-- A text after a text is their one text.
--     then     a text, and one from its end on
--     same     the buffer's length stays
--     of_equal   a text of a number is that of an equal one
-- Assumes nothing.
use Prim.Native.Nat.{ℕ, ◌+◌, ◌≤◌}
use mathlib.Core.Path.{◌≡◌, sym, ap, subst, ◌∙◌}
use mathlib.Core.List.{List, ◌++◌, append_assoc}
use native.Mathlib.Omega.{arith}
use lib.ListN.{length, take, drop, length-append, length-drop}
use lib.Seq.{take_at, drop-append-add, drop-drop, length-take-le}
use Rattle.lines.specs.Buffer.{Wrote}

module _ {d : List ℕ} {at : ℕ} {text d₁ : List ℕ} {r : ℕ} (h : Wrote d at text d₁ r) where
  here : at ≤ length d
  here = omega (arith, h.ends, h.fits)

  front : d₁ ≡ (take at d ++ text) ++ drop r d
  front = h.content ∙ sym (append_assoc (take at d) text (drop r d))

  long : length (take at d ++ text) ≡ r
  long = simp (length-append, length-take-le at d here) (sym h.ends)

  pub same : length d₁ ≡ length d
  same = ap length front ∙ simp (length-append (take at d ++ text) (drop r d), long, length-drop r d) (omega (arith, h.fits))

  kept : (n : ℕ) → drop (r + n) d₁ ≡ drop (r + n) d
  kept n =
      ap (drop (r + n)) front
      ∙ ap (λ (k : ℕ). drop (k + n) ((take at d ++ text) ++ drop r d)) (sym long)
      ∙ drop-append-add (take at d ++ text) (drop r d) n
      ∙ drop-drop n r d

  pub then : {more d₂ : List ℕ} {e : ℕ} → Wrote d₁ r more d₂ e → Wrote d at (text ++ more) d₂ e
  then {more} {d₂} {e} g = record {
    ends = simp length-append (omega (arith, h.ends, g.ends));
    fits = rw (← same) g.fits;
    content =
        g.content
        ∙ ap (λ (x : List ℕ). x ++ (more ++ drop e d₁)) (ap (take r) front ∙ take_at (take at d ++ text) (drop r d) r long)
        ∙ ap (λ (x : List ℕ). (take at d ++ text) ++ (more ++ x)) (ap (λ (k : ℕ). drop k d₁) g.ends ∙ kept (length more) ∙ ap (λ (k : ℕ). drop k d) (sym g.ends))
        ∙ append_assoc (take at d) text (more ++ drop e d)
        ∙ ap (λ (x : List ℕ). take at d ++ x) (sym (append_assoc text more (drop e d)));
  }

-- a text, and from its end on one that is told in other words
pub then_as : {d : List ℕ} {at : ℕ} {text d₁ : List ℕ} {r : ℕ} {more d₂ : List ℕ} {e : ℕ} (told : List ℕ)
    → Wrote d at text d₁ r → Wrote d₁ r more d₂ e → more ≡ told → Wrote d at (text ++ told) d₂ e
then_as {d} {at} {text} {d₁} {r} {more} {d₂} {e} told h g is = subst (λ (x : List ℕ). Wrote d at (text ++ x) d₂ e) is (then h g)

-- a text that is told of another, equal number
pub of_equal : {d : List ℕ} {at : ℕ} (text : ℕ → List ℕ) {d₁ : List ℕ} {r : ℕ} (n m : ℕ) → n ≡ m → Wrote d at (text n) d₁ r
    → Wrote d at (text m) d₁ r
of_equal {d} {at} text {d₁} {r} n m e = subst (λ (k : ℕ). Wrote d at (text k) d₁ r) e
