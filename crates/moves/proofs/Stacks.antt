-- The slots that the words hold depend on the words of those frames alone.
--     length_stack, stack_more    a stack of d frames, and one frame more
--     held_more, held_top         what the table assures of them
--     slot_agrees                 a slot where the words of its frame agree
--     same_slots                  a stack where its words agree
use Prim.Native.Nat.{ℕ, zero, suc, ◌+◌, ◌*◌, ◌<◌, ◌≤◌}
use mathlib.Core.Path.{◌≡◌, refl, sym, ap, ◌∙◌}
use mathlib.Core.List.{List, ◌∷◌}
use native.Mathlib.Omega.{arith}
use native.Mathlib.Decide.{ℕ_discrete}
use native.Mathlib.Numerals.{add-one}
use lib.ListN.{length, get_or, take, drop}
use Rattle.schedule.specs.Machine.{Slot}
use Rattle.table.specs.Words.{start_of, body_at, tag_at, a_at}
use Rattle.table.specs.WellFormed.{WellFormed}
use Rattle.table.proofs.Views.{at_call}
use Rattle.frames.specs.Frames.{arguments_word, frame_kind, frame_function, frame_node, frame_count, frame_value, frame_before, frame_left, frame_arguments}
use Rattle.frames.proofs.Words.{same_word}
use Rattle.frames.proofs.Writes.{Agree, frames_agree}
use Rattle.language.specs.Language.{Code, Frame}
use Rattle.moves.specs.Layout.{code_at, slot_of, slot_at, stack_of}
use Rattle.moves.specs.Ready.{Fitting, FittingAt, Held}

pub length_stack : (ws : List ℕ) (d : ℕ) → length (stack_of ws d) ≡ d
unfolding stack_of
length_stack ws zero = refl
length_stack ws (suc d) = ap suc (length_stack ws d)

pub stack_more : (ws : List ℕ) (d : ℕ) → ◌≡◌ {A = List (Slot ℕ Frame Code)} (slot_at ws (32 * d) ∷ stack_of ws d) (stack_of ws (d + 1))
unfolding stack_of
stack_more ws d = rw (add-one d)

pub held_more : (w ws : List ℕ) (d : ℕ) → FittingAt w ws (32 * d) → Held w ws d → Held w ws (d + 1)
unfolding Held
held_more w ws d t h = rw (add-one d) (t, h)

pub held_top : (w ws : List ℕ) (d : ℕ) → Held w ws (d + 1) → FittingAt w ws (32 * d) × Held w ws d
unfolding Held
held_top w ws d h = rw (add-one d) at h

-- only a call's slot has arguments
slot_ignores : (kind : ℕ) (c : Code) (v : ℕ) (vs vs' : List ℕ) (g l : ℕ) → (kind ≡ 4 → ⊥) → slot_of kind c v vs g l ≡ slot_of kind c v vs' g l
unfolding slot_of
slot_ignores zero c v vs vs' g l h = refl
slot_ignores (suc zero) c v vs vs' g l h = refl
slot_ignores (suc (suc zero)) c v vs vs' g l h = refl
slot_ignores (suc (suc (suc zero))) c v vs vs' g l h = refl
slot_ignores (suc (suc (suc (suc zero)))) c v vs vs' g l h = absurd (h refl)
slot_ignores (suc (suc (suc (suc (suc zero))))) c v vs vs' g l h = refl
slot_ignores (suc (suc (suc (suc (suc (suc zero)))))) c v vs vs' g l h = refl
slot_ignores (suc (suc (suc (suc (suc (suc (suc zero))))))) c v vs vs' g l h = refl
slot_ignores (suc (suc (suc (suc (suc (suc (suc (suc k)))))))) c v vs vs' g l h = refl

-- and it has at most two while it awaits one more
pub few_arguments : (w : List ℕ) → WellFormed w → (kind f p k n : ℕ) → Fitting w kind f p k n → kind ≡ 4 → n < 3
few_arguments w table kind f p k n t e =
    let tag : tag_at w (start_of w f) p ≡ 5 = rw e at t.tag in
    let known = at_call w (body_at w f) t.stands.tree tag in
    omega (arith, t.awaits e, (table.contents.entries (a_at w (start_of w f) p) known.0).arity)

module _ (w ws ws' : List ℕ) (table : WellFormed w) (long : length ws' ≡ length ws) where
  module _ (b : ℕ) (room : b + 32 ≤ length ws) (word : (i : ℕ) → b ≤ i → i < b + 27 → get_or ws i 0 ≡ get_or ws' i 0) (t : FittingAt w ws b) where
    abbrev agree : Agree ws ws' b
    agree = frames_agree ws ws' (sym long) b room word

    arguments_agree : (g l : ℕ) → slot_of (frame_kind ws b) (code_at ws b) (frame_value ws b) (frame_arguments ws b) g l
        ≡ slot_of (frame_kind ws b) (code_at ws b) (frame_value ws b) (take (frame_value ws b) (drop (arguments_word b) ws')) g l
    arguments_agree g l = at (ℕ_discrete (frame_kind ws b) 4)
      where
        at : Dec (frame_kind ws b ≡ 4) → slot_of (frame_kind ws b) (code_at ws b) (frame_value ws b) (frame_arguments ws b) g l
            ≡ slot_of (frame_kind ws b) (code_at ws b) (frame_value ws b) (take (frame_value ws b) (drop (arguments_word b) ws')) g l
        at (yes e) =
            let few = few_arguments w table (frame_kind ws b) (frame_function ws b) (frame_node ws b) (frame_count ws b) (frame_value ws b) t e in
            ap (λ (vs : List ℕ). slot_of (frame_kind ws b) (code_at ws b) (frame_value ws b) vs g l) (agree.arguments (frame_value ws b) (omega arith))
        at (no e) = slot_ignores (frame_kind ws b) (code_at ws b) (frame_value ws b) (frame_arguments ws b) (take (frame_value ws b) (drop (arguments_word b) ws')) g l e

    pub slot_agrees : (slot_at ws b ≡ slot_at ws' b) × FittingAt w ws' b
    slot_agrees = (
      arguments_agree (frame_before ws b) (frame_left ws b)
          ∙ rw (agree.locals (frame_count ws b) t.stands.few, agree.is_kind, agree.is_function, agree.is_node, agree.is_count, agree.is_value, agree.is_before, agree.is_left),
      (rw (agree.is_kind, agree.is_function, agree.is_node, agree.is_count, agree.is_value) at t),
    )

  slots_agree : (d n : ℕ) → take n ws ≡ take n ws' → 32 * d ≤ n → n ≤ length ws → Held w ws d → (stack_of ws d ≡ stack_of ws' d) × Held w ws' d
  unfolding stack_of Held
  slots_agree zero n e h g t = (refl, tt)
  slots_agree (suc d) n e h g t =
      let rest = slots_agree d n e (omega arith) g t.1 in
      let one = slot_agrees (32 * d) (omega arith) (λ i x y. same_word ws ws' n e i (omega arith)) t.0 in
      (rw (one.0, rest.0), (one.1, rest.1))

  pub same_slots : (d : ℕ) → take (32 * d) ws ≡ take (32 * d) ws' → 32 * d ≤ length ws → Held w ws d → (stack_of ws d ≡ stack_of ws' d) × Held w ws' d
  same_slots d e h t = slots_agree d (32 * d) e (omega arith) h t
