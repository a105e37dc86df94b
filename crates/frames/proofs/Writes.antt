-- What follows from the definitions of specs/Frames, part by part, for the crate above.
--     Pushed, is_pushed          the words of a new frame, and those below it
--     Turned, is_turned          those of a turned frame
--     Collected, is_collected    those of a frame that has collected an argument
--     Marked, is_marked          those of a promoted frame, and those of the others
--     pushed_spares and so on    a write leaves every word from the 28th of a frame on, and all words of other frames
--     Agree, frames_agree        what a frame holds in two lists where its words agree, but for the places of a fork
--     Loaded, is_loaded          the locals that were brought back
--     Appended, is_appended      the locals with one more
-- `ws` are the words before and `ws'` those after; b is a frame's first word. Assumes nothing.
use Prim.Native.Nat.{ℕ, suc, ◌+◌, ◌<◌, ◌≤◌, zero-le}
use mathlib.Core.Path.{◌≡◌, ap, ◌∙◌}
use mathlib.Core.List.{List, [], ◌∷◌, ◌++◌}
use native.Mathlib.Omega.{arith}
use native.Mathlib.Numerals.{add-one}
use lib.ListN.{length, get_or, take, drop, set, length-set, length-drop}
use lib.Seq.{take-set-le, drop-set-lt, drop-set-add, get_or-set_same, get_or-set_other, length-paste, take-suc-set}
use Rattle.frames.specs.Frames.{locals_word, arguments_word, frame_kind, frame_function, frame_node, frame_count, frame_value, frame_before, frame_left, pushed, turned, collected, marked, loaded, appended}
use Rattle.frames.proofs.Words.{get_or-paste, paste_other, take_paste_below, pasted, get_or-write_other, part_same}

-- A new frame stands at b: it has this kind, function and node, saves the first k of the locals `ls`, has the value 0 and this span
-- before the fork. The words below it and their number are as before.
pub record Pushed (ws ws' : List ℕ) (b kind function node k : ℕ) (ls : List ℕ) (before : ℕ) : Type 0 where
  pub below : take b ws' ≡ take b ws
  pub long : length ws' ≡ length ws
  pub is_kind : frame_kind ws' b ≡ kind
  pub is_function : frame_function ws' b ≡ function
  pub is_node : frame_node ws' b ≡ node
  pub is_count : frame_count ws' b ≡ k
  pub is_value : frame_value ws' b ≡ 0
  pub is_before : frame_before ws' b ≡ before
  pub is_locals : take k (drop (locals_word b) ws') ≡ take k ls

-- The frame at b has another kind, the value v and the span g of the left branch. The rest of it, all words from its locals on, the
-- words below and their number are as before.
pub record Turned (ws ws' : List ℕ) (b kind v g : ℕ) : Type 0 where
  pub below : take b ws' ≡ take b ws
  pub long : length ws' ≡ length ws
  pub is_kind : frame_kind ws' b ≡ kind
  pub is_function : frame_function ws' b ≡ frame_function ws b
  pub is_node : frame_node ws' b ≡ frame_node ws b
  pub is_count : frame_count ws' b ≡ frame_count ws b
  pub is_value : frame_value ws' b ≡ v
  pub is_before : frame_before ws' b ≡ frame_before ws b
  pub is_branch : frame_left ws' b ≡ g
  pub above : drop (locals_word b) ws' ≡ drop (locals_word b) ws

-- The frame at b has collected one argument more, v, after the n that it had. Its kind, function, node and saved locals, the words
-- below and their number are as before.
pub record Collected (ws ws' : List ℕ) (b n v : ℕ) : Type 0 where
  pub below : take b ws' ≡ take b ws
  pub long : length ws' ≡ length ws
  pub is_kind : frame_kind ws' b ≡ frame_kind ws b
  pub is_function : frame_function ws' b ≡ frame_function ws b
  pub is_node : frame_node ws' b ≡ frame_node ws b
  pub is_count : frame_count ws' b ≡ frame_count ws b
  pub is_value : frame_value ws' b ≡ n + 1
  pub is_locals : (k : ℕ) → k ≤ 16 → take k (drop (locals_word b) ws') ≡ take k (drop (locals_word b) ws)
  pub is_arguments : take (n + 1) (drop (arguments_word b) ws') ≡ take n (drop (arguments_word b) ws) ++ (v ∷ [])

-- The frame at b has another kind, and this span before the fork. The rest of it, and all words of other frames, are as before.
pub record Marked (ws ws' : List ℕ) (b kind g : ℕ) : Type 0 where
  pub long : length ws' ≡ length ws
  pub is_kind : frame_kind ws' b ≡ kind
  pub is_function : frame_function ws' b ≡ frame_function ws b
  pub is_node : frame_node ws' b ≡ frame_node ws b
  pub is_count : frame_count ws' b ≡ frame_count ws b
  pub is_before : frame_before ws' b ≡ g
  pub above : drop (locals_word b) ws' ≡ drop (locals_word b) ws
  pub others : (i : ℕ) → (b ≤ i → i < b + 32 → ⊥) → get_or ws' i 0 ≡ get_or ws i 0

-- The frame at b holds the same in both.
pub record Agree (ws ws' : List ℕ) (b : ℕ) : Type 0 where
  pub is_kind : frame_kind ws b ≡ frame_kind ws' b
  pub is_function : frame_function ws b ≡ frame_function ws' b
  pub is_node : frame_node ws b ≡ frame_node ws' b
  pub is_count : frame_count ws b ≡ frame_count ws' b
  pub is_value : frame_value ws b ≡ frame_value ws' b
  pub is_before : frame_before ws b ≡ frame_before ws' b
  pub is_left : frame_left ws b ≡ frame_left ws' b
  pub locals : (k : ℕ) → k ≤ 16 → take k (drop (locals_word b) ws) ≡ take k (drop (locals_word b) ws')
  pub arguments : (n : ℕ) → n ≤ 3 → take n (drop (arguments_word b) ws) ≡ take n (drop (arguments_word b) ws')

-- The locals `ls` are sixteen words, the first k of which are the words from `from` on.
pub record Loaded (ws : List ℕ) (from k : ℕ) (ls : List ℕ) : Type 0 where
  pub sixteen : length ls ≡ 16
  pub are : take k ls ≡ take k (drop from ws)

-- The locals `ls'` are sixteen words, the first of which are the first k of `ls`, and v after them.
pub record Appended (ls : List ℕ) (k v : ℕ) (ls' : List ℕ) : Type 0 where
  pub sixteen : length ls' ≡ 16
  pub are : take (k + 1) ls' ≡ take k ls ++ (v ∷ [])

module _ (ws ws' : List ℕ) (b : ℕ) (h : b + 32 ≤ length ws) where
  pub is_turned : (kind v g : ℕ) → ws' ≡ turned ws b kind v g → Turned ws ws' b kind v g
  unfolding turned
  is_turned kind v g is =
      let x1 : List ℕ = set ws b kind in
      let x2 : List ℕ = set x1 (b + 4) v in
      let x3 : List ℕ = set x2 (b + 6) g in
      let word : (j : ℕ) → (0 ≡ j → ⊥) → (4 ≡ j → ⊥) → (6 ≡ j → ⊥) → get_or x3 (b + j) 0 ≡ get_or ws (b + j) 0 =
      λ j n0 n4 n6. get_or-write_other x2 b 6 j g n6 ∙ get_or-write_other x1 b 4 j v n4 ∙ get_or-set_other ws b (b + j) kind 0 (omega arith) in
      rw is (record {
        below = take-set-le b x2 (b + 6) g (omega arith) ∙ take-set-le b x1 (b + 4) v (omega arith) ∙ take-set-le b ws b kind (omega arith);
        long = length-set x2 (b + 6) g ∙ length-set x1 (b + 4) v ∙ length-set ws b kind;
        is_kind = get_or-set_other x2 (b + 6) b g 0 (omega arith) ∙ get_or-set_other x1 (b + 4) b v 0 (omega arith) ∙ get_or-set_same ws b kind 0 (omega arith);
        is_function = word 1 (omega arith) (omega arith) (omega arith);
        is_node = word 2 (omega arith) (omega arith) (omega arith);
        is_count = word 3 (omega arith) (omega arith) (omega arith);
        is_value = get_or-set_other x2 (b + 6) (b + 4) g 0 (omega arith) ∙ get_or-set_same x1 (b + 4) v 0 (simp length-set (omega arith));
        is_before = word 5 (omega arith) (omega arith) (omega arith);
        is_branch = get_or-set_same x2 (b + 6) g 0 (simp length-set (omega arith));
        above = drop-set-lt (b + 8) x2 (b + 6) g (omega arith) ∙ drop-set-lt (b + 8) x1 (b + 4) v (omega arith) ∙ drop-set-lt (b + 8) ws b kind (omega arith);
      })

  pub is_pushed : (kind function node k : ℕ) (ls : List ℕ) (before : ℕ) → k ≤ 16 → length ls ≡ 16 → ws' ≡ pushed ws b kind function node k ls before
      → Pushed ws ws' b kind function node k ls before
  unfolding pushed
  is_pushed kind function node k ls before g l is =
      let x1 : List ℕ = set ws b kind in
      let x2 : List ℕ = set x1 (b + 1) function in
      let x3 : List ℕ = set x2 (b + 2) node in
      let x4 : List ℕ = set x3 (b + 3) k in
      let x5 : List ℕ = set x4 (b + 4) 0 in
      let x6 : List ℕ = set x5 (b + 5) before in
      let same : length x6 ≡ length ws = simp length-set in
      let e : b + 8 ≤ length x6 = omega arith in
      let word = get_or-paste x6 (b + 8) ls k e in
      rw is (record {
        below = take_paste_below x6 (b + 8) ls k e b (omega arith)
            ∙ take-set-le b x5 (b + 5) before (omega arith) ∙ take-set-le b x4 (b + 4) 0 (omega arith)
            ∙ take-set-le b x3 (b + 3) k (omega arith) ∙ take-set-le b x2 (b + 2) node (omega arith) ∙ take-set-le b x1 (b + 1) function (omega arith) ∙ take-set-le b ws b kind (omega arith);
        long = length-paste x6 (b + 8) ls k (omega arith) (omega arith) ∙ same;
        is_kind = word b (omega arith) ∙ get_or-set_other x5 (b + 5) b before 0 (omega arith) ∙ get_or-set_other x4 (b + 4) b 0 0 (omega arith) ∙ get_or-set_other x3 (b + 3) b k 0 (omega arith) ∙ get_or-set_other x2 (b + 2) b node 0 (omega arith) ∙ get_or-set_other x1 (b + 1) b function 0 (omega arith) ∙ get_or-set_same ws b kind 0 (omega arith);
        is_function = word (b + 1) (omega arith) ∙ get_or-write_other x5 b 5 1 before (omega arith) ∙ get_or-write_other x4 b 4 1 0 (omega arith) ∙ get_or-write_other x3 b 3 1 k (omega arith) ∙ get_or-write_other x2 b 2 1 node (omega arith) ∙ get_or-set_same x1 (b + 1) function 0 (simp length-set (omega arith));
        is_node = word (b + 2) (omega arith) ∙ get_or-write_other x5 b 5 2 before (omega arith) ∙ get_or-write_other x4 b 4 2 0 (omega arith) ∙ get_or-write_other x3 b 3 2 k (omega arith) ∙ get_or-set_same x2 (b + 2) node 0 (simp length-set (omega arith));
        is_count = word (b + 3) (omega arith) ∙ get_or-write_other x5 b 5 3 before (omega arith) ∙ get_or-write_other x4 b 4 3 0 (omega arith) ∙ get_or-set_same x3 (b + 3) k 0 (simp length-set (omega arith));
        is_value = word (b + 4) (omega arith) ∙ get_or-write_other x5 b 5 4 before (omega arith) ∙ get_or-set_same x4 (b + 4) 0 0 (simp length-set (omega arith));
        is_before = word (b + 5) (omega arith) ∙ get_or-set_same x5 (b + 5) before 0 (simp length-set (omega arith));
        is_locals = pasted x6 (b + 8) ls k e (omega arith);
      })

  pub is_collected : (n v : ℕ) → n < 3 → ws' ≡ collected ws b n v → Collected ws ws' b n v
  unfolding collected
  is_collected n v l is =
      let x1 : List ℕ = set ws (b + 24 + n) v in
      let x2 : List ℕ = set x1 (b + 4) (n + 1) in
      let word : (j : ℕ) → j < 4 → get_or x2 (b + j) 0 ≡ get_or ws (b + j) 0 =
      λ j m. get_or-write_other x1 b 4 j (n + 1) (omega arith) ∙ get_or-set_other ws (b + 24 + n) (b + j) v 0 (omega arith) in
      let far : b + 24 + n ≡ b + 8 + (16 + n) = omega arith in
      let locals : drop (b + 8) x1 ≡ set (drop (b + 8) ws) (16 + n) v = rw far (drop-set-add (b + 8) ws (16 + n) v) in
      let free : n < length (drop (b + 24) ws) = simp length-drop (omega arith) in
      rw is (record {
        below = take-set-le b x1 (b + 4) (n + 1) (omega arith) ∙ take-set-le b ws (b + 24 + n) v (omega arith);
        long = length-set x1 (b + 4) (n + 1) ∙ length-set ws (b + 24 + n) v;
        is_kind = get_or-set_other x1 (b + 4) b (n + 1) 0 (omega arith) ∙ get_or-set_other ws (b + 24 + n) b v 0 (omega arith);
        is_function = word 1 (omega arith);
        is_node = word 2 (omega arith);
        is_count = word 3 (omega arith);
        is_value = get_or-set_same x1 (b + 4) (n + 1) 0 (simp length-set (omega arith));
        is_locals = λ k m. ap (take k) (drop-set-lt (b + 8) x1 (b + 4) (n + 1) (omega arith) ∙ locals) ∙ take-set-le k (drop (b + 8) ws) (16 + n) v (omega arith);
        is_arguments = rw (add-one n) (ap (take (suc n)) (drop-set-lt (b + 24) x1 (b + 4) (suc n) (omega arith) ∙ drop-set-add (b + 24) ws n v) ∙ take-suc-set (drop (b + 24) ws) n v free);
      })

  pub is_marked : (kind g : ℕ) → ws' ≡ marked ws b kind g → Marked ws ws' b kind g
  is_marked kind g is =
      let x1 : List ℕ = set ws b kind in
      let word : (j : ℕ) → (0 ≡ j → ⊥) → (5 ≡ j → ⊥) → get_or (set x1 (b + 5) g) (b + j) 0 ≡ get_or ws (b + j) 0 =
      λ j n0 n5. get_or-write_other x1 b 5 j g n5 ∙ get_or-set_other ws b (b + j) kind 0 (omega arith) in
      rw is (record {
        long = length-set x1 (b + 5) g ∙ length-set ws b kind;
        is_kind = get_or-set_other x1 (b + 5) b g 0 (omega arith) ∙ get_or-set_same ws b kind 0 (omega arith);
        is_function = word 1 (omega arith) (omega arith);
        is_node = word 2 (omega arith) (omega arith);
        is_count = word 3 (omega arith) (omega arith);
        is_before = get_or-set_same x1 (b + 5) g 0 (simp length-set (omega arith));
        above = drop-set-lt (b + 8) x1 (b + 5) g (omega arith) ∙ drop-set-lt (b + 8) ws b kind (omega arith);
        others = λ i l. get_or-set_other x1 (b + 5) i g 0 (λ e. l (omega arith) (omega arith)) ∙ get_or-set_other ws b i kind 0 (λ e. l (omega arith) (omega arith));
      })

-- WORDS THAT NO WRITE TOUCHES: those of other frames, and the places of a fork
module _ (ws ws' : List ℕ) (b i : ℕ) (room : b + 32 ≤ length ws) (apart : b ≤ i → i < b + 27 → ⊥) where
  other : (j : ℕ) → j < 27 → i ≡ b + j → ⊥
  other j h e = apart (omega arith) (omega arith)

  pub pushed_spares : (kind function node k : ℕ) (ls : List ℕ) (before : ℕ) → k ≤ 16 → length ls ≡ 16 → ws' ≡ pushed ws b kind function node k ls before
      → get_or ws' i 0 ≡ get_or ws i 0
  unfolding pushed
  pushed_spares kind function node k ls before g l is =
      let x1 : List ℕ = set ws b kind in
      let x2 : List ℕ = set x1 (b + 1) function in
      let x3 : List ℕ = set x2 (b + 2) node in
      let x4 : List ℕ = set x3 (b + 3) k in
      let x5 : List ℕ = set x4 (b + 4) 0 in
      let x6 : List ℕ = set x5 (b + 5) before in
      let same : length x6 ≡ length ws = simp length-set in
      rw is (paste_other x6 (b + 8) ls k (omega arith) (omega arith) i (λ y z. apart (omega arith) (omega arith))
      ∙ get_or-set_other x5 (b + 5) i before 0 (other 5 (omega arith)) ∙ get_or-set_other x4 (b + 4) i 0 0 (other 4 (omega arith))
      ∙ get_or-set_other x3 (b + 3) i k 0 (other 3 (omega arith)) ∙ get_or-set_other x2 (b + 2) i node 0 (other 2 (omega arith))
      ∙ get_or-set_other x1 (b + 1) i function 0 (other 1 (omega arith)) ∙ get_or-set_other ws b i kind 0 (λ e. other 0 (omega arith) (omega arith)))

  pub turned_spares : (kind v g : ℕ) → ws' ≡ turned ws b kind v g → get_or ws' i 0 ≡ get_or ws i 0
  unfolding turned
  turned_spares kind v g is =
      let x1 : List ℕ = set ws b kind in
      let x2 : List ℕ = set x1 (b + 4) v in
      rw is (get_or-set_other x2 (b + 6) i g 0 (other 6 (omega arith)) ∙ get_or-set_other x1 (b + 4) i v 0 (other 4 (omega arith))
      ∙ get_or-set_other ws b i kind 0 (λ e. other 0 (omega arith) (omega arith)))

  pub collected_spares : (n v : ℕ) → n < 3 → ws' ≡ collected ws b n v → get_or ws' i 0 ≡ get_or ws i 0
  unfolding collected
  collected_spares n v l is =
      rw is (get_or-set_other (set ws (b + 24 + n) v) (b + 4) i (n + 1) 0 (other 4 (omega arith))
      ∙ get_or-set_other ws (b + 24 + n) i v 0 (λ e. other (24 + n) (omega arith) (omega arith)))

  pub marked_spares : (kind g : ℕ) → ws' ≡ marked ws b kind g → get_or ws' i 0 ≡ get_or ws i 0
  marked_spares kind g is =
      rw is (get_or-set_other (set ws b kind) (b + 5) i g 0 (other 5 (omega arith)) ∙ get_or-set_other ws b i kind 0 (λ e. other 0 (omega arith) (omega arith)))

pub frames_agree : (ws ws' : List ℕ) → length ws ≡ length ws' → (b : ℕ) → b + 32 ≤ length ws → ((i : ℕ) → b ≤ i → i < b + 27 → get_or ws i 0 ≡ get_or ws' i 0)
    → Agree ws ws' b
frames_agree ws ws' long b h word = record {
  is_kind = word b (omega arith) (omega arith);
  is_function = word (b + 1) (omega arith) (omega arith);
  is_node = word (b + 2) (omega arith) (omega arith);
  is_count = word (b + 3) (omega arith) (omega arith);
  is_value = word (b + 4) (omega arith) (omega arith);
  is_before = word (b + 5) (omega arith) (omega arith);
  is_left = word (b + 6) (omega arith) (omega arith);
  locals = λ k m. part_same ws ws' (b + 8) k long (omega arith) (λ i x y. word i (omega arith) (omega arith));
  arguments = λ n m. part_same ws ws' (b + 24) n long (omega arith) (λ i x y. word i (omega arith) (omega arith));
}

pub is_loaded : (ls ws ls' : List ℕ) (from k : ℕ) → k ≤ 16 → from + k ≤ length ws → length ls ≡ 16 → ls' ≡ loaded ls ws from k → Loaded ws from k ls'
is_loaded ls ws ls' from k f h l is =
    let g : k ≤ length (drop from ws) = simp length-drop (omega arith) in
    rw is (record {
      sixteen = length-paste ls 0 (drop from ws) k (omega arith) g ∙ l;
      are = pasted ls 0 (drop from ws) k zero-le g;
    })

pub is_appended : (ls ls' : List ℕ) (k v : ℕ) → k < 16 → length ls ≡ 16 → ls' ≡ appended ls k v → Appended ls k v ls'
is_appended ls ls' k v h l is = rw is (record { sixteen = length-set ls k v ∙ l; are = rw (add-one k) (take-suc-set ls k v (omega arith)) })
