-- The words determine the graph: they are decoded from the front, and what is decoded from a graph's words is that graph.
use Prim.Native.Nat.{ℕ, zero, suc, ◌+◌, ◌≤◌}
use mathlib.Core.Path.{◌≡◌, refl, ap, sym, ◌∙◌}
use mathlib.Core.List.{List, [], ◌∷◌, ◌++◌, append_assoc, append-nil}
use native.Mathlib.Omega.{arith}
use native.Mathlib.Numerals.{add-one}
use lib.ListN.{length, take, drop, length-append, length-take, length-drop}
use lib.Seq.{take-append_seam, drop-append_seam}
use Rattle.schedule.specs.Graph.{Graph, empty, transition, fork}
use Rattle.graph.specs.Words.{stretch, fork_words, pending, parts, written, OneGraph}

-- k transitions after a graph.
stretched : ℕ → Graph → Graph
stretched zero g = g
stretched (suc k) g = transition (stretched k g)

-- What words add to a graph. The first number bounds the parts that are still to come: their words are enough. Words that no graph has may give any graph.
decoded_within : ℕ → Graph → List ℕ → Graph
decoded_within zero g ws = g
decoded_within (suc f) g [] = g
decoded_within (suc f) g (x ∷ []) = g
decoded_within (suc f) g (zero ∷ k ∷ ws) = decoded_within f (stretched k g) ws
decoded_within (suc f) g (suc x ∷ a ∷ []) = g
decoded_within (suc f) g (suc x ∷ a ∷ b ∷ ws) =
    decoded_within f (fork g (decoded_within f empty (take a ws)) (decoded_within f empty (take b (drop a ws)))) (drop b (drop a ws))

abbrev decoded : Graph → List ℕ → Graph
decoded g ws = decoded_within (length ws) g ws

-- A bound that is large enough does not matter.
enough : (f : ℕ) (g : Graph) (ws : List ℕ) (e : ℕ) → length ws ≤ f → length ws ≤ e → decoded_within f g ws ≡ decoded_within e g ws
unfolding decoded_within
enough zero g [] zero h k = refl
enough zero g [] (suc e) h k = refl
enough zero g (x ∷ ws) e h k = absurd (omega arith)
enough (suc f) g [] zero h k = refl
enough (suc f) g (x ∷ ws) zero h k = absurd (omega arith)
enough (suc f) g [] (suc e) h k = refl
enough (suc f) g (x ∷ []) (suc e) h k = refl
enough (suc f) g (zero ∷ j ∷ ws) (suc e) h k = enough f (stretched j g) ws e (omega arith) (omega arith)
enough (suc f) g (suc x ∷ a ∷ []) (suc e) h k = refl
enough (suc f) g (suc x ∷ a ∷ b ∷ ws) (suc e) h k =
    let t = length-take a ws in
    let u = length-drop a ws in
    let v = length-take b (drop a ws) in
    let w = length-drop b (drop a ws) in
    rw (
      enough f empty (take a ws) e (omega arith) (omega arith),
      enough f empty (take b (drop a ws)) e (omega arith) (omega arith),
    ) (enough f _ (drop b (drop a ws)) e (omega arith) (omega arith))

-- By what stands first.
by_stretch : (g : Graph) (k : ℕ) (ws : List ℕ) → decoded g (stretch k ++ ws) ≡ decoded (stretched k g) ws
unfolding stretch stretched decoded_within
by_stretch g zero ws = refl
by_stretch g (suc k) ws = enough (suc (length ws)) (stretched (suc k) g) ws (length ws) (omega arith) (omega arith)

by_fork : (g : Graph) (l r ws : List ℕ) → decoded g (fork_words l r ++ ws) ≡ decoded (fork g (decoded empty l) (decoded empty r)) ws
unfolding fork_words decoded_within
by_fork g l r ws =
    let n : length ((l ++ r) ++ ws) ≡ length l + length r + length ws = simp length-append in
    let f : ℕ = suc (suc (length ((l ++ r) ++ ws))) in
    let tl : take (length l) (l ++ (r ++ ws)) ≡ l = take-append_seam l (r ++ ws) in
    let dl : drop (length l) (l ++ (r ++ ws)) ≡ r ++ ws = drop-append_seam l (r ++ ws) in
    let tr : take (length r) (r ++ ws) ≡ r = take-append_seam r ws in
    let dr : drop (length r) (r ++ ws) ≡ ws = drop-append_seam r ws in
    ap (λ (x : List ℕ). decoded_within (suc f) g (1 ∷ length l ∷ length r ∷ x)) (append_assoc l r ws)
    ∙ ap (λ (x : List ℕ). decoded_within f (fork g (decoded_within f empty x) (decoded_within f empty (take (length r) (drop (length l) (l ++ (r ++ ws))))))
    (drop (length r) (drop (length l) (l ++ (r ++ ws))))) tl
    ∙ ap (λ (x : List ℕ). decoded_within f (fork g (decoded_within f empty l) (decoded_within f empty (take (length r) x))) (drop (length r) x)) dl
    ∙ ap (λ (x : List ℕ). decoded_within f (fork g (decoded_within f empty l) (decoded_within f empty x)) (drop (length r) (r ++ ws))) tr
    ∙ ap (λ (x : List ℕ). decoded_within f (fork g (decoded_within f empty l) (decoded_within f empty r)) x) dr
    ∙ ap (λ (x : Graph). decoded_within f (fork g x (decoded_within f empty r)) ws) (enough f empty l (length l) (omega arith) (omega arith))
    ∙ ap (λ (x : Graph). decoded_within f (fork g (decoded empty l) x) ws) (enough f empty r (length r) (omega arith) (omega arith))
    ∙ enough f (fork g (decoded empty l) (decoded empty r)) ws (length ws) (omega arith) (omega arith)

-- A graph without the stretch at its end, and with it again.
settled : Graph → Graph
settled empty = empty
settled (transition g) = settled g
settled (fork g l r) = fork g l r

again : (g : Graph) → stretched (pending g) (settled g) ≡ g
unfolding pending stretched settled
again empty = refl
again (transition g) = ap (λ (n : ℕ). stretched n (settled g)) (add-one (pending g)) ∙ ap transition (again g)
again (fork g l r) = refl

-- What its parts and its last stretch give.
to_end : (g : Graph) (ws : List ℕ) → decoded (settled g) (stretch (pending g) ++ ws) ≡ decoded g ws
to_end g ws = by_stretch (settled g) (pending g) ws ∙ ap (λ (x : Graph). decoded x ws) (again g)

whole : (g : Graph) → decoded empty (parts g ++ stretch (pending g)) ≡ decoded (settled g) (stretch (pending g)) → decoded empty (written g) ≡ g
unfolding decoded_within
whole g h = h ∙ ap (decoded (settled g)) (sym (append-nil (stretch (pending g)))) ∙ to_end g []

by_parts : (g : Graph) (ws : List ℕ) → decoded empty (parts g ++ ws) ≡ decoded (settled g) ws
unfolding parts settled
by_parts empty ws = refl
by_parts (transition g) ws = by_parts g ws
by_parts (fork g l r) ws =
    let F : List ℕ = fork_words (written l) (written r) in
    let e : ((parts g ++ stretch (pending g)) ++ F) ++ ws ≡ parts g ++ (stretch (pending g) ++ (F ++ ws)) = simp append_assoc in
    let left : decoded empty (written l) ≡ l = whole l (by_parts l (stretch (pending l))) in
    let right : decoded empty (written r) ≡ r = whole r (by_parts r (stretch (pending r))) in
    ap (decoded empty) e
    ∙ by_parts g (stretch (pending g) ++ (F ++ ws))
    ∙ to_end g (F ++ ws)
    ∙ by_fork g (written l) (written r) ws
    ∙ ap (λ (x : Graph). decoded (fork g x (decoded empty (written r))) ws) left
    ∙ ap (λ (x : Graph). decoded (fork g l x) ws) right

decodes : (g : Graph) → decoded empty (written g) ≡ g
decodes g = whole g (by_parts g (stretch (pending g)))

pub one_graph : OneGraph
one_graph g h e = sym (decodes g) ∙ ap (decoded empty) e ∙ decodes h
