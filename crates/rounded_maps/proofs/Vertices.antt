-- Vertices of shapes, noted one after the other.
use Rattle.std.proofs.Common.{◌≡◌, ℕ, ◌+◌, List, [], ◌∷◌, ◌++◌, length, arith, ap, append_assoc, sym, ◌∙◌, add-zero}
use Rattle.std.proofs.lemmas.List.{length-append}
use Rattle.compare.specs.declared.quality.vertex.VertexUse.{VertexUse}
use Rattle.shapes.specs.Shapes.{Shape}
use Rattle.snapping.specs.NearlyShared.Uses.{shape_uses, shapes_uses}
use Rattle.theory.specs.Lists.{gathered}

uses_both : (n : ℕ) (a b : List Shape) → shapes_uses n (a ++ b) ≡ shapes_uses n a ++ shapes_uses (n + length a) b
uses_both n [] b = ap (λ m. shapes_uses m b) (sym (add-zero n))
uses_both n (s ∷ a) b =
    let same : (n + 1) + length a ≡ n + length (s ∷ a) = omega arith in
    ap (λ l. shape_uses n s ++ l) (uses_both (n + 1) a b ∙ ap (λ m. shapes_uses (n + 1) a ++ shapes_uses m b) same)
    ∙ sym (append_assoc (shape_uses n s) (shapes_uses (n + 1) a) (shapes_uses (n + length (s ∷ a)) b))

-- the shapes of one more, of those that are left
pub uses_step : {X : Type 0} (f : X → List Shape) (u v w : List VertexUse) (m n : ℕ) (x : X) (left after : List X) → left ≡ x ∷ after
    → v ≡ u ++ shapes_uses m (f x) → n ≡ m + length (f x) → u ++ shapes_uses m (gathered f left) ≡ w → v ++ shapes_uses n (gathered f after) ≡ w
uses_step f u v w m n x left after split noted counted inv =
    ap (λ l. l ++ shapes_uses n (gathered f after)) noted
    ∙ ap (λ k. (u ++ shapes_uses m (f x)) ++ shapes_uses k (gathered f after)) counted
    ∙ append_assoc u (shapes_uses m (f x)) (shapes_uses (m + length (f x)) (gathered f after))
    ∙ ap (λ l. u ++ l) (sym (uses_both m (f x) (gathered f after)))
    ∙ ap (λ l. u ++ shapes_uses m (gathered f l)) (sym split)
    ∙ inv

pub counts_step : {X : Type 0} (f : X → List Shape) (k m n : ℕ) (x : X) (left after : List X) → left ≡ x ∷ after
    → n ≡ m + length (f x) → m + length (gathered f left) ≡ k → n + length (gathered f after) ≡ k
counts_step f k m n x left after split counted inv =
    let whole : m + length (f x ++ gathered f after) ≡ k = ap (λ l. m + length (gathered f l)) (sym split) ∙ inv in
    let sum = length-append (f x) (gathered f after) in
    omega (arith, whole, sum, counted)
