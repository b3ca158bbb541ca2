-- Looking for a layer of a name.
use Rattle.std.proofs.Common.{◌≡◌, ℕ, zero, suc, ◌+◌, ◌<◌, ◌≤◌, ◌↔◌, Bool, true, false, IsTrue, List, [], ◌∷◌, length, drop, get_or, inl, inr, refl, sym, ap, ◌∙◌, subst, arith}
use Rattle.std.proofs.lemmas.List.{drop_more}
use Rattle.shapes.specs.Parts.{spelled_text}
use Rattle.theory.specs.Lists.{Has}
use Rattle.topo.specs.Parts.{LayerParts, IsOfLayerNamed}
use Rattle.topo.specs.declared.geom.Geom.{Geom}

not_named : (b : Bool) (P : Type 0) → (IsTrue b ↔ P) → b ≡ false → ¬ P
not_named true P h e p = cc
not_named false P h e p = let k : false ≡ true = h.1 p in cc

is_named : (b : Bool) (P : Type 0) → (IsTrue b ↔ P) → b ≡ true → P
is_named true P h e = h.0 refl
is_named false P h e = cc

has_at : (xs : List LayerParts) (i : ℕ) (d : LayerParts) → i < length xs → Has (get_or xs i d) xs
has_at [] i d k = absurd (omega arith)
has_at (x ∷ xs) zero d k = inl refl
has_at (x ∷ xs) (suc i) d k = inr (has_at xs i d (omega arith))

pub named_here : (xs : List LayerParts) (name : List ℕ) (i : ℕ) (x : LayerParts) (b : Bool) (gs : List Geom) → i < length xs → x ≡ get_or xs i x →
    (IsTrue b ↔ (spelled_text x.name ≡ name)) → b ≡ true → gs ≡ x.geometries → IsOfLayerNamed xs name gs
named_here xs name i x b gs k is h t e = (x, subst (λ w. Has w xs) (sym is) (has_at xs i x k), is_named b (spelled_text x.name ≡ name) h t, e)

pub named_later : (xs : List LayerParts) (name : List ℕ) (i : ℕ) (x : LayerParts) (b : Bool) (k : LayerParts) → i < length xs → x ≡ get_or xs i x →
    (IsTrue b ↔ (spelled_text x.name ≡ name)) → b ≡ false → spelled_text k.name ≡ name → Has k (drop i xs) → Has k (drop (i + 1) xs)
named_later xs name i x b k lt is h f e there =
    elim (subst (λ w. Has k w) (drop_more xs i x lt) there) [
      | inl q ↦ absurd (not_named b (spelled_text x.name ≡ name) h f (ap (λ w. spelled_text w.name) (is ∙ sym q) ∙ e))
      | inr q ↦ q
    ]

none_left : (xs : List LayerParts) (i : ℕ) → length xs ≤ i → drop i xs ≡ []
none_left [] zero k = refl
none_left [] (suc i) k = refl
none_left (x ∷ xs) zero k = absurd (omega arith)
none_left (x ∷ xs) (suc i) k = none_left xs i (omega arith)

pub named_nowhere : (xs : List LayerParts) (i : ℕ) (k : LayerParts) → length xs ≤ i → Has k (drop i xs) → ⊥
named_nowhere xs i k n h = subst (λ w. Has k w) (none_left xs i n) h
