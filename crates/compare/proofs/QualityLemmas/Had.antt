-- Uses by a feature, found at a place.
use Rattle.std.proofs.Common.{◌≡◌, ◌<◌, ℕ, zero, suc, Bool, true, false, cond, List, [], ◌∷◌, length, get_or, refl, sym, ap, ◌∙◌, arith, eq-eqb}
use Rattle.std.specs.Prelude.{◌==◌}
use Rattle.compare.specs.Quality.Near.{has_feature}
use Rattle.compare.specs.declared.quality.vertex.VertexUse.{VertexUse}

pub found_has : (f n : ℕ) (us : List VertexUse) (u : VertexUse) → n < length us → u ≡ get_or us n u → u.feature ≡ f → has_feature f us ≡ true
found_has f n [] u h e s = absurd (omega arith)
found_has f zero (v ∷ us) u h e s =
    let same : v.feature ≡ f = ap (λ (w : VertexUse). w.feature) (sym e) ∙ s in
    ap (λ b. cond b true (has_feature f us)) (eq-eqb v.feature f same)
found_has f (suc n) (v ∷ us) u h e s = go (v.feature == f) (found_has f n us u (omega (arith, h)) e s)
  where
    go : (b : Bool) → has_feature f us ≡ true → cond b true (has_feature f us) ≡ true
    go true k = refl
    go false k = k
