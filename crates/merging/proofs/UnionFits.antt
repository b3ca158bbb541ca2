-- What texts mean fits their grid, and so does each union of it.
use Rattle.std.proofs.Common.{◌≡◌, ℕ, zero, suc, List, [], ◌∷◌, Bool, true, false, ◌||◌, Option, Some, None, refl, sym, ◌∙◌, ap}
use Rattle.std.specs.Prelude.{slice_get, unwrap_or}
use Rattle.std.specs.FinMap as map
use Rattle.std.specs.Ordering.{nat_cmp}
use Rattle.std.specs.Cmp.Lexicographic.{slice_cmp, nat_list_cmp_total}
use Rattle.grid.specs.Place.{Transform}
use Rattle.shapes.specs.Fitting.{MapFits, ShapeFits}
use Rattle.shapes.specs.Maps.{Features, Layers}
use Rattle.shapes.specs.Order.{feature_cmp}
use Rattle.shapes.specs.OrderLaws.{feature_cmp_total, same_text}
use Rattle.shapes.specs.Sets as set
use Rattle.shapes.specs.SetLaws.{contains-union, contains-empty}
use Rattle.shapes.specs.Union.{both, union, get-union}
use Rattle.shapes.specs.declared.feature.Feature.{Feature}
use Rattle.topo_io.proofs.Fitting.{means_fits}
use Rattle.merging.specs.Plans.{union_at}
use Rattle.merging.specs.Merge.{AreMeant}

abbrev has : Option Features → Feature → Bool
has o f = set.contains (unwrap_or o set.empty) f

either : {X : Type 0} (p q : Bool) → (p || q) ≡ true → (p ≡ true → X) → (q ≡ true → X) → X
either true q e f g = f refl
either false q e f g = g e

union_fits : (g : Transform) (a b : Layers) → MapFits g a → MapFits g b → MapFits g (union a b)
union_fits g a b fits_a fits_b name f h =
    from (map.get a name) (map.get b name) refl refl (ap (λ o. has o f) (sym (get-union nat_list_cmp_total same_text a b name)) ∙ h)
  where
    from : (s t : Option Features) → map.get a name ≡ s → map.get b name ≡ t → set.contains (unwrap_or (both s t) set.empty) f ≡ true → ShapeFits g f.shape
    from None t e k h = fits_b name f (ap (λ o. has o f) k ∙ h)
    from (Some s) None e k h = fits_a name f (ap (λ o. has o f) e ∙ h)
    from (Some s) (Some t) e k h =
        either (set.contains s f) (set.contains t f) (sym (contains-union feature_cmp_total s t f) ∙ h)
        (λ there. fits_a name f (ap (λ o. has o f) e ∙ there))
        (λ there. fits_b name f (ap (λ o. has o f) k ∙ there))

none_fit : (g : Transform) → MapFits g map.empty
none_fit g name f h =
    let e : false ≡ true = sym (ap (λ o. has o f) (map.get-empty (slice_cmp nat_cmp) name) ∙ contains-empty feature_cmp f) ∙ h in absurd cc

at_fits : (g : Transform) (texts : List (List ℕ)) (maps : List Layers) → AreMeant texts g maps → (i : ℕ) → MapFits g (unwrap_or (slice_get maps i) map.empty)
at_fits g [] [] h i = none_fit g
at_fits g [] (m ∷ ms) h i = absurd h
at_fits g (t ∷ ts) [] h i = absurd h
at_fits g (t ∷ ts) (m ∷ ms) h zero = means_fits t g m h.0
at_fits g (t ∷ ts) (m ∷ ms) h (suc i) = at_fits g ts ms h.1 i

pub union_at_fits : (g : Transform) (texts : List (List ℕ)) (maps : List Layers) → AreMeant texts g maps → (is : List ℕ) → MapFits g (union_at maps is)
union_at_fits g texts maps meant [] = none_fit g
union_at_fits g texts maps meant (i ∷ is) =
    union_fits g (unwrap_or (slice_get maps i) map.empty) (union_at maps is) (at_fits g texts maps meant i) (union_at_fits g texts maps meant is)
