-- Features of entries that fit a grid.
use Rattle.std.proofs.Common.{◌≡◌, ℕ, suc, ◌<◌, length, arith, cond, List, [], ◌∷◌, Bool, true, false, ◌||◌, Some, None, refl, sym, ap, ◌∙◌, subst, string_bytes}
use Rattle.std.specs.Prelude.{All}
use Rattle.std.specs.List.{AllByRecursion, list_any}
use Rattle.std.specs.Map.{lookup}
use Rattle.std.specs.BTreeMap.{is_at}
use Rattle.std.specs.String.{string_cmp}
use Rattle.std.specs.Cmp.{Equal-is, tied_itself}
use Rattle.std.specs.Ordering.{eq_by_cmp, is_eq, nat_cmp}
use Rattle.std.specs.Cmp.Lexicographic.{slice_cmp}
use Rattle.grid.specs.Place.{Transform}
use Rattle.shapes.specs.Sets as set
use Rattle.shapes.specs.SetLaws.{contains-empty}
use Rattle.shapes.specs.Order.{feature_cmp}
use Rattle.shapes.specs.OrderLaws.{feature_cmp_total, same_feature}
use Rattle.shapes.specs.Inside.{layers_of, look}
use Rattle.shapes.specs.Fitting.{ShapeFits, MapFits}
use Rattle.shapes.specs.declared.layer.FeatureLayer.{FeatureLayer}
use Rattle.shapes.specs.declared.feature.Feature.{Feature}
use Rattle.shapes.proofs.MapLemmas.{Entries, contains-set_of, features_at-layers, features_at-none}

abbrev pub FeatureFits : Transform → Feature → Type 0
FeatureFits g f = ShapeFits g f.shape

abbrev pub LayerFits : Transform → FeatureLayer → Type 0
LayerFits g l = AllByRecursion (FeatureFits g) l.features.keys

-- the features of all entries fit
abbrev pub EntriesFit : Transform → Entries → Type 0
EntriesFit g es = AllByRecursion (λ e. LayerFits g e.1) es

member_fits : (g : Transform) (ks : List Feature) → AllByRecursion (FeatureFits g) ks → (f : Feature) → list_any (eq_by_cmp feature_cmp f) ks ≡ true → FeatureFits g f
member_fits g [] h f e = cc
member_fits g (k ∷ ks) h f e =
    elim (is_eq (feature_cmp f k)) as (λ b. is_eq (feature_cmp f k) ≡ b → (b || list_any (eq_by_cmp feature_cmp f) ks) ≡ true → FeatureFits g f) [
      | true ↦ λ tied _. subst (FeatureFits g) (sym (same_feature f k ((Equal-is (feature_cmp f k)).0 tied))) h.0
      | false ↦ λ _ rest. member_fits g ks h.1 f rest
    ] refl e

or_later : (b : Bool) → (b || true) ≡ true
or_later true = refl
or_later false = refl

members_fit : (g : Transform) (ks : List Feature) → ((f : Feature) → list_any (eq_by_cmp feature_cmp f) ks ≡ true → FeatureFits g f) → AllByRecursion (FeatureFits g) ks
members_fit g [] h = tt
members_fit g (k ∷ ks) h = (
  h k (ap (λ o. is_eq o || list_any (eq_by_cmp feature_cmp k) ks) (tied_itself feature_cmp_total k)),
  members_fit g ks (λ f e. h f (ap (λ b. eq_by_cmp feature_cmp f k || b) e ∙ or_later (eq_by_cmp feature_cmp f k))),
)

entry_fits : (g : Transform) (es : Entries) → EntriesFit g es → (q : List ℕ) (l : FeatureLayer) → look q es ≡ Some l → LayerFits g l
entry_fits g [] h q l e = cc
entry_fits g (x ∷ es) h q l e =
    elim (is_eq (slice_cmp nat_cmp q (string_bytes x.0))) as (λ b. cond b (Some x.1) (look q es) ≡ Some l → LayerFits g l) [
      | true ↦ λ found. let same : x.1 ≡ l = cc in subst (LayerFits g) same h.0
      | false ↦ λ found. entry_fits g es h.1 q l found
    ] e

pub fits_all : (g : Transform) (es : Entries) → EntriesFit g es → MapFits g (layers_of es)
fits_all g es h q f e =
    elim (look q es) as (λ o. look q es ≡ o → FeatureFits g f) [
      | None ↦ λ none. absurd (nothing (sym (ap (λ s. set.contains s f) (features_at-none es q none) ∙ contains-empty feature_cmp f) ∙ e))
      | Some l ↦ λ found. member_fits g l.features.keys (entry_fits g es h q l found) f (sym (contains-set_of l.features f) ∙ sym (ap (λ s. set.contains s f) (features_at-layers es q l found)) ∙ e)
    ] refl
  where
    nothing : false ≡ true → ⊥
    nothing e = cc

zero-lt-suc : (n : ℕ) → 0 < suc n
zero-lt-suc n = omega arith

suc-lt-suc : {k n : ℕ} → k < n → suc k < suc n
suc-lt-suc h = omega arith

pub fits_each : (g : Transform) (m : Entries) → MapFits g (layers_of m) → (es : Entries) → All (λ e. lookup (is_at (string_cmp e.0)) m ≡ Some e.1) es → EntriesFit g es
fits_each g m h [] found = tt
fits_each g m h (x ∷ es) found =
    let here = features_at-layers m (string_bytes x.0) x.1 (found 0 x (zero-lt-suc (length es))) in
    (members_fit g x.1.features.keys (λ f e. h (string_bytes x.0) f (ap (λ s. set.contains s f) here ∙ contains-set_of x.1.features f ∙ e)), fits_each g m h es (λ k d lt. found (suc k) d (suc-lt-suc lt)))
