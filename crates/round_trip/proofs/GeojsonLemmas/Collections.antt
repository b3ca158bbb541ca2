-- What is written of features is accepted, and means the features.
use Rattle.std.proofs.Common.{◌≡◌, ℕ, List, [], ◌∷◌, Bool, true, false, ◌||◌, Some, map, inl, inr, refl, sym, subst, ap, ◌∙◌, arith}
use Rattle.std.specs.List.{AllByRecursion, list_any}
use Rattle.std.specs.Ordering.{eq_by_cmp}
use Rattle.std.specs.Prelude.{codes}
use Rattle.faults.specs.Path.{name}
use Rattle.grid.specs.Place.{Transform, IsTransform}
use Rattle.shapes.specs.Fitting.{MapFits}
use Rattle.shapes.specs.Maps.{Layers, features_at}
use Rattle.shapes.specs.Order.{feature_cmp}
use Rattle.shapes.specs.OrderLaws.{feature_tied}
use Rattle.shapes.specs.Sets as set
use Rattle.shapes.specs.SetLaws.{contains-items}
use Rattle.shapes.specs.declared.feature.Feature.{Feature}
use Rattle.theory.specs.Lists.{Has}
use Rattle.reading.specs.Fault.{under}
use Rattle.reading.specs.Plain.{plain}
use Rattle.reading.specs.Text.{document, text_faults}
use Rattle.reading.proofs.Fits.{all_has}
use Rattle.geojson_io.specs.CollectionText.{collection_text}
use Rattle.geojson_io.specs.Features.{element_of_features_faults, feature_of, geojson_faults, features_of, features_or_none}
use Rattle.round_trip.proofs.CompactLemmas.Documents.{document_is_read}
use Rattle.round_trip.proofs.CompactLemmas.Lists.{list_faultless, elements_mean}
use Rattle.round_trip.specs.Geojson.Laws as law
use Rattle.round_trip.specs.Geojson.Laws.{FeatureFits}
use Rattle.round_trip.specs.Geojson.Values.{feature_data, collection_data}
use Rattle.round_trip.proofs.GeojsonLemmas.Features.{feature_faultless, feature_means}
use Rattle.round_trip.proofs.GeojsonLemmas.Readable.{Good-collection}
use Rattle.round_trip.proofs.GeojsonLemmas.TextIs.{collection_is}

module _ (t : Transform) (limits : IsTransform t) (fs : List Feature) (h : AllByRecursion (FeatureFits t) fs) where
  collection_faultless : geojson_faults t (collection_data t fs) ≡ []
  collection_faultless =
      ap (under (name (codes "features")))
      (list_faultless (feature_data t) (element_of_features_faults t) fs (λ f k. feature_faultless t limits f (all_has (FeatureFits t) fs f h k)))

  collection_means : features_of t (collection_data t fs) ≡ map plain fs
  collection_means = elements_mean (feature_data t) (feature_of t) plain fs (λ f k. feature_means t limits f (all_has (FeatureFits t) fs f h k))

  document_is : document (collection_text t fs) ≡ Some (collection_data t fs)
  document_is = document_is_read (collection_text t fs) 67 (collection_data t fs) (collection_is t fs) (omega arith) (Good-collection t limits fs h)

pub written_collections_are_read : law.WrittenCollectionsAreRead
written_collections_are_read t fs limits h = record {
  accepted = ap (text_faults (geojson_faults t)) (document_is t limits fs h) ∙ collection_faultless t limits fs h;
  means = ap (features_or_none t) (document_is t limits fs h) ∙ collection_means t limits fs h;
}

-- ---- layers

right_true : (a b : Bool) → b ≡ true → (a || b) ≡ true
right_true true b e = refl
right_true false b e = e

has_any : (f : Feature) (fs : List Feature) → Has f fs → list_any (eq_by_cmp feature_cmp f) fs ≡ true
has_any f [] h = absurd h
has_any f (g ∷ fs) (inl e) =
    subst (λ x. list_any (eq_by_cmp feature_cmp x) (g ∷ fs) ≡ true) (sym e) (ap (λ b. b || list_any (eq_by_cmp feature_cmp g) fs) ((feature_tied g g).1 refl))
has_any f (g ∷ fs) (inr h) = right_true (eq_by_cmp feature_cmp f g) (list_any (eq_by_cmp feature_cmp f) fs) (has_any f fs h)

each_fits : (t : Transform) (m : Layers) (name : List ℕ) (fs : List Feature) → MapFits t m → ((f : Feature) → Has f fs → set.contains (features_at m name) f ≡ true) → AllByRecursion (FeatureFits t) fs
each_fits t m n [] fits within = tt
each_fits t m n (f ∷ fs) fits within = (fits n f (within f (inl refl)), each_fits t m n fs fits (λ g h. within g (inr h)))

pub written_layers_are_read : law.WrittenLayersAreRead
written_layers_are_read t m n limits fits =
    let s = features_at m n in
    written_collections_are_read t (set.items s) limits (each_fits t m n (set.items s) fits (λ f h. contains-items s f ∙ has_any f (set.items s) h))
