-- Features that are written have no fault, and mean the features.
use Rattle.std.proofs.Common.{◌≡◌, List, [], ◌++◌, Some, refl, ap, ap₂, ◌∙◌}
use Rattle.std.specs.Prelude.{codes, unwrap_or}
use Rattle.serde_json.specs.Data.{null, string}
use Rattle.serde_json.specs.Find.{get}
use Rattle.faults.specs.Path.{name}
use Rattle.faults.specs.Fault.{Pair}
use Rattle.grid.specs.Place.{Transform, IsTransform}
use Rattle.shapes.specs.Parts.{properties_text}
use Rattle.shapes.specs.Properties.{properties_value}
use Rattle.shapes.specs.declared.feature.Feature.{Feature}
use Rattle.reading.specs.Fault.{under}
use Rattle.reading.specs.Info.{info_faults, id_faults, properties_faults, id_of, properties_of}
use Rattle.reading.specs.Parts.{if_there, typed_faults, named, type_or_fault}
use Rattle.reading.specs.Plain.{plain}
use Rattle.geojson_io.specs.Features.{feature_members, feature_of, feature_named, element_of_features_faults}
use Rattle.round_trip.specs.Compact.Values.{id_data}
use Rattle.round_trip.proofs.CompactLemmas.Info.{id_faultless, id_means, properties_value_faultless, properties_value_means}
use Rattle.round_trip.proofs.CompactLemmas.Members.{get_past, get_here}
use Rattle.round_trip.specs.Geojson.Laws.{FeatureFits}
use Rattle.round_trip.specs.Geojson.Values.{after_id, feature_data}
use Rattle.round_trip.proofs.GeojsonLemmas.Shapes.{shape_faultless, shape_means}

module _ (t : Transform) (f : Feature) where
  get_id : get (codes "id") (feature_data t f) ≡ id_data f.id
  get_id = get_here (codes "id") (id_data f.id) (after_id f) refl refl

  get_properties : get (codes "properties") (feature_data t f) ≡ Some (properties_value (properties_text f.props))
  get_properties = get_past (codes "properties") (codes "id") (id_data f.id) (after_id f) refl

  get_type : get (codes "type") (feature_data t f) ≡ Some (string (codes "Feature"))
  get_type = get_past (codes "type") (codes "id") (id_data f.id) (after_id f) refl

module _ (t : Transform) (limits : IsTransform t) (f : Feature) (h : FeatureFits t f) where
  info_faultless : info_faults (feature_data t f) ≡ []
  info_faultless =
      ap₂ (λ (a b : List Pair). under (name (codes "id")) a ++ under (name (codes "properties")) b)
      (ap (if_there id_faults) (get_id t f) ∙ id_faultless f.id f.bits)
      (ap (if_there properties_faults) (get_properties t f) ∙ properties_value_faultless f.props)

  members_faultless : feature_members t (feature_data t f) ≡ []
  members_faultless = ap₂ (λ (a b : List Pair). under (name (codes "geometry")) a ++ b) (shape_faultless t limits f.shape h) info_faultless

  pub feature_faultless : element_of_features_faults t (feature_data t f) ≡ []
  feature_faultless =
      ap (λ o. typed_faults (λ _. feature_members t (feature_data t f)) (named feature_named (type_or_fault o))) (get_type t f) ∙ members_faultless

  pub feature_means : feature_of t (feature_data t f) ≡ plain f
  feature_means =
      let e = ap (λ o. id_of (unwrap_or o null)) (get_id t f) ∙ id_means f.id f.bits in
      let p = ap (λ o. properties_of (unwrap_or o null)) (get_properties t f) ∙ properties_value_means f.props in
      let g = shape_means t limits f.shape h in
      λ i. record { id = e i; properties = p i; form = g i }
