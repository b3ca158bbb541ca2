-- The value of a collection reads back.
use Rattle.std.proofs.Common.{ℕ, List, IsUtf8, refl, arith}
use Rattle.std.specs.List.{AllByRecursion}
use Rattle.std.specs.Prelude.{codes}
use Rattle.json.proofs.Printed.Utf8.{IsUtf8-are_ascii}
use Rattle.serde_json.specs.Data.{Data}
use Rattle.grid.specs.Place.{Transform, IsTransform}
use Rattle.grid.specs.Fits.{Fits}
use Rattle.lines.specs.Seen.{positions_of, vertices_of}
use Rattle.lines.specs.declared.ring.Ring as the_ring
use Rattle.shapes.specs.Fitting.{ShapeFits}
use Rattle.shapes.specs.Shapes.{Shape}
use Rattle.shapes.specs.declared.form.Form.TheVariants as shape
use Rattle.shapes.specs.declared.feature.Feature.{Feature}
use Rattle.reading.proofs.Fits.{all_has}
use Rattle.round_trip.specs.Compact.Good.{Good}
use Rattle.round_trip.specs.Compact.Values.{list_data, id_data}
use Rattle.round_trip.proofs.CompactLemmas.GoodParts.{deeper, Good-string, Good-null, GoodMembers, Good-object}
use Rattle.round_trip.proofs.CompactLemmas.Info.{Good-id, Good-value}
use Rattle.round_trip.proofs.CompactLemmas.Lists.{Good-list}
use Rattle.round_trip.proofs.CompactLemmas.Members.{ComesBefore-given, GoodMembers-given}
use Rattle.round_trip.specs.Geojson.Laws.{FeatureFits}
use Rattle.round_trip.specs.Geojson.Values.{line_data, ring_data, geometry_data, shape_data, after_id, after_geometry, feature_data, collection_data}
use Rattle.round_trip.proofs.GeojsonLemmas.Places.{Good-place, Good-places, Good-ring}

module _ (t : Transform) (limits : IsTransform t) where
  Good-rings : (rs : List the_ring.Ring) → AllByRecursion (λ r. AllByRecursion (Fits t) (vertices_of r)) rs → Good 3 (list_data (ring_data t) rs)
  Good-rings rs h = Good-list (ring_data t) 2 rs (λ r k. Good-ring t limits r (all_has (λ r. AllByRecursion (Fits t) (vertices_of r)) rs r h k))

  Good-geometry : (d : Data) (name : List ℕ) → Good 4 d → IsUtf8 name → Good 5 (geometry_data d name)
  Good-geometry d name h text = Good-object 4 _ (IsUtf8-are_ascii _ refl, (refl, tt), h, (IsUtf8-are_ascii _ refl, tt, Good-string 4 name text, tt))

  Good-shape : (s : Shape) → ShapeFits t s → Good 5 (shape_data t s)
  Good-shape shape.Null h = Good-null 5
  Good-shape (shape.Point p) h = Good-geometry _ _ (deeper 1 4 _ (omega arith) (Good-place t limits p h)) (IsUtf8-are_ascii _ refl)
  Good-shape (shape.MultiPoint ps) h = Good-geometry _ _ (deeper 2 4 _ (omega arith) (Good-places t limits ps h)) (IsUtf8-are_ascii _ refl)
  Good-shape (shape.Line l) h = Good-geometry _ _ (deeper 2 4 _ (omega arith) (Good-places t limits (positions_of l) h)) (IsUtf8-are_ascii _ refl)
  Good-shape (shape.MultiLine ls) h =
      Good-geometry _ _
      (deeper 3 4 _ (omega arith) (Good-list (line_data t) 2 ls (λ l k. Good-places t limits (positions_of l) (all_has (λ l. AllByRecursion (Fits t) (positions_of l)) ls l h k))))
      (IsUtf8-are_ascii _ refl)
  Good-shape (shape.Polygon rs) h = Good-geometry _ _ (deeper 3 4 _ (omega arith) (Good-rings rs h)) (IsUtf8-are_ascii _ refl)
  Good-shape (shape.MultiPolygon ps) h =
      Good-geometry _ _
      (Good-list (list_data (ring_data t)) 3 ps (λ rs k. Good-rings rs (all_has (AllByRecursion (λ r. AllByRecursion (Fits t) (vertices_of r))) ps rs h k)))
      (IsUtf8-are_ascii _ refl)

  Good-feature : (f : Feature) → FeatureFits t f → Good 65 (feature_data t f)
  Good-feature f h =
      let last : GoodMembers 64 (after_id f) =
      (IsUtf8-are_ascii _ refl, (refl, tt), Good-value f.props, (IsUtf8-are_ascii _ refl, tt, Good-string 64 _ (IsUtf8-are_ascii _ refl), tt)) in
      let more : GoodMembers 64 (after_geometry f) =
      GoodMembers-given 64 (codes "id") (id_data f.id) (after_id f) (IsUtf8-are_ascii _ refl) (refl, (refl, tt)) (Good-id 64 f.id f.bits) last in
      Good-object 64 _ (
        IsUtf8-are_ascii _ refl,
        ComesBefore-given (codes "geometry") (codes "id") (id_data f.id) (after_id f) refl (refl, (refl, tt)),
        deeper 5 64 _ (omega arith) (Good-shape f.shape h),
        more,
      )

  pub Good-collection : (fs : List Feature) → AllByRecursion (FeatureFits t) fs → Good 67 (collection_data t fs)
  Good-collection fs h =
      Good-object 66 _ (
        IsUtf8-are_ascii _ refl,
        (refl, tt),
        Good-list (feature_data t) 65 fs (λ f k. Good-feature f (all_has (FeatureFits t) fs f h k)),
        (IsUtf8-are_ascii _ refl, tt, Good-string 66 _ (IsUtf8-are_ascii _ refl), tt),
      )
