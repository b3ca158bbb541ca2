-- What is written is the compact text of its value.
use Rattle.std.proofs.Common.{◌≡◌, ℕ, false, List, ◌∷◌, ◌++◌, refl, sym, ap, ap₂, ◌∙◌}
use Rattle.std.specs.Prelude.{codes}
use Rattle.json.specs.Print.{escape_byte}
use Rattle.serde_json.specs.Data.{Data, member}
use Rattle.serde_json.specs.Written.{compact_text, members_text}
use Rattle.grid.specs.Place.{Transform}
use Rattle.grid.specs.Fits.{absolute_place}
use Rattle.grid.specs.declared.pos.Pos.{Pos}
use Rattle.lines.specs.Seen.{positions_of, vertices_of}
use Rattle.lines.specs.declared.line.Line as the_line
use Rattle.lines.specs.declared.ring.Ring as the_ring
use Rattle.shapes.specs.Parts.{properties_text}
use Rattle.shapes.specs.Shapes.{Shape}
use Rattle.shapes.specs.declared.form.Form.TheVariants as shape
use Rattle.shapes.specs.declared.feature.Feature.{Feature}
use Rattle.sinks.specs.Texts.{list_text}
use Rattle.theory.specs.LinesAndRings.{closed}
use Rattle.shapes.specs.Writing.Members.{id_text}
use Rattle.geojson_io.specs.CollectionText.{place_text, line_text, ring_text, geometry_text, shape_text, feature_text, collection_text}
use Rattle.round_trip.specs.Compact.Values.{list_data, id_data}
use Rattle.round_trip.proofs.CompactLemmas.Texts.{list_is, joined_is, pair_is, HasMember-given, given_is, member_then, id_is, properties_value_is}
use Rattle.round_trip.specs.Geojson.Values.{place_data, line_data, ring_data, shape_data, after_id, after_geometry, feature_data, collection_data}

module _ (t : Transform) where
  place_is : (p : Pos) → place_text t p ≡ compact_text (place_data t p)
  place_is p = pair_is (absolute_place t p).0 (absolute_place t p).1

  places_are : (ps : List Pos) → list_text (place_text t) ps ≡ compact_text (list_data (place_data t) ps)
  places_are ps = list_is (place_text t) (place_data t) ps (λ p _. place_is p)

  line_is : (l : the_line.Line) → line_text t (positions_of l) ≡ compact_text (line_data t l)
  line_is l = places_are (positions_of l)

  ring_is : (r : the_ring.Ring) → ring_text t (vertices_of r) ≡ compact_text (ring_data t r)
  ring_is r = places_are (closed (vertices_of r))

  lines_are : (ls : List the_line.Line) → list_text (λ l. line_text t (positions_of l)) ls ≡ compact_text (list_data (line_data t) ls)
  lines_are ls = list_is (λ l. line_text t (positions_of l)) (line_data t) ls (λ l _. line_is l)

  rings_are : (rs : List the_ring.Ring) → list_text (λ r. ring_text t (vertices_of r)) rs ≡ compact_text (list_data (ring_data t) rs)
  rings_are rs = list_is (λ r. ring_text t (vertices_of r)) (ring_data t) rs (λ r _. ring_is r)

  polygons_are : (ps : List (List the_ring.Ring)) → list_text (list_text (λ r. ring_text t (vertices_of r))) ps ≡ compact_text (list_data (list_data (ring_data t)) ps)
  polygons_are ps = list_is (list_text (λ r. ring_text t (vertices_of r))) (list_data (ring_data t)) ps (λ rs _. rings_are rs)

  shape_is : (s : Shape) → shape_text t s ≡ compact_text (shape_data t s)
  unfolding escape_byte
  shape_is shape.Null = refl
  shape_is (shape.Point p) = ap (λ s. geometry_text s (codes "Point")) (place_is p)
  shape_is (shape.MultiPoint ps) = ap (λ s. geometry_text s (codes "MultiPoint")) (places_are ps)
  shape_is (shape.Line l) = ap (λ s. geometry_text s (codes "LineString")) (line_is l)
  shape_is (shape.MultiLine ls) = ap (λ s. geometry_text s (codes "MultiLineString")) (lines_are ls)
  shape_is (shape.Polygon rs) = ap (λ s. geometry_text s (codes "Polygon")) (rings_are rs)
  shape_is (shape.MultiPolygon ps) = ap (λ s. geometry_text s (codes "MultiPolygon")) (polygons_are ps)

  after_id_is : (f : Feature) → codes "\"properties\":" ++ (properties_text f.props ++ codes ",\"type\":\"Feature\"}") ≡ members_text false (after_id f)
  unfolding escape_byte
  after_id_is f = ap (λ s. codes "\"properties\":" ++ (s ++ codes ",\"type\":\"Feature\"}")) (properties_value_is f.props)

  after_geometry_is : (f : Feature) → id_text f.id ++ (codes "\"properties\":" ++ (properties_text f.props ++ codes ",\"type\":\"Feature\"}")) ≡ members_text false (after_geometry f)
  after_geometry_is f = ap₂ (λ (a b : List ℕ). a ++ b) (id_is f.id) (after_id_is f) ∙ given_is (codes "id") (id_data f.id) (after_id f) tt

  geometry_member : (d : Data) (f : Feature) → codes "\"geometry\":" ++ (compact_text d ++ (codes "," ++ members_text false (after_geometry f))) ≡ members_text false (member (codes "geometry") d (after_geometry f))
  unfolding escape_byte
  geometry_member d f = sym (member_then (codes "geometry") d (after_geometry f) (HasMember-given (codes "id") (id_data f.id) (after_id f) tt))

  feature_is : (f : Feature) → feature_text t f ≡ compact_text (feature_data t f)
  feature_is f =
      ap (λ l. 123 ∷ l) (
      ap₂ (λ (a b : List ℕ). codes "\"geometry\":" ++ (a ++ (codes "," ++ b))) (shape_is f.shape) (after_geometry_is f)
      ∙ geometry_member (shape_data t f.shape) f)

  pub collection_is : (fs : List Feature) → collection_text t fs ≡ compact_text (collection_data t fs)
  unfolding escape_byte
  collection_is fs = ap (λ s. codes "{\"features\":[" ++ s) (joined_is (feature_text t) (feature_data t) fs (codes ",\"type\":\"FeatureCollection\"}") (λ f _. feature_is f))
