-- Geometries that are written have no fault, and mean the shapes.
use Rattle.std.proofs.Common.{◌≡◌, List, [], map, refl, ap}
use Rattle.std.specs.List.{AllByRecursion}
use Rattle.std.specs.Prelude.{codes}
use Rattle.faults.specs.Path.{name}
use Rattle.grid.specs.Place.{Transform, IsTransform}
use Rattle.grid.specs.Fits.{Fits}
use Rattle.lines.specs.Seen.{positions_of, vertices_of}
use Rattle.lines.specs.declared.line.Line as the_line
use Rattle.lines.specs.declared.ring.Ring as the_ring
use Rattle.shapes.specs.Fitting.{ShapeFits}
use Rattle.shapes.specs.Shapes.{Shape}
use Rattle.shapes.specs.declared.form.Form.TheVariants as shape
use Rattle.theory.specs.Topology.{point, points, line, lines, polygon, polygons}
use Rattle.reading.specs.Fault.{under}
use Rattle.reading.specs.Parts.{elements, list_faults, unless_null}
use Rattle.reading.specs.Plain.{plain_form}
use Rattle.reading.proofs.Fits.{all_has}
use Rattle.geojson_io.specs.Positions.{line_at_faults, line_at, ring_at_faults, ring_at}
use Rattle.geojson_io.specs.Geometries.{geometry_faults, geometry_form}
use Rattle.round_trip.specs.Compact.Values.{list_data}
use Rattle.round_trip.proofs.CompactLemmas.Lists.{list_faultless, elements_mean}
use Rattle.round_trip.specs.Geojson.Values.{line_data, ring_data, shape_data}
use Rattle.round_trip.proofs.GeojsonLemmas.Places.{place_faultless, place_means, places_faultless, places_mean, line_faultless, line_means, ring_faultless, ring_means}

module _ (t : Transform) (limits : IsTransform t) where
  abbrev LineFits : the_line.Line → Type 0
  LineFits l = AllByRecursion (Fits t) (positions_of l)

  abbrev RingFits : the_ring.Ring → Type 0
  RingFits r = AllByRecursion (Fits t) (vertices_of r)

  lines_faultless : (ls : List the_line.Line) → AllByRecursion LineFits ls → list_faults (line_at_faults t) (list_data (line_data t) ls) ≡ []
  lines_faultless ls h = list_faultless (line_data t) (line_at_faults t) ls (λ l k. line_faultless t limits l (all_has LineFits ls l h k))

  lines_mean : (ls : List the_line.Line) → AllByRecursion LineFits ls → map (line_at t) (elements (list_data (line_data t) ls)) ≡ map positions_of ls
  lines_mean ls h = elements_mean (line_data t) (line_at t) positions_of ls (λ l k. line_means t limits l (all_has LineFits ls l h k))

  rings_faultless : (rs : List the_ring.Ring) → AllByRecursion RingFits rs → list_faults (ring_at_faults t) (list_data (ring_data t) rs) ≡ []
  rings_faultless rs h = list_faultless (ring_data t) (ring_at_faults t) rs (λ r k. ring_faultless t limits r (all_has RingFits rs r h k))

  rings_mean : (rs : List the_ring.Ring) → AllByRecursion RingFits rs → map (ring_at t) (elements (list_data (ring_data t) rs)) ≡ map vertices_of rs
  rings_mean rs h = elements_mean (ring_data t) (ring_at t) vertices_of rs (λ r k. ring_means t limits r (all_has RingFits rs r h k))

  polygons_faultless : (ps : List (List the_ring.Ring)) → AllByRecursion (AllByRecursion RingFits) ps → list_faults (list_faults (ring_at_faults t)) (list_data (list_data (ring_data t)) ps) ≡ []
  polygons_faultless ps h =
      list_faultless (list_data (ring_data t)) (list_faults (ring_at_faults t)) ps (λ rs k. rings_faultless rs (all_has (AllByRecursion RingFits) ps rs h k))

  polygons_mean : (ps : List (List the_ring.Ring)) → AllByRecursion (AllByRecursion RingFits) ps
      → map (λ p. map (ring_at t) (elements p)) (elements (list_data (list_data (ring_data t)) ps)) ≡ map (map vertices_of) ps
  polygons_mean ps h =
      elements_mean (list_data (ring_data t)) (λ p. map (ring_at t) (elements p)) (map vertices_of) ps (λ rs k. rings_mean rs (all_has (AllByRecursion RingFits) ps rs h k))

  pub shape_faultless : (s : Shape) → ShapeFits t s → unless_null (geometry_faults t) (shape_data t s) ≡ []
  shape_faultless shape.Null h = refl
  shape_faultless (shape.Point p) h = ap (under (name (codes "coordinates"))) (place_faultless t limits p h)
  shape_faultless (shape.MultiPoint ps) h = ap (under (name (codes "coordinates"))) (places_faultless t limits ps h)
  shape_faultless (shape.Line l) h = ap (under (name (codes "coordinates"))) (line_faultless t limits l h)
  shape_faultless (shape.MultiLine ls) h = ap (under (name (codes "coordinates"))) (lines_faultless ls h)
  shape_faultless (shape.Polygon rs) h = ap (under (name (codes "coordinates"))) (rings_faultless rs h)
  shape_faultless (shape.MultiPolygon ps) h = ap (under (name (codes "coordinates"))) (polygons_faultless ps h)

  pub shape_means : (s : Shape) → ShapeFits t s → geometry_form t (shape_data t s) ≡ plain_form s
  shape_means shape.Null h = refl
  shape_means (shape.Point p) h = ap point (place_means t limits p h)
  shape_means (shape.MultiPoint ps) h = ap points (places_mean t limits ps h)
  shape_means (shape.Line l) h = ap line (line_means t limits l h)
  shape_means (shape.MultiLine ls) h = ap lines (lines_mean ls h)
  shape_means (shape.Polygon rs) h = ap polygon (rings_mean rs h)
  shape_means (shape.MultiPolygon ps) h = ap polygons (polygons_mean ps h)
