-- Positions, lines and rings that are written have no fault, mean what was written, and read back.
use Rattle.std.proofs.Common.{◌≡◌, ℤ, List, [], ◌∷◌, Ok, refl, sym, ap, ap₂, ◌∙◌, arith, append-nil}
use Rattle.std.proofs.lemmas.Int.{ints}
use Rattle.std.specs.List.{AllByRecursion}
use Rattle.grid.specs.Place.{Scaling, Transform, IsScaling, IsTransform, IsAbsolute, FitsAxis, absolute}
use Rattle.grid.specs.Fits.{Fits}
use Rattle.grid.specs.Computed.{axis_number}
use Rattle.grid.specs.declared.pos.Pos.{Pos}
use Rattle.grid.proofs.Judged.{answer_computed}
use Rattle.lines.specs.Seen.{positions_of, vertices_of}
use Rattle.lines.specs.declared.line.Line as the_line
use Rattle.lines.specs.declared.ring.Ring as the_ring
use Rattle.lines.proofs.ReadsItself.{line_reads, ring_reads}
use Rattle.theory.specs.LinesAndRings.{IsRotation, closed}
use Rattle.reading.specs.Outlines.{outline_faults, line_faults, ring_faults, line_of, ring_of}
use Rattle.reading.specs.Positions.{position_at}
use Rattle.reading.proofs.Fits.{all_has, all_append}
use Rattle.reading.proofs.Positions.{position_itself}
use Rattle.geojson_io.specs.Positions.{grid_faults, axis_faults, number_or_zero, grid_number, position_faults, position_of, positions_faults, positions_of as positions_in, line_at_faults, line_at, ring_at_faults, ring_at}
use Rattle.round_trip.specs.Compact.Good.{Good}
use Rattle.shapes.specs.Ids.{IsI64}
use Rattle.round_trip.specs.Compact.Values.{integer, list_data}
use Rattle.round_trip.proofs.CompactLemmas.Lists.{list_faultless, elements_mean, map-same, unless_none, pair_faultless, Good-pair, Good-list}
use Rattle.round_trip.proofs.CompactLemmas.Numbers.{IsI64-between, whole_of-integer}
use Rattle.round_trip.specs.Geojson.Values.{place_data, line_data, ring_data}

-- ---- numbers

absolute_stored : (a : ℤ) → IsAbsolute a → IsI64 a
absolute_stored a h = IsI64-between a (omega (arith, ints, h.low)) (omega (arith, ints, h.high))

number_found : (s : Scaling) (n : ℤ) → IsScaling s → FitsAxis s n → axis_number s (absolute s n) ≡ Ok n
number_found s n limits fits = sym (answer_computed s (absolute s n) (Ok n) limits (record { place = refl; fits = fits }) tt)

axis_faultless : (s : Scaling) (n : ℤ) → IsScaling s → FitsAxis s n → axis_faults s (absolute s n) ≡ []
axis_faultless s n limits fits = ap grid_faults (number_found s n limits fits)

number_means : (s : Scaling) (n : ℤ) → IsScaling s → FitsAxis s n → grid_number s (integer (absolute s n)) ≡ n
number_means s n limits fits =
    ap (λ a. number_or_zero (axis_number s a)) (whole_of-integer (absolute s n) (absolute_stored (absolute s n) fits.absolute)) ∙ ap number_or_zero (number_found s n limits fits)

-- ---- positions

module _ (t : Transform) (limits : IsTransform t) where
  pub place_faultless : (p : Pos) → Fits t p → position_faults t (place_data t p) ≡ []
  place_faultless p h =
      pair_faultless (axis_faults t.x) (axis_faults t.y) (absolute t.x p.x) (absolute t.y p.y) (absolute_stored _ h.x.absolute) (absolute_stored _ h.y.absolute)
      (axis_faultless t.x p.x limits.x h.x) (axis_faultless t.y p.y limits.y h.y)

  pub place_means : (p : Pos) → Fits t p → position_of t (place_data t p) ≡ p
  place_means p h = ap₂ (λ (x y : ℤ). position_at x y) (number_means t.x p.x limits.x h.x) (number_means t.y p.y limits.y h.y) ∙ sym (position_itself p)

  pub Good-place : (p : Pos) → Fits t p → Good 1 (place_data t p)
  Good-place p h = Good-pair (absolute t.x p.x) (absolute t.y p.y) (absolute_stored _ h.x.absolute) (absolute_stored _ h.y.absolute)

  pub places_faultless : (ps : List Pos) → AllByRecursion (Fits t) ps → positions_faults t (list_data (place_data t) ps) ≡ []
  places_faultless ps h = list_faultless (place_data t) (position_faults t) ps (λ p k. place_faultless p (all_has (Fits t) ps p h k))

  pub places_mean : (ps : List Pos) → AllByRecursion (Fits t) ps → positions_in t (list_data (place_data t) ps) ≡ ps
  places_mean ps h = elements_mean (place_data t) (position_of t) (λ p. p) ps (λ p k. place_means p (all_has (Fits t) ps p h k)) ∙ map-same ps

  pub Good-places : (ps : List Pos) → AllByRecursion (Fits t) ps → Good 2 (list_data (place_data t) ps)
  Good-places ps h = Good-list (place_data t) 1 ps (λ p k. Good-place p (all_has (Fits t) ps p h k))

  -- ---- lines

  pub line_faultless : (l : the_line.Line) → AllByRecursion (Fits t) (positions_of l) → line_at_faults t (line_data t l) ≡ []
  line_faultless l h =
      unless_none (positions_faults t (line_data t l)) (line_faults (positions_in t (line_data t l))) (places_faultless (positions_of l) h)
      (ap line_faults (places_mean (positions_of l) h) ∙ ap outline_faults (line_reads l).0)

  pub line_means : (l : the_line.Line) → AllByRecursion (Fits t) (positions_of l) → line_at t (line_data t l) ≡ positions_of l
  line_means l h = ap line_of (places_mean (positions_of l) h) ∙ (line_reads l).1

  -- ---- rings

  closed_fits : (vs : List Pos) → AllByRecursion (Fits t) vs → AllByRecursion (Fits t) (closed vs)
  closed_fits [] h = tt
  closed_fits (v ∷ vs) h = all_append (Fits t) (v ∷ vs) (v ∷ []) h (h.0, tt)

  same_rotation : (vs : List Pos) → IsRotation vs vs
  same_rotation vs = ([], vs, refl, sym (append-nil vs))

  pub ring_faultless : (r : the_ring.Ring) → AllByRecursion (Fits t) (vertices_of r) → ring_at_faults t (ring_data t r) ≡ []
  ring_faultless r h =
      let fits = closed_fits (vertices_of r) h in
      unless_none (positions_faults t (ring_data t r)) (ring_faults (positions_in t (ring_data t r))) (places_faultless (closed (vertices_of r)) fits)
      (ap ring_faults (places_mean (closed (vertices_of r)) fits) ∙ ap outline_faults (ring_reads r (vertices_of r) (same_rotation (vertices_of r))).0)

  pub ring_means : (r : the_ring.Ring) → AllByRecursion (Fits t) (vertices_of r) → ring_at t (ring_data t r) ≡ vertices_of r
  ring_means r h =
      ap ring_of (places_mean (closed (vertices_of r)) (closed_fits (vertices_of r) h)) ∙ (ring_reads r (vertices_of r) (same_rotation (vertices_of r))).1

  pub Good-ring : (r : the_ring.Ring) → AllByRecursion (Fits t) (vertices_of r) → Good 2 (ring_data t r)
  Good-ring r h = Good-places (closed (vertices_of r)) (closed_fits (vertices_of r) h)
