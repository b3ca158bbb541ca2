-- Shapes that fit a grid, by their positions, lines and rings.
use Rattle.std.proofs.Common.{◌≡◌, List, [], map}
use Rattle.std.specs.List.{AllByRecursion}
use Rattle.serde_json.specs.Data.{Data}
use Rattle.faults.specs.Fault.{Pair}
use Rattle.grid.specs.Place.{Transform}
use Rattle.grid.specs.Fits.{Fits}
use Rattle.grid.specs.declared.pos.Pos.{Pos}
use Rattle.reading.specs.Fitting.{FormFits}
use Rattle.reading.specs.Parts.{list_faults, elements}
use Rattle.reading.specs.Shapes.{shape_faults, shape_form}
use Rattle.reading.specs.declared.geometry.GeometryType.{GeometryType}
use Rattle.reading.specs.declared.geometry.GeometryType.TheVariants.{Point, MultiPoint, LineString, MultiLineString, Polygon, MultiPolygon}
use Rattle.reading.proofs.Faultless.{list_none}
use Rattle.reading.proofs.Fits.{all_map}

-- of each part of a list without faults, what holds of a part without faults
pub all_read : {X : Type 0} (P : X → Type 0) (of : Data → List Pair) (f : Data → X) → ((d : Data) → of d ≡ [] → P (f d)) → (d : Data) → list_faults of d ≡ [] → AllByRecursion P (map f (elements d))
all_read P of f fits d e = all_map P f (elements d) (list_none of (λ p. P (f p)) fits d e)

-- where positions, lines and rings without faults fit, so do shapes
module _ (t : Transform) (at_faults line_faults ring_faults : Data → List Pair) (at : Data → Pos) (line_at ring_at : Data → List Pos)
    (at_fits : (d : Data) → at_faults d ≡ [] → Fits t (at d))
    (line_fits : (d : Data) → line_faults d ≡ [] → AllByRecursion (Fits t) (line_at d))
    (ring_fits : (d : Data) → ring_faults d ≡ [] → AllByRecursion (Fits t) (ring_at d)) where
  pub kind_fits : (k : GeometryType) (d : Data) → shape_faults at_faults line_faults ring_faults k d ≡ [] → FormFits t (shape_form at line_at ring_at k d)
  kind_fits Point d e = at_fits d e
  kind_fits MultiPoint d e = all_read (Fits t) at_faults at at_fits d e
  kind_fits LineString d e = line_fits d e
  kind_fits MultiLineString d e = all_read (AllByRecursion (Fits t)) line_faults line_at line_fits d e
  kind_fits Polygon d e = all_read (AllByRecursion (Fits t)) ring_faults ring_at ring_fits d e
  kind_fits MultiPolygon d e =
      all_read (AllByRecursion (AllByRecursion (Fits t))) (list_faults ring_faults) (λ p. map ring_at (elements p))
      (λ p k. all_read (AllByRecursion (Fits t)) ring_faults ring_at ring_fits p k) d e
