-- The lines and rings of a geometry, by lists of them.
use Rattle.std.proofs.Common.{◌≡◌, refl}
use Rattle.std.proofs.lemmas.List.{append-nil}
use Rattle.theory.specs.Lists.{joined}
use Rattle.shapes.specs.Forms.{polygons_in, rings_in}
use Rattle.shapes.specs.declared.form.Form.{Form}
use Rattle.shapes.specs.declared.form.Form.TheVariants.{Null, Point, MultiPoint, Line, MultiLine, Polygon, MultiPolygon}

pub rings_joined : {L R : Type 0} (f : Form L R) → joined (polygons_in f) ≡ rings_in f
rings_joined Null = refl
rings_joined (Point p) = refl
rings_joined (MultiPoint ps) = refl
rings_joined (Line l) = refl
rings_joined (MultiLine ls) = refl
rings_joined (Polygon rs) = append-nil rs
rings_joined (MultiPolygon ps) = refl
