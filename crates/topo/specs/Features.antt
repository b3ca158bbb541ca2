-- The features that geometries stitch to (TopoJSON section 2.1.4).
use Rattle.std.specs.Prelude.{◌≡◌, List, Option, Some, None}
use Rattle.grid.specs.declared.pos.Pos.{Pos}
use Rattle.lines.specs.Seen.{positions_of, vertices_of}
use Rattle.lines.specs.declared.line.Line as the_line
use Rattle.lines.specs.declared.ring.Ring as the_ring
use Rattle.shapes.specs.declared.feature.Feature.{Feature}
use Rattle.shapes.specs.Shapes as shapes
use Rattle.shapes.specs.declared.form.Form.TheVariants as of
use Rattle.theory.specs.ArcNumbers.{ArcRef, StitchTo}
use Rattle.theory.specs.LinesAndRings.{IsRotation, closed}
use Rattle.theory.specs.Lists.{Pairwise}
use Rattle.topo.specs.Bodies as bodies
use Rattle.topo.specs.declared.geom.Geom.{Geom}

-- the used arcs stitch to the line [TopoJSON, 2.1.4]
abbrev pub IsLineOf : List (List Pos) → the_line.Line → List ArcRef → Type 0
IsLineOf arcs l used = StitchTo arcs used (positions_of l)

-- the used arcs stitch to the ring, begun at one of its vertices, and closed [TopoJSON, 2.1.4]
abbrev pub IsRingOf : List (List Pos) → the_ring.Ring → List ArcRef → Type 0
IsRingOf arcs r used = (q : List Pos) × IsRotation (vertices_of r) q × StitchTo arcs used (closed q)

-- the same kind, with the same points, and lists of used arcs that stitch to the lines and rings [TopoJSON, 2.1.4]
abbrev pub IsShapeOf : List (List Pos) → shapes.Shape → bodies.Body → Type 0
IsShapeOf arcs of.Null of.Null = Unit {0}
IsShapeOf arcs (of.Point p) (of.Point q) = p ≡ q
IsShapeOf arcs (of.MultiPoint ps) (of.MultiPoint qs) = ps ≡ qs
IsShapeOf arcs (of.Line l) (of.Line used) = IsLineOf arcs l used
IsShapeOf arcs (of.MultiLine ls) (of.MultiLine lists) = Pairwise (IsLineOf arcs) ls lists
IsShapeOf arcs (of.Polygon rs) (of.Polygon lists) = Pairwise (IsRingOf arcs) rs lists
IsShapeOf arcs (of.MultiPolygon ps) (of.MultiPolygon lists) = Pairwise (Pairwise (IsRingOf arcs)) ps lists
IsShapeOf arcs s b = ⊥

-- the geometry stitches to the feature: the same id and properties, and its body stitches to the shape
-- [TopoJSON, 2.1.4]
pub record IsFeatureOf (arcs : List (List Pos)) (f : Feature) (g : Geom) : Type 0 where
  pub id : f.id ≡ g.id
  pub props : f.props ≡ g.props
  pub shape : IsShapeOf arcs f.shape g.body

-- the geometries stitch to the features, one by one [TopoJSON, 2.1.4]
abbrev pub AreFeaturesOf : List (List Pos) → List Feature → List Geom → Type 0
AreFeaturesOf arcs = Pairwise (IsFeatureOf arcs)

-- the geometry stitches to a feature
abbrev pub HasFeature : List (List Pos) → Geom → Type 0
HasFeature arcs g = (f : Feature) × IsFeatureOf arcs f g

-- what is known is the feature that the geometry stitches to
abbrev pub IsKnownOf : List (List Pos) → Geom → Option Feature → Type 0
IsKnownOf arcs g None = Unit {0}
IsKnownOf arcs g (Some f) = IsFeatureOf arcs f g
