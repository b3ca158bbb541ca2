-- Shapes whose positions go elsewhere.
use Rattle.std.specs.Prelude.{◌≢◌, List, map}
use Rattle.compare.specs.declared.quality.vertex.VertexUse.{VertexUse}
use Rattle.fixing.specs.Forms.{RawShape}
use Rattle.grid.specs.declared.pos.Pos.{Pos}
use Rattle.lines.specs.Seen.{positions_of, vertices_of}
use Rattle.lines.specs.declared.line.Line.{Line}
use Rattle.lines.specs.declared.ring.Ring.{Ring}
use Rattle.shapes.specs.Forms.{form_map}
use Rattle.shapes.specs.Shapes as shapes
use Rattle.shapes.specs.declared.form.Form.TheVariants as of
use Rattle.snapping.specs.NearlyShared.Uses.{shape_uses}
use Rattle.theory.specs.LinesAndRings.{closed}
use Rattle.theory.specs.Lists.{Has}

-- one of the vertices of a shape goes elsewhere
abbrev pub Moves : (Pos → Pos) → shapes.Shape → Type 0
Moves f s = (u : VertexUse) × Has u (shape_uses 0 s) × (f u.at ≢ u.at)

-- the positions of a line, where they go
abbrev pub moved_line : (Pos → Pos) → Line → List Pos
moved_line f l = map f (positions_of l)

-- and of a ring, with the closing repeat
abbrev pub moved_ring : (Pos → Pos) → Ring → List Pos
moved_ring f r = closed (map f (vertices_of r))

-- a shape whose positions are where they go, its rings with the closing repeat
abbrev pub moved_shape : (Pos → Pos) → shapes.Shape → RawShape
moved_shape f (of.Point p) = of.Point (f p)
moved_shape f (of.MultiPoint ps) = of.MultiPoint (map f ps)
moved_shape f s = form_map (moved_line f) (moved_ring f) s
