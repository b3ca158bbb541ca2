-- Which features have which vertices, by their shapes.
use Rattle.std.specs.Prelude.{ℕ, ◌+◌, List, [], ◌∷◌, ◌++◌}
use Rattle.lines.specs.Seen.{positions_of, vertices_of}
use Rattle.lines.specs.declared.line.Line.{Line}
use Rattle.lines.specs.declared.ring.Ring.{Ring}
use Rattle.theory.specs.Lists.{gathered}
use Rattle.shapes.specs.Forms.{lines_in, points_in, rings_in}
use Rattle.shapes.specs.Shapes.{Shape}
use Rattle.compare.specs.Quality.Uses.{places_uses}
use Rattle.compare.specs.declared.quality.vertex.VertexUse.{VertexUse}

-- the feature f has each vertex of a line
abbrev pub line_uses : ℕ → Line → List VertexUse
line_uses f l = places_uses f (positions_of l)

-- and each of a ring
abbrev pub ring_uses : ℕ → Ring → List VertexUse
ring_uses f r = places_uses f (vertices_of r)

-- and each of a shape
abbrev pub shape_uses : ℕ → Shape → List VertexUse
shape_uses f s = places_uses f (points_in s) ++ (gathered (line_uses f) (lines_in s) ++ gathered (ring_uses f) (rings_in s))

-- the shapes, each a feature, the first of which has the number n, have those of theirs
abbrev pub shapes_uses : ℕ → List Shape → List VertexUse
shapes_uses n [] = []
shapes_uses n (s ∷ ss) = shape_uses n s ++ shapes_uses (n + 1) ss
