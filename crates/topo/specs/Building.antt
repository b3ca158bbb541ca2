-- What is built of a map: its pieces, and its layers by the arcs of a table. The list `i` holds the junctions.
use Rattle.std.specs.Prelude.{ℕ, List, [], ◌∷◌, ◌++◌, length, map as map_list}
use Rattle.grid.specs.declared.pos.Pos.{Pos}
use Rattle.lines.specs.declared.line.Line as the_line
use Rattle.lines.specs.declared.ring.Ring as the_ring
use Rattle.shapes.specs.Forms.{form_map}
use Rattle.shapes.specs.Maps.{Features, set_of}
use Rattle.shapes.specs.Parts.{spelled_text}
use Rattle.shapes.specs.Sets as set
use Rattle.shapes.specs.declared.feature.Feature.{Feature}
use Rattle.shapes.specs.declared.layer.FeatureLayer.{FeatureLayer}
use Rattle.shapes.specs.Shapes as shapes
use Rattle.chains.specs.Pieces.{line_pieces, ring_pieces}
use Rattle.chains.specs.Seen.{line_of, ring_of, form_of}
use Rattle.arcs.specs.Table.{located}
use Rattle.arcs.specs.declared.piece.Piece.{Piece}
use Rattle.theory.specs.ArcNumbers.{ArcRef}
use Rattle.theory.specs.Lists.{gathered}
use Rattle.theory.specs.Topology.{Shape, lines_in, rings_in}
use Rattle.topo.specs.Parts.{LayerParts}
use Rattle.topo.specs.Bodies as bodies
use Rattle.topo.specs.declared.geom.Geom.{Geom}

-- the pieces of the lines and of the rings of a form [topojson-server]
abbrev pub form_pieces : List Pos → Shape Pos → List Piece
form_pieces i f = gathered (line_pieces i) (lines_in f) ++ gathered (ring_pieces i) (rings_in f)

-- the pieces of a feature's lines and rings
abbrev pub feature_pieces : List Pos → Feature → List Piece
feature_pieces i f = form_pieces i (form_of f.shape)

-- the pieces of a layer [topojson-server]
abbrev pub layer_pieces : List Pos → FeatureLayer → List Piece
layer_pieces i l = gathered (feature_pieces i) (set.items (set_of l.features))

-- how many pieces a line or ring has by this cut, as a list of one number
abbrev pub count_of : (List Pos → List Piece) → List Pos → List ℕ
count_of cut l = length (cut l) ∷ []

-- how many pieces each line and each ring of a form has
abbrev pub form_counts : List Pos → Shape Pos → List ℕ
form_counts i f = gathered (count_of (line_pieces i)) (lines_in f) ++ gathered (count_of (ring_pieces i)) (rings_in f)

-- how many pieces each line and each ring of a feature has
abbrev pub feature_counts : List Pos → Feature → List ℕ
feature_counts i f = form_counts i (form_of f.shape)

-- how many pieces each line and each ring of a layer has
abbrev pub layer_counts : List Pos → FeatureLayer → List ℕ
layer_counts i l = gathered (feature_counts i) (set.items (set_of l.features))

-- the used arcs of a line, and of a ring [TopoJSON, 2.2]
abbrev pub line_used : List Pos → List (List Pos) → the_line.Line → List ArcRef
line_used i arcs l = map_list (located arcs) (line_pieces i (line_of l))

-- the used arcs along the pieces of a ring [TopoJSON, 2.2]
abbrev pub ring_used : List Pos → List (List Pos) → the_ring.Ring → List ArcRef
ring_used i arcs r = map_list (located arcs) (ring_pieces i (ring_of r))

-- the body of a shape, its lines and rings by the arcs of a table [TopoJSON, 2.2]
abbrev pub body_built : List Pos → List (List Pos) → shapes.Shape → bodies.Body
body_built i arcs s = form_map (line_used i arcs) (ring_used i arcs) s

-- the geometry of a feature, by the arcs of a table [TopoJSON, 2.2]
abbrev pub geometry_built : List Pos → List (List Pos) → Feature → Geom
geometry_built i arcs f = record { id = f.id; props = f.props; body = body_built i arcs f.shape }

-- an entry of a map, its features as geometries [TopoJSON, 2.2]
abbrev pub entry_built : List Pos → List (List Pos) → List ℕ × Features → List ℕ × List Geom
entry_built i arcs e = (e.0, map_list (geometry_built i arcs) (set.items e.1))

-- a layer of a topology as such an entry
abbrev pub parts_entry : LayerParts → List ℕ × List Geom
parts_entry l = (spelled_text l.name, l.geometries)
