-- The canonical text of a topology (TopoJSON, sections 2 and 3): compact JSON, members in byte order of their names.
use Rattle.std.specs.Prelude.{ℕ, ℤ, List, [], ◌∷◌, ◌++◌, codes}
use Rattle.std.specs.Fmt.{signed_decimal}
use Rattle.grid.specs.Place.{Transform, transform, scaling}
use Rattle.grid.specs.declared.pos.Pos.{Pos}
use Rattle.chains.specs.Seen.{Info}
use Rattle.shapes.specs.Parts.{properties_text}
use Rattle.shapes.specs.Spelling.{spelling_of}
use Rattle.sinks.specs.Texts.{joined, list_text, option_text, pair_text}
use Rattle.theory.specs.Topology.{Item, Layer, Body, null, point, points, line, lines, polygon, polygons}
use Rattle.arcs.specs.ArcTexts.{position_text, arc_text, index_text}
use Rattle.topo.specs.OfMap.{Seen}
use Rattle.topo.specs.Parts.{Corners}
use Rattle.shapes.specs.Writing.Members.{id_text, properties_member}

-- what a geometry is made of, as a member and a comma; nothing for the null shape
-- [TopoJSON, 2.2; order of members own]
abbrev pub content_text : Body Pos → List ℕ
content_text null = []
content_text (point p) = codes "\"coordinates\":" ++ (position_text p ++ codes ",")
content_text (points ps) = codes "\"coordinates\":" ++ (list_text position_text ps ++ codes ",")
content_text (line used) = codes "\"arcs\":" ++ (list_text index_text used ++ codes ",")
content_text (lines ls) = codes "\"arcs\":" ++ (list_text (list_text index_text) ls ++ codes ",")
content_text (polygon rs) = codes "\"arcs\":" ++ (list_text (list_text index_text) rs ++ codes ",")
content_text (polygons ps) = codes "\"arcs\":" ++ (list_text (list_text (list_text index_text)) ps ++ codes ",")

-- the name of a geometry's type [TopoJSON, 2.2; order of members own]
abbrev pub type_text : Body Pos → List ℕ
type_text null = codes "null"
type_text (point p) = codes "\"Point\""
type_text (points ps) = codes "\"MultiPoint\""
type_text (line used) = codes "\"LineString\""
type_text (lines ls) = codes "\"MultiLineString\""
type_text (polygon rs) = codes "\"Polygon\""
type_text (polygons ps) = codes "\"MultiPolygon\""

-- a geometry: coordinates or arcs, its id, its properties unless there are none, and its type
-- [TopoJSON, 2.2; order of members own]
abbrev pub geometry_text : Item Info (Body Pos) → List ℕ
geometry_text g = codes "{" ++ (content_text g.form ++ (id_text g.info.0 ++ (properties_member (properties_text g.info.1)
    ++ (codes "\"type\":" ++ (type_text g.form ++ codes "}")))))

-- a member of `objects` [TopoJSON, 2.1 and 3]
abbrev pub layer_text : Layer (Item Info (Body Pos)) → List ℕ
layer_text l = spelling_of l.name ++ (codes ":{\"geometries\":" ++ (list_text geometry_text l.items ++ codes ",\"type\":\"GeometryCollection\"}"))

-- the member `bbox` and a comma [TopoJSON, 2.1 and 3]
abbrev pub bbox_text : Corners → List ℕ
bbox_text c = codes "\"bbox\":" ++ (list_text signed_decimal (c.0 ∷ c.1 ∷ c.2 ∷ c.3 ∷ []) ++ codes ",")

-- the transform of the scales and the translations of both elements
abbrev pub transform_of : ℤ × ℤ → ℤ × ℤ → Transform
transform_of scales translations = transform (scaling scales.0 translations.0) (scaling scales.1 translations.1)

-- the member `transform` [TopoJSON, 2.1 and 3]
abbrev pub transform_text : Transform → List ℕ
transform_text t = codes "\"transform\":{\"scale\":" ++ (pair_text t.x.scale t.y.scale
    ++ (codes ",\"translate\":" ++ (pair_text t.x.translate t.y.translate ++ codes "}")))

-- the canonical text [TopoJSON, 2 and 3; spelling own]
abbrev pub topology_text : Seen → List ℕ
topology_text t = codes "{\"arcs\":[" ++ (joined arc_text t.arcs ++ (codes "]," ++ (option_text bbox_text t.bbox
    ++ (codes "\"objects\":{" ++ (joined layer_text t.layers ++ (codes "}," ++ (transform_text t.grid ++ codes ",\"type\":\"Topology\"}")))))))
