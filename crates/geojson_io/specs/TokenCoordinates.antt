-- Coordinates by how deep their brackets nest.
use Rattle.std.specs.Prelude.{◌≡◌, List, [], Option, None, Vec}
use Rattle.std.specs.List.{AllZip}
use Rattle.std.specs.declared.alloc.Global.{Global}
use Rattle.grid.specs.declared.pos.Pos.{Pos}
use Rattle.lines.specs.declared.shape_fault.ShapeFault.{ShapeFault}
use Rattle.serde_json.specs.Data.{Data, array, no_items}
use Rattle.faults.specs.Fault.{Pair}
use Rattle.grid.specs.Place.{Transform}
use Rattle.reading.specs.Parts.{list_faults, elements}
use Rattle.lines.specs.Reading.{ring_fault}
use Rattle.lines.specs.Seen.{vertices_of}
use Rattle.lines.specs.Turned.{position_cmp}
use Rattle.lines.specs.declared.ring.Ring.{Ring}
use Rattle.reading.specs.Outlines.{ring_of}
use Rattle.reading.specs.Plain.{plain_form}
use Rattle.reading.specs.declared.geometry.GeometryType.{GeometryType}
use Rattle.shapes.specs.Shapes.{Shape}
use Rattle.geojson_io.specs.Geometries.{coordinates_faults, form_of}
use Rattle.geojson_io.specs.Positions.{position_faults, position_of}
use Rattle.geojson_io.specs.declared.token_reader.coordinates.Coordinates.{Coordinates}
use Rattle.geojson_io.specs.declared.token_reader.coordinates.Coordinates.TheVariants.{Empty, Place, Places, Lists, Groups}

-- the faults of coordinates that nest as these do
abbrev pub nested_faults : Transform → Coordinates → Data → List Pair
nested_faults t Empty = list_faults (position_faults t)
nested_faults t (Place p) = position_faults t
nested_faults t (Places ps) = list_faults (position_faults t)
nested_faults t (Lists ls) = list_faults (list_faults (position_faults t))
nested_faults t (Groups gs) = list_faults (list_faults (list_faults (position_faults t)))

-- what they mean
abbrev pub CoordinatesMean : Transform → Data → Coordinates → Type 0
CoordinatesMean t d Empty = d ≡ array no_items
CoordinatesMean t d (Place p) = p ≡ position_of t d
CoordinatesMean t d (Places ps) = AllZip (λ e p. p ≡ position_of t e) (elements d) ps.items
CoordinatesMean t d (Lists ls) = AllZip (λ e ps. AllZip (λ f p. p ≡ position_of t f) (elements e) ps.items) (elements d) ls.items
CoordinatesMean t d (Groups gs) = AllZip (λ c ls. AllZip (λ e ps. AllZip (λ f p. p ≡ position_of t f) (elements e) ps.items) (elements c) ls.items) (elements d) gs.items

-- a list of positions is a line or a ring, and this one
abbrev pub OutlineOf : {O : Type 0} → (List Pos → Option ShapeFault) → (O → List Pos) → (List Pos → List Pos) → Vec Pos Global → O → Type 0
OutlineOf fault seen of ps o = (fault ps.items ≡ None) × (seen o ≡ of ps.items)

-- each list of positions is a line, or each a ring, and the one beside it
abbrev pub OutlinesOf : {O : Type 0} → (List Pos → Option ShapeFault) → (O → List Pos) → (List Pos → List Pos) → Vec (Vec Pos Global) Global → Vec O Global → Type 0
OutlinesOf fault seen of ls os = AllZip (OutlineOf fault seen of) ls.items os.items

-- the shape that coordinates which nest so mean, in a geometry of that type
abbrev pub IsShapeOf : GeometryType → Coordinates → Shape → Type 0
IsShapeOf k n s = (t : Transform) (d : Data) → nested_faults t n d ≡ [] → CoordinatesMean t d n → (coordinates_faults t k d ≡ []) × (plain_form s ≡ form_of t k d)

-- lists of lists of positions are polygons of these rings
abbrev pub PolygonsOf : Vec (Vec (Vec Pos Global) Global) Global → Vec (List Ring) Global → Type 0
PolygonsOf gs ps = AllZip (λ g rs. AllZip (OutlineOf (ring_fault position_cmp) vertices_of ring_of) g.items rs) gs.items ps.items
