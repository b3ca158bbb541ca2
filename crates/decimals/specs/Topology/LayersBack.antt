-- The layers of a topology in the unit of the map: rings turned as they are wanted, and properties with their numbers as
-- they were.
use Rattle.std.specs.Prelude.{ℕ, ℤ, Bool, false, ◌||◌, bytes_eq, is_some, List, [], ◌∷◌, map}
use Rattle.std.specs.Borrow.{Bor}
use Rattle.attributes.specs.Back.{properties_back}
use Rattle.attributes.specs.Columns.{number_column}
use Rattle.grid.specs.declared.pos.Pos.{Pos}
use Rattle.shapes.specs.Parts.{properties_text}
use Rattle.shapes.specs.declared.props.Props.{Props}
use Rattle.shapes.specs.declared.shape.Id.{Id}
use Rattle.shapes.specs.declared.spelled.Spelled.{Spelled}
use Rattle.topo.specs.Parts.{LayerParts}
use Rattle.topo.specs.Bodies.{Body}
use Rattle.topo.specs.declared.geom.Geom.{Geom}
use Rattle.decimals.specs.Topology.Turning.{area_along, rewound_body}
use Rattle.decimals.specs.declared.topology.rules.BackRules.{BackRules}
use Rattle.decimals.specs.declared.topology.rules.NumbersBack.{NumbersBack}
use Rattle.decimals.specs.declared.topology.rules.NumbersBack.TheVariants as numbers

-- a geometry with the text of its properties
pub record BackGeometryParts : Type 0 where
  pub id : Id
  pub properties : List ℕ
  pub body : Body

-- a layer's name and its geometries in order
pub record BackLayerParts : Type 0 where
  pub name : Spelled
  pub geometries : List BackGeometryParts

-- the name is one of these
abbrev pub is_named : List (Bor (List ℕ)) → List ℕ → Bool
is_named [] name = false
is_named (n ∷ ns) name = bytes_eq n.now name || is_named ns name

-- whether decimal texts of the property are numbers again, in a layer whose features have these properties
abbrev pub are_numbers : NumbersBack → List Props → List ℕ → Bool
are_numbers numbers.None features name = false
are_numbers (numbers.Named names) features name = is_named names.now name
are_numbers numbers.Columns features name = is_some (number_column name features)

-- the properties of a geometry's feature
abbrev pub props_of : Geom → Props
props_of g = g.props

-- a geometry, its rings in the directions that are wanted, and its properties with their numbers as they were
abbrev pub geometry_back : (List ℕ → Bool) → BackRules → List ℤ → Geom → BackGeometryParts
geometry_back numeric r areas g = record { id = g.id; properties = properties_back numeric r.scales.now (properties_text g.props); body = rewound_body areas r.rewind g.body }

-- a layer of such geometries
abbrev pub layer_in : (List ℕ → Bool) → BackRules → List ℤ → LayerParts → BackLayerParts
layer_in numeric r areas l = record { name = l.name; geometries = map (geometry_back numeric r areas) l.geometries }

-- a layer, the numbers of its properties as the rules and all its features say
abbrev pub layer_back : BackRules → List ℤ → LayerParts → BackLayerParts
layer_back r areas l = layer_in (are_numbers r.numbers (map props_of l.geometries)) r areas l

-- the layers over some arcs
abbrev pub layers_back : BackRules → List (List Pos) → List LayerParts → List BackLayerParts
layers_back r arcs layers = map (layer_back r (map area_along arcs)) layers
