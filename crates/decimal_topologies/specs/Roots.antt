-- A topology: its faults, and its layers [TopoJSON, 2.1].
use Rattle.std.specs.Prelude.{◌≡◌, ℕ, Bool, false, List, [], ◌∷◌, ◌++◌, Option, Some, None, option_map, option_and_then, Result, Ok, Err, codes}
use Rattle.std.specs.Str.{bytes_eq}
use Rattle.json.specs.Json.{Json, Items, Members}
use Rattle.json.specs.Find.{as_array, as_object, get}
use Rattle.faults.specs.Path.{name}
use Rattle.faults.specs.Fault.{Pair}
use Rattle.faults.specs.declared.fault.FaultKind.{FaultKind}
use Rattle.faults.specs.declared.fault.FaultKind.TheVariants.{Missing, WrongKind}
use Rattle.fixing.specs.declared.rules.FixingRules.{FixingRules}
use Rattle.reading.specs.Fault.{here, under, unless_faulty}
use Rattle.reading.specs.Parts.{named, of_type, typed_faults}
use Rattle.decimal_faults.specs.Parts.{member_faults, object_faults, type_text}
use Rattle.decimal_arcs.specs.Arcs.{arcs_faults, arcs_of}
use Rattle.decimal_topologies.specs.Geometries.{TopologyParts}
use Rattle.decimal_topologies.specs.Layers.{AreChosenLayers, Named, chosen_faults, members_in_order}
use Rattle.decimal_arcs.specs.Places.{count_of}
use Rattle.decimal_arcs.specs.Transforms.{quantization_of, transform_faults}
use Rattle.decimal_topologies.specs.Used.{used_arcs}
use Rattle.decimal_arcs.specs.declared.place.Quantization.{Quantization}
use Rattle.decimal_topologies.specs.declared.objects.TopologyLayer.{TopologyLayer}
use Rattle.decimal_topologies.specs.declared.rules.TopologyRules.{TopologyRules}

abbrev pub is_topology_named : Result (List ℕ) FaultKind → Bool
is_topology_named (Err k) = false
is_topology_named (Ok s) = bytes_eq s (codes "Topology")

-- whether the member `type` is the text `Topology` [TopoJSON, 2.1]
abbrev pub is_topology : Json → Bool
is_topology j = is_topology_named (type_text j)

abbrev pub layers_of_members : Option Members → Named
layers_of_members None = []
layers_of_members (Some ms) = members_in_order ms

abbrev pub layers_if_there : Option Json → Named
layers_if_there None = []
layers_if_there (Some j) = layers_of_members (as_object j)

-- the only object that is read, where one is named
abbrev pub chosen : TopologyRules → Option (List ℕ)
chosen rules = option_map (λ n. n.now) rules.layer

-- a value under its name
abbrev pub named_if_there : List ℕ → Option Json → Named
named_if_there n None = []
named_if_there n (Some j) = (n, j) ∷ []

-- the layers among objects, or the only one that is read
abbrev pub chosen_layers : Option (List ℕ) → Option Json → Named
chosen_layers None objects = layers_if_there objects
chosen_layers (Some n) objects = named_if_there n (option_and_then (get n) objects)

-- the layers of a topology that are read, none where `objects` is missing or no object
abbrev pub layers_in : TopologyRules → Json → Named
layers_in rules j = chosen_layers (chosen rules) (get (codes "objects") j)

-- which of these arcs the layers that are read use
abbrev pub used_in : TopologyRules → Json → Items → List Bool
used_in rules j js = used_arcs (count_of js) (layers_in rules j)

-- what the geometries of a topology refer to, where its arcs are these
abbrev pub parts_in : TopologyRules → Quantization → Json → Items → TopologyParts
parts_in rules q j js = record { quantization = q; arcs = arcs_of q (used_in rules j js) js }

-- the faults of `arcs` and `objects`, where `arcs` is this array
abbrev pub content_of : Quantization → TopologyRules → FixingRules → Json → Items → List Pair
content_of q rules fixing j js =
    under (name (codes "arcs")) (arcs_faults q (used_in rules j js) 0 js) ++ member_faults (codes "objects") (chosen_faults (parts_in rules q j js) rules.map fixing (chosen rules)) j

abbrev pub if_array : Quantization → TopologyRules → FixingRules → Json → Option Items → List Pair
if_array q rules fixing j None = under (name (codes "arcs")) (here WrongKind)
if_array q rules fixing j (Some js) = content_of q rules fixing j js

abbrev pub if_there : Quantization → TopologyRules → FixingRules → Json → Option Json → List Pair
if_there q rules fixing j None = under (name (codes "arcs")) (here Missing)
if_there q rules fixing j (Some a) = if_array q rules fixing j (as_array a)

-- the faults of `arcs` and `objects`; where `arcs` is missing or no array, that is the only one
abbrev pub content_faults : Quantization → TopologyRules → FixingRules → Json → List Pair
content_faults q rules fixing j = if_there q rules fixing j (get (codes "arcs") j)

-- the faults of the members; where `transform` has faults, these are the only ones
abbrev pub topology_members_faults : TopologyRules → FixingRules → Json → List Pair
topology_members_faults rules fixing j = unless_faulty (transform_faults j) (content_faults (quantization_of rules.map.grid j) rules fixing j)

-- the faults of a topology that the fixing rules leave [TopoJSON, 2.1; own]
abbrev pub topology_faults : TopologyRules → FixingRules → Json → List Pair
topology_faults rules fixing j = object_faults (typed_faults (λ t. topology_members_faults rules fixing j) (named (of_type (codes "Topology")) (type_text j))) (as_object j)

-- the layers of a topology whose arcs are this array, none of those that are used with a fault
pub record AreLayersOn (q : Quantization) (rules : TopologyRules) (j : Json) (items : Items) (xs : List TopologyLayer) : Type 0 where
  pub faultless : arcs_faults q (used_in rules j items) 0 items ≡ []
  pub objects : Json
  pub there : get (codes "objects") j ≡ Some objects
  pub layers : AreChosenLayers (parts_in rules q j items) rules.map (chosen rules) objects xs

-- the layers of the members of a topology
pub record HaveLayers (rules : TopologyRules) (j : Json) (xs : List TopologyLayer) : Type 0 where
  pub transform : transform_faults j ≡ []
  pub arcs : Json
  pub there : Some arcs ≡ get (codes "arcs") j
  pub items : Items
  pub are : Some items ≡ as_array arcs
  pub layers : AreLayersOn (quantization_of rules.map.grid j) rules j items xs

-- the layers of a topology [TopoJSON, 2.1; own]
abbrev pub AreTopologyLayers : TopologyRules → Json → List TopologyLayer → Type 0
AreTopologyLayers rules j xs = (type_text j ≡ Ok (codes "Topology")) × HaveLayers rules j xs
