-- The layers of a topology by their names [TopoJSON, 2.1.5; own].
use Rattle.std.specs.Prelude.{◌≡◌, ℕ, List, [], ◌∷◌, ◌++◌, map, Option, Some, None, string_bytes}
use Rattle.std.specs.Borrow.{Bor}
use Rattle.std.specs.BTreeMap.{insert_entry}
use Rattle.std.specs.Cmp.Lexicographic.{slice_cmp}
use Rattle.std.specs.Ordering.{nat_cmp}
use Rattle.std.specs.declared.alloc.Global.{Global}
use Rattle.json.specs.Json.{Json, Members, no_members, member}
use Rattle.json.specs.Find.{as_object, get}
use Rattle.json.specs.Value.{value_view}
use Rattle.json.specs.declared.value.Value.{Value}
use Rattle.faults.specs.Path.{name}
use Rattle.faults.specs.Fault.{Pair}
use Rattle.faults.specs.declared.fault.FaultKind.TheVariants.{WrongKind}
use Rattle.fixing.specs.declared.rules.FixingRules.{FixingRules}
use Rattle.reading.specs.Fault.{here, under}
use Rattle.decimal_faults.specs.Parts.{member_faults, object_faults}
use Rattle.decimal_maps.specs.declared.rules.MapRules.{MapRules}
use Rattle.decimal_topologies.specs.Features.{IsLayer, layer_faults}
use Rattle.decimal_topologies.specs.Geometries.{TopologyParts}
use Rattle.decimal_topologies.specs.declared.objects.TopologyLayer.{TopologyLayer}

-- names, each with its value
abbrev pub Named : Type 0
Named = List (List ℕ × Json)

-- these, with the members put among them in the byte order of their names; of a name that comes twice the last value counts
abbrev pub with_members : Named → Members → Named
with_members ls no_members = ls
with_members ls (member k j ms) = with_members (insert_entry (slice_cmp nat_cmp) ls k j) ms

-- the members in the byte order of their names
abbrev pub members_in_order : Members → Named
members_in_order ms = with_members [] ms

-- each layer's faults, under its name
abbrev pub layers_faults : TopologyParts → MapRules → FixingRules → Named → List Pair
layers_faults t rules fixing [] = []
layers_faults t rules fixing (l ∷ ls) = under (name l.0) (layer_faults t rules fixing l.1) ++ layers_faults t rules fixing ls

abbrev pub layers_if_object : TopologyParts → MapRules → FixingRules → Option Members → List Pair
layers_if_object t rules fixing None = here WrongKind
layers_if_object t rules fixing (Some ms) = layers_faults t rules fixing (members_in_order ms)

-- the faults of `objects` [TopoJSON, 2.1.5; own]
abbrev pub objects_faults : TopologyParts → MapRules → FixingRules → Json → List Pair
objects_faults t rules fixing j = layers_if_object t rules fixing (as_object j)

-- the faults of `objects`, or of the only object that is read, which has to be there; others are not looked at then
abbrev pub chosen_faults : TopologyParts → MapRules → FixingRules → Option (List ℕ) → Json → List Pair
chosen_faults t rules fixing None j = objects_faults t rules fixing j
chosen_faults t rules fixing (Some n) j = object_faults (member_faults n (layer_faults t rules fixing) j) (as_object j)

-- ---- meaning

-- a layer by its name
abbrev pub IsNamedLayer : TopologyParts → MapRules → List ℕ × Json → TopologyLayer → Type 0
IsNamedLayer t rules l x = (string_bytes x.name ≡ l.0) × IsLayer t rules l.1 x.features.items

-- the layers one by one
abbrev pub AreNamedLayers : TopologyParts → MapRules → Named → List TopologyLayer → Type 0
AreNamedLayers t rules [] [] = Unit {0}
AreNamedLayers t rules [] (x ∷ xs) = ⊥
AreNamedLayers t rules (l ∷ ls) [] = ⊥
AreNamedLayers t rules (l ∷ ls) (x ∷ xs) = IsNamedLayer t rules l x × AreNamedLayers t rules ls xs

-- the layers of `objects`
pub record AreLayers (t : TopologyParts) (rules : MapRules) (j : Json) (xs : List TopologyLayer) : Type 0 where
  pub members : Members
  pub is : Some members ≡ as_object j
  pub each : AreNamedLayers t rules (members_in_order members) xs

-- the layer of that name alone
pub record IsOnlyLayer (t : TopologyParts) (rules : MapRules) (n : List ℕ) (j : Json) (xs : List TopologyLayer) : Type 0 where
  pub value : Json
  pub there : get n j ≡ Some value
  pub layer : TopologyLayer
  pub only : xs ≡ layer ∷ []
  pub is : IsNamedLayer t rules (n, value) layer

-- the layers of `objects`, or the only one that is read
abbrev pub AreChosenLayers : TopologyParts → MapRules → Option (List ℕ) → Json → List TopologyLayer → Type 0
AreChosenLayers t rules None j xs = AreLayers t rules j xs
AreChosenLayers t rules (Some n) j xs = IsOnlyLayer t rules n j xs

-- names and values that are borrowed
abbrev pub seen_named : List (Bor (List ℕ) × Bor (Value Global)) → Named
seen_named = map (λ l. (l.0.now, value_view l.1.now))
