-- Files that are topologies, and the maps of their layers.
use Rattle.std.specs.Prelude.{◌≡◌, ℕ, List, [], ◌∷◌, Option, Some, None, Bool, true, false, if◌then◌else◌, ⊤}
use Rattle.std.specs.Str.{IsUtf8, is_utf8}
use Rattle.json.specs.Json.{Json, document}
use Rattle.decimal_topologies.specs.Roots.{AreTopologyLayers, is_topology, topology_faults}
use Rattle.decimal_topologies.specs.declared.objects.TopologyLayer.{TopologyLayer}
use Rattle.decimal_topologies.specs.declared.rules.TopologyRules.{TopologyRules}
use Rattle.faults.specs.Fault.{Pair}
use Rattle.rounded_maps.specs.Fixed.{IsFixedMap}
use Rattle.rounded_maps.specs.Rounded.{faults_under, text_faults}
use Rattle.rounded_maps.specs.Sequences.{without_mark}
use Rattle.rounded_maps.specs.declared.files.Origin.{Origin}
use Rattle.rounded_maps.specs.declared.map.RoundedMap.{RoundedMap}
use Rattle.rounded_maps.specs.declared.rounding.RoundingRules.{RoundingRules}

-- how a topology is read
abbrev pub topology_rules : RoundingRules → TopologyRules
topology_rules rules = record { map = rules.map; layer = rules.layer }

-- the faults of a text with this tree: those of a topology, or else of GeoJSON
abbrev pub tree_faults : RoundingRules → List ℕ → Option Json → List Pair
tree_faults rules text None = text_faults rules text
tree_faults rules text (Some j) = if is_topology j then topology_faults (topology_rules rules) rules.fixing j else text_faults rules text

-- the faults of a text that the rules don't fix, be it a topology or GeoJSON
abbrev pub faults_of_either : RoundingRules → List ℕ → List Pair
faults_of_either rules text = tree_faults rules text (if is_utf8 text then document text else None)

-- the faults of a file that the rules don't fix; the texts of a sequence are GeoJSON
abbrev pub file_faults : RoundingRules → Bool → List ℕ → List Pair
file_faults rules true bytes = faults_under rules true bytes
file_faults rules false bytes = faults_of_either rules (without_mark bytes)

-- whether the caller's name counts for the layers: where it is asked, and there is one alone
abbrev pub takes_name : Bool → List TopologyLayer → Bool
takes_name named [] = false
takes_name named (l ∷ []) = named
takes_name named (l ∷ k ∷ ls) = false

-- the name of a layer, unless the caller's counts
abbrev pub kept_unless : {X : Type 0} → Bool → X → Option X
kept_unless true n = None
kept_unless false n = Some n

-- the map of a layer: its features, each fixed; it is from the file at that place, by the layer's name unless it gets another
pub record IsLayerMap (rules : RoundingRules) (place : ℕ) (renamed : Bool) (layer : TopologyLayer) (m : RoundedMap) (o : Origin) : Type 0 where
  pub fixed : IsFixedMap rules.fixing rules.numbers layer.features.items m
  pub from : o ≡ record { text = place; layer = kept_unless renamed layer.name }

-- the map of each layer, in their order
abbrev pub AreLayerMaps : RoundingRules → ℕ → Bool → List TopologyLayer → List RoundedMap → List Origin → Type 0
AreLayerMaps rules place renamed [] [] [] = ⊤
AreLayerMaps rules place renamed [] [] (o ∷ os) = ⊥
AreLayerMaps rules place renamed [] (m ∷ ms) os = ⊥
AreLayerMaps rules place renamed (l ∷ ls) [] os = ⊥
AreLayerMaps rules place renamed (l ∷ ls) (m ∷ ms) [] = ⊥
AreLayerMaps rules place renamed (l ∷ ls) (m ∷ ms) (o ∷ os) = IsLayerMap rules place renamed l m o × AreLayerMaps rules place renamed ls ms os

-- the maps of the layers of a topology; the only one may get the caller's name
pub record AreTopologyMaps (rules : RoundingRules) (place : ℕ) (named : Bool) (j : Json) (maps : List RoundedMap) (origins : List Origin) : Type 0 where
  pub layers : List TopologyLayer
  pub read : AreTopologyLayers (topology_rules rules) j layers
  pub are : AreLayerMaps rules place (takes_name named layers) layers maps origins

-- the maps of a text that is a topology
pub record IsTopologyText (rules : RoundingRules) (place : ℕ) (named : Bool) (text : List ℕ) (maps : List RoundedMap) (origins : List Origin) : Type 0 where
  pub utf8 : IsUtf8 text
  pub tree : Json
  pub json : document text ≡ Some tree
  pub are : AreTopologyMaps rules place named tree maps origins
