-- What texts have, and its maps.
use Rattle.std.specs.Prelude.{◌≡◌, ℕ, List, [], ◌∷◌, Some, Bool}
use Rattle.std.specs.Str.{IsUtf8}
use Rattle.json.specs.Json.{Json, document}
use Rattle.decimal_maps.specs.Roots.{IsMap}
use Rattle.decimal_topologies.specs.Roots.{AreTopologyLayers}
use Rattle.rounded_maps.specs.Files.{origin_of}
use Rattle.rounded_maps.specs.Fixed.{IsFixedMap}
use Rattle.rounded_maps.specs.Topologies.{AreLayerMaps, takes_name, topology_rules}
use Rattle.rounded_maps.specs.declared.content.Content.{Content}
use Rattle.rounded_maps.specs.declared.content.Content.TheVariants.{Map, Topology}
use Rattle.rounded_maps.specs.declared.files.Origin.{Origin}
use Rattle.rounded_maps.specs.declared.map.RoundedMap.{RoundedMap}
use Rattle.rounded_maps.specs.declared.rounding.RoundingRules.{RoundingRules}

-- what a tree has: the features of GeoJSON, or the layers of a topology
abbrev pub HasContent : RoundingRules → Json → Content → Type 0
HasContent rules j (Map features) = IsMap rules.map j features.items
HasContent rules j (Topology layers) = AreTopologyLayers (topology_rules rules) j layers.items

-- what a text has, which is JSON in UTF-8
pub record IsContent (rules : RoundingRules) (text : List ℕ) (content : Content) : Type 0 where
  pub utf8 : IsUtf8 text
  pub tree : Json
  pub json : document text ≡ Some tree
  pub has : HasContent rules tree content

-- the only map of a file, which gives it no name
pub record IsOnlyMap (place : ℕ) (m : RoundedMap) (maps : List RoundedMap) (origins : List Origin) : Type 0 where
  pub only : maps ≡ m ∷ []
  pub from : origins ≡ origin_of place ∷ []

-- the maps of what a text has, each feature fixed
abbrev pub AreMapsOf : RoundingRules → ℕ → Bool → Content → List RoundedMap → List Origin → Type 0
AreMapsOf rules place named (Map features) maps origins = (m : RoundedMap) × (IsFixedMap rules.fixing rules.numbers features.items m × IsOnlyMap place m maps origins)
AreMapsOf rules place named (Topology layers) maps origins = AreLayerMaps rules place (takes_name named layers.items) layers.items maps origins
