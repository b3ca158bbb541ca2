-- The topology of maps, each in the layer of its name.
use Rattle.std.specs.Prelude.{◌≡◌, ◌↔◌, ℕ, List, [], ◌∷◌, map as map_list}
use Rattle.std.specs.FinMap as map
use Rattle.grid.specs.Place.{Transform}
use Rattle.reading.specs.Meant.{AreFeatures}
use Rattle.reading.specs.Plain.{Plain, plain_form, plain_id}
use Rattle.shapes.specs.Maps.{Features, Layers, with_features}
use Rattle.shapes.specs.Parts.{properties_text}
use Rattle.shapes.specs.declared.props.Props.{Props}
use Rattle.shapes.specs.declared.shape.Id.{Id}
use Rattle.shapes.specs.Shapes.{Shape}
use Rattle.theory.specs.Lists.{Has, gathered}
use Rattle.topo.specs.OfMap.{IsOf, IsTopology, seen_parts, the_topology}
use Rattle.topo.specs.Parts.{TopologyParts}
use Rattle.rounded_maps.specs.Equal.{AreEqualIf}
use Rattle.rounded_maps.specs.Files.{AreRounded, File, layer_of}
use Rattle.rounded_maps.specs.Joined.{AreCountsIf, AreJoinedWithin}
use Rattle.rounded_maps.specs.Outcomes.{AreOutcomes}
use Rattle.rounded_maps.specs.declared.building.BuildRules.{BuildRules}
use Rattle.rounded_maps.specs.declared.building.Rounded.{Rounded}
use Rattle.rounded_maps.specs.declared.map.RoundedFeature.{RoundedFeature}
use Rattle.rounded_maps.specs.declared.map.RoundedMap.{RoundedMap}

-- the maps of the files, with vertices joined that are nearly shared where that is asked
pub record AreMaps (rules : BuildRules) (files : List File) (rounded : Rounded) (maps : List RoundedMap) : Type 0 where
  pub read : List RoundedMap
  pub of_files : AreRounded rules.rounding 0 files read rounded.origins.items
  pub joined : AreJoinedWithin rules.rounding.fixing rules.join_distance rounded.clusters read maps

-- what became of these maps, of files of these names
pub record IsReport (rules : BuildRules) (names : List (List ℕ)) (maps : List RoundedMap) (rounded : Rounded) : Type 0 where
  pub outcomes : AreOutcomes maps rounded.outcomes.items
  pub counts : AreCountsIf rules.counts maps rounded.counts
  pub equal : AreEqualIf rules.counts (map_list (layer_of names) rounded.origins.items) maps rounded.equal

-- a feature of one of the shapes, as plain data
abbrev pub plain_of : Id → Props → Shape → Plain
plain_of i p s = record { id = plain_id i; properties = properties_text p; form = plain_form s }

-- the features that a fixed feature stands for
abbrev pub plains_of : RoundedFeature → List Plain
plains_of r = map_list (plain_of r.feature.id r.feature.props) r.feature.shapes.items

-- what is in one of the lists is in the other
abbrev pub HaveSame : {X : Type 0} → List X → List X → Type 0
HaveSame {X} xs ys = (x : X) → Has x xs ↔ Has x ys

-- the features of a map
abbrev pub plain_features : RoundedMap → List Plain
plain_features m = gathered plains_of m.features.items

-- the layers with the features of these maps too, each map with its name: its features are put beside those of that name
abbrev pub AreLayersWith : Layers → List (List ℕ) → List RoundedMap → Layers → Type 0
AreLayersWith before [] ms after = after ≡ before
AreLayersWith before (n ∷ ns) [] after = after ≡ before
AreLayersWith before (n ∷ ns) (m ∷ ms) after =
    (features : Features) × (AreFeatures features (plain_features m) × AreLayersWith (with_features before n features) ns ms after)

-- the topology in memory of the features of maps, each in the layer of its name
pub record IsTopologyOfMaps (grid : Transform) (names : List (List ℕ)) (maps : List RoundedMap) (parts : TopologyParts) : Type 0 where
  pub layers : Layers
  pub of_maps : AreLayersWith map.empty names maps layers
  pub topology : IsTopology grid layers (seen_parts parts)
  pub computed : seen_parts parts ≡ the_topology grid layers
  pub of_map : IsOf layers parts

-- the topology of files, each map in the layer of its name, and what became of them
pub record IsBuilt (rules : BuildRules) (names : List (List ℕ)) (files : List File) (rounded : Rounded) (parts : TopologyParts) : Type 0 where
  pub maps : List RoundedMap
  pub of_files : AreMaps rules files rounded maps
  pub topology : IsTopologyOfMaps rules.grid (map_list (layer_of names) rounded.origins.items) maps parts
  pub report : IsReport rules names maps rounded
