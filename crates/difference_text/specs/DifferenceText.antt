-- What differs between two topologies.
use Rattle.std.specs.Prelude.{◌≡◌, ◌↔◌, ◌⊎◌, ◌==◌, ◌&&◌, ◌-◌, ◌^◌, ⊤, ℕ, Bool, List, Option, Some, None, count_by, is_none, is_some, min, slice_get, sum_by, vec_len, map as map_list}
use Rattle.std.specs.Cmp.Lexicographic.{slice_cmp}
use Rattle.std.specs.FinMap as map
use Rattle.std.specs.List.Sorted.{IsStrictlySortedBy}
use Rattle.std.specs.Ordering.{nat_cmp}
use Rattle.shapes.specs.Maps.{Layers, features_at}
use Rattle.shapes.specs.Sets as set
use Rattle.shapes.specs.declared.feature.Feature.{Feature}
use Rattle.theory.specs.Lists.{Has, Pairwise}
use Rattle.compare.specs.Compared.{IsDifferenceByProperty, IsPairOf, feature_id}
use Rattle.compare.specs.Differences.{IsDifference}
use Rattle.compare.specs.declared.comparison.Comparison.{Comparison}
use Rattle.compare.specs.declared.difference.Changed.{Changed}
use Rattle.compare.specs.declared.difference.LayerDifference.{LayerDifference}
use Rattle.compare.specs.declared.pairs.LayerPair.{LayerPair}
use Rattle.query.specs.Mesh.{IsMissing}
use Rattle.difference_text.specs.declared.difference.ChangeCounts.{ChangeCounts}
use Rattle.difference_text.specs.declared.difference.FeatureChange.{FeatureChange}
use Rattle.difference_text.specs.declared.difference.LayerChanges.{LayerChanges}
use Rattle.difference_text.specs.declared.difference.Single.{Single}

-- the maps are equal in the layer of the name, or altogether where no name is given
abbrev pub AgreeAt : Option (List ℕ) → Layers → Layers → Type 0
AgreeAt None m n = m ≡ n
AgreeAt (Some name) m n = map.get m name ≡ map.get n name

-- a layer is named that neither map has
abbrev pub LackLayer : Option (List ℕ) → Layers → Layers → Type 0
LackLayer layer m n = IsMissing m layer × IsMissing n layer

-- features pair by a property where one is given, and else by their ids
abbrev pub IsDifferenceAsked : Option (List ℕ) → List Feature → List Feature → LayerDifference → Type 0
IsDifferenceAsked None = IsDifference feature_id
IsDifferenceAsked (Some property) = IsDifferenceByProperty property

-- the number of a feature that one layer has alone
abbrev pub single_number : Single → ℕ
single_number s = s.number

-- the numbers of two features that pair
abbrev pub changed_numbers : FeatureChange → Changed
changed_numbers c = record { old = c.old; new = c.new }

-- the features by their numbers are those that differ between the two lists
pub record AreChanges (key : Option (List ℕ)) (olds news : List Feature) (l : LayerChanges) : Type 0 where
  pub difference : LayerDifference
  pub is : IsDifferenceAsked key olds news difference
  pub removed : map_list single_number l.removed.items ≡ difference.removed.items
  pub added : map_list single_number l.added.items ≡ difference.added.items
  pub changed : map_list changed_numbers l.changed.items ≡ difference.changed.items

-- o is the place of the name among the names, None where it is none of them
abbrev pub IsPlaceAmong : List (List ℕ) → List ℕ → Option ℕ → Type 0
IsPlaceAmong names q None = ¬ Has q names
IsPlaceAmong names q (Some k) = slice_get names k ≡ Some q

-- what differs between the layers of a name, by the numbers of layers and features in their order
pub record AreChangesOf (key : Option (List ℕ)) (m n : Layers) (q : List ℕ) (l : LayerChanges) : Type 0 where
  pub old : IsPlaceAmong (map.keys m) q l.layers.old
  pub new : IsPlaceAmong (map.keys n) q l.layers.new
  pub changes : AreChanges key (set.items (features_at m q)) (set.items (features_at n q)) l

-- the name is the given one, or any where none is given
abbrev pub IsNamed : Option (List ℕ) → List ℕ → Type 0
IsNamed None q = ⊤
IsNamed (Some name) q = q ≡ name

-- the names of layers that are asked for and that either map has, in order
pub record AreNamesAsked (layer : Option (List ℕ)) (m n : Layers) (names : List (List ℕ)) : Type 0 where
  pub ascend : IsStrictlySortedBy (slice_cmp nat_cmp) names
  pub exact : (q : List ℕ) → Has q names ↔ (IsNamed layer q × (Has q (map.keys m) ⊎ Has q (map.keys n)))

-- the pairs of layers of these names
pub record ArePairsAsked (layer : Option (List ℕ)) (m n : Layers) (c : Comparison) (ps : List LayerPair) : Type 0 where
  pub names : List (List ℕ)
  pub asked : AreNamesAsked layer m n names
  pub pairs : Pairwise (IsPairOf c) names ps

-- what differs between the layers of each of these names
pub record AreAllChanges (layer key : Option (List ℕ)) (m n : Layers) (ls : List LayerChanges) : Type 0 where
  pub names : List (List ℕ)
  pub asked : AreNamesAsked layer m n names
  pub changes : Pairwise (AreChangesOf key m n) names ls

-- both layers are there, and no feature was removed, added or changed
abbrev pub is_same_layer : LayerChanges → Bool
is_same_layer l = is_some l.layers.old && (is_some l.layers.new && (vec_len l.removed == 0 && (vec_len l.added == 0 && vec_len l.changed == 0)))

-- a number, or the greatest of 64 bits where it is greater
abbrev pub capped : ℕ → ℕ
capped n = min n (2 ^ 64 - 1)

-- how much differs: the features that were added, removed and changed, and the layers that only the new or only the old topology has
unfoldable pub counts_of : List LayerChanges → ChangeCounts
counts_of layers = record {
  added = capped (sum_by (λ l. vec_len l.added) layers);
  removed = capped (sum_by (λ l. vec_len l.removed) layers);
  changed = capped (sum_by (λ l. vec_len l.changed) layers);
  layers_added = count_by (λ l. is_none l.layers.old) layers;
  layers_removed = count_by (λ l. is_none l.layers.new) layers;
}
