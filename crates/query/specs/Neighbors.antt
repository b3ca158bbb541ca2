-- Which features of a layer are neighbours.
use Rattle.std.specs.Prelude.{◌≡◌, ◌↔◌, ℕ, List, Some, length, slice_get}
use Rattle.std.specs.List.Sorted.{IsStrictlyIncreasing}
use Rattle.chains.specs.Seen.{form_of}
use Rattle.shapes.specs.declared.feature.Feature.{Feature}
use Rattle.theory.specs.Lists.{Has}
use Rattle.theory.specs.Users.{ShareSegment}

-- the two features have a segment in common [topojson-client (neighbors)]
abbrev pub SharesSegment : Feature → Feature → Type 0
SharesSegment f g = ShareSegment (form_of f.shape) (form_of g.shape)

-- the features at two different indexes share a segment [topojson-client (neighbors)]
pub record AreNeighbors (fs : List Feature) (i j : ℕ) : Type 0 where
  pub apart : ¬ (i ≡ j)
  pub one : Feature
  pub other : Feature
  pub at : slice_get fs i ≡ Some one
  pub beside : slice_get fs j ≡ Some other
  pub share : SharesSegment one other

-- one list for each feature, in order: the indexes of its neighbours, ascending [topojson-client (neighbors)]
pub record ListsNeighbors (fs : List Feature) (lists : List (List ℕ)) : Type 0 where
  pub each : length lists ≡ length fs
  pub ascend : (i : ℕ) (js : List ℕ) → slice_get lists i ≡ Some js → IsStrictlyIncreasing js
  pub exact : (i : ℕ) (js : List ℕ) → slice_get lists i ≡ Some js → (j : ℕ) → Has j js ↔ AreNeighbors fs i j
