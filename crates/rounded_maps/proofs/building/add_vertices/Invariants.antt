use Rattle.std.proofs.Common.{◌≡◌, ◌+◌, ◌++◌, drop, length}
use Rattle.snapping.specs.NearlyShared.Uses.{shapes_uses}
use Rattle.theory.specs.Lists.{gathered}
use Rattle.rounded_maps.specs.Joined.{feature_shapes}
use Rattle.rounded_maps.proofs.building.add_vertices.Given as goal

-- the vertices so far, with those of the other features, are those of all
abbrev pub invariant-loop-feature : goal.invariant-loop-feature
invariant-loop-feature l = record {
  uses : l.vertices.uses.items ++ shapes_uses l.vertices.features (gathered feature_shapes (drop l.feature-index l.map.features.items)) ≡ l.fn.vertices.uses.items ++ shapes_uses l.fn.vertices.features (gathered feature_shapes l.map.features.items);
  features : l.vertices.features + length (gathered feature_shapes (drop l.feature-index l.map.features.items)) ≡ l.fn.vertices.features + length (gathered feature_shapes l.map.features.items);
}
