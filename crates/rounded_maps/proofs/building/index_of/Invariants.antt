use Rattle.std.proofs.Common.{◌≡◌, ◌++◌, drop}
use Rattle.snapping.specs.NearlyShared.Uses.{shapes_uses}
use Rattle.theory.specs.Lists.{gathered}
use Rattle.rounded_maps.specs.Joined.{shapes_in}
use Rattle.rounded_maps.proofs.building.index_of.Given as goal

-- the vertices so far, with those of the other maps, are those of all
abbrev pub invariant-loop-map : goal.invariant-loop-map
invariant-loop-map l = l.vertices.uses.items ++ shapes_uses l.vertices.features (gathered shapes_in (drop l.map-index l.maps)) ≡ shapes_uses 0 (gathered shapes_in l.maps)
