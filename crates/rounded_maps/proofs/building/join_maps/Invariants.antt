use Rattle.std.proofs.Common.{ℕ, ◌++◌, List, length}
use Rattle.faults.specs.declared.fault.Fault.{Fault}
use Rattle.snapping.specs.NearlyShared.Joined.{target_in}
use Rattle.rounded_maps.specs.Joined.{AreJoinedMaps}
use Rattle.rounded_maps.specs.Unjoined.{HasUnjoinedMap}
use Rattle.rounded_maps.specs.declared.map.RoundedMap.{RoundedMap}
use Rattle.rounded_maps.proofs.building.join_maps.Given as goal

-- what was joined so far, with the others joined, is all joined
abbrev pub invariant-loop-map : goal.invariant-loop-map
invariant-loop-map l = record {
  joined : (more : List RoundedMap) → AreJoinedMaps l.rules (target_in l.clusters) l.map-iterator.rest.items more → AreJoinedMaps l.rules (target_in l.clusters) l.fn.maps.items (l.joined.items ++ more);
  refused : (place : ℕ) (fault : Fault) → HasUnjoinedMap l.rules (target_in l.clusters) (length l.joined.items) l.map-iterator.rest.items place fault → HasUnjoinedMap l.rules (target_in l.clusters) 0 l.fn.maps.items place fault;
}
