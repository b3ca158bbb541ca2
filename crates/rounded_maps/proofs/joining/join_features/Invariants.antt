use Rattle.std.proofs.Common.{◌++◌, List, length}
use Rattle.faults.specs.declared.fault.Fault.{Fault}
use Rattle.snapping.specs.NearlyShared.Joined.{target_in}
use Rattle.rounded_maps.specs.Joined.{AreJoined}
use Rattle.rounded_maps.specs.Unjoined.{HasRefusedFeature}
use Rattle.rounded_maps.specs.declared.map.RoundedFeature.{RoundedFeature}
use Rattle.rounded_maps.proofs.joining.join_features.Given as goal

-- what was joined so far, with the others joined, is all joined
abbrev pub invariant-loop-feature : goal.invariant-loop-feature
invariant-loop-feature l = record {
  joined : (more : List RoundedFeature) → AreJoined l.rules (target_in l.clusters) l.feature-iterator.rest.items more → AreJoined l.rules (target_in l.clusters) l.fn.features.items (l.joined.items ++ more);
  refused : (fault : Fault) → HasRefusedFeature l.rules (target_in l.clusters) (length l.joined.items) l.feature-iterator.rest.items fault → HasRefusedFeature l.rules (target_in l.clusters) 0 l.fn.features.items fault;
}
