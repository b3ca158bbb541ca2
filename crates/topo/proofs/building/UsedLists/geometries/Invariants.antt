use Rattle.std.proofs.Common.{◌≡◌, ◌++◌}
use Rattle.topo.specs.Taken.{features_left, geometries_taken}
use Rattle.topo.proofs.building.UsedLists.geometries.Given as goal

abbrev pub invariant-loop-feature : goal.invariant-loop-feature
invariant-loop-feature l = record {
  geometries : l.geometries.items ++ geometries_taken l.feature-iterator l.self ≡ geometries_taken l.initial.feature-iterator l.fn.self;
  left : features_left l.feature-iterator l.self ≡ features_left l.initial.feature-iterator l.fn.self;
}
