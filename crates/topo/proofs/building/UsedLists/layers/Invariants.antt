use Rattle.std.proofs.Common.{◌≡◌, ◌++◌}
use Rattle.std.specs.Map.{values_of}
use Rattle.topo.specs.Taken.{layers_taken}
use Rattle.topo.proofs.building.UsedLists.layers.Given as goal

abbrev pub invariant-loop-layer : goal.invariant-loop-layer
invariant-loop-layer l = l.layers.items ++ layers_taken (values_of l.layer-iterator) l.self ≡ layers_taken (values_of l.initial.layer-iterator) l.fn.self
