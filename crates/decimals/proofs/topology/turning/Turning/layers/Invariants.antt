use Rattle.std.proofs.Common.{◌≡◌, map, take}
use Rattle.decimals.specs.Topology.LayersBack.{layer_back}
use Rattle.decimals.proofs.topology.turning.Turning.layers.Given as goal

abbrev pub invariant-loop-layer : goal.invariant-loop-layer
invariant-loop-layer l = l.made.items ≡ map (layer_back l.self.rules l.self.areas.items) (take l.layer-index l.layers)
