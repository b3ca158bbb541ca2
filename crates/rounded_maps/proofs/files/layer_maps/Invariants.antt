use Rattle.std.proofs.Common.{◌++◌, List}
use Rattle.rounded_maps.specs.Topologies.{AreLayerMaps}
use Rattle.rounded_maps.specs.declared.files.Origin.{Origin}
use Rattle.rounded_maps.specs.declared.map.RoundedMap.{RoundedMap}
use Rattle.rounded_maps.proofs.files.layer_maps.Given as goal

-- the maps so far, with those of the other layers, are those of all
abbrev pub invariant-loop-layer : goal.invariant-loop-layer
invariant-loop-layer l = (more : List RoundedMap) (others : List Origin) → AreLayerMaps l.rules l.place l.renamed l.layer-iterator.rest.items more others
    → AreLayerMaps l.rules l.place l.renamed l.fn.layers.items (l.read.maps.items ++ more) (l.read.origins.items ++ others)
