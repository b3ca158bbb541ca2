use Rattle.std.proofs.Common.{map, string_bytes}
use Rattle.std.specs.FinMap as finite
use Rattle.shapes.specs.Maps.{Layers}
use Rattle.rounded_maps.specs.Built.{AreLayersWith}
use Rattle.rounded_maps.proofs.building.layers_of.Given as goal

-- the layers so far, with the other maps too, are those of all
abbrev pub invariant-loop-map : goal.invariant-loop-map
invariant-loop-map l = (after : Layers) → AreLayersWith l.layers (map string_bytes l.names.rest.items) l.map-iterator.rest.items after → AreLayersWith finite.empty (map string_bytes l.fn.names.items) l.fn.maps.items after
