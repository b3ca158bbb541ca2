-- What holds of the map that a topology is of.
use Rattle.shapes.specs.Maps.{Layers}
use Rattle.topo.specs.OfMap.{IsOf}
use Rattle.topo.specs.Parts.{TopologyParts}

-- the map that the topology is of has the property [TopoJSON, 2.1]
abbrev pub ForItsMap : TopologyParts → (Layers → Type 0) → Type 0
ForItsMap t P = (m : Layers) → IsOf m t → P m
