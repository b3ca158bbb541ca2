-- The canonical text of a feature map on a grid.
use Rattle.std.specs.Prelude.{ℕ, List}
use Rattle.grid.specs.Place.{Transform}
use Rattle.shapes.specs.Maps.{Layers}
use Rattle.topo.specs.OfMap.{the_topology}
use Rattle.topo_io.specs.TopologyText.{topology_text}

-- the text of the map's topology on the grid [TopoJSON, 2; spelling own]
abbrev pub canon : Transform → Layers → List ℕ
canon g m = topology_text (the_topology g m)
