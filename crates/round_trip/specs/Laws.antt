-- What is written of a topology is read back as its map.
use Rattle.std.specs.Prelude.{◌≡◌, ◌≤◌, ◌^◌, length}
use Rattle.grid.specs.Place.{IsTransform}
use Rattle.shapes.specs.Fitting.{MapFits}
use Rattle.shapes.specs.Maps.{Layers}
use Rattle.topo.specs.OfMap.{IsOf, seen_parts}
use Rattle.topo.specs.Parts.{TopologyParts}
use Rattle.topo_io.specs.TopologyText.{topology_text}
use Rattle.topo_io.specs.Means.{Means}

-- the topology in memory of a map: its grid is within its limits, and 64 bits number its arcs
pub record IsHeldOf (m : Layers) (t : TopologyParts) : Type 0 where
  pub of_map : IsOf m t
  pub limits : IsTransform t.grid
  pub few : length t.arcs.arcs ≤ 2 ^ 63

-- the text of the topology of a map that fits its grid is accepted, and means that grid and that map
abbrev pub WrittenTopologiesAreRead : Type 0
WrittenTopologiesAreRead = (m : Layers) (t : TopologyParts) → IsHeldOf m t → MapFits t.grid m → Means (topology_text (seen_parts t)) t.grid m

-- maps whose topologies have one text are one map, and their grids are one grid
abbrev pub OneMapOfAText : Type 0
OneMapOfAText =
    (m n : Layers) (t u : TopologyParts) → IsHeldOf m t → IsHeldOf n u → MapFits t.grid m → MapFits u.grid n
    → topology_text (seen_parts t) ≡ topology_text (seen_parts u) → (t.grid ≡ u.grid) × (m ≡ n)
