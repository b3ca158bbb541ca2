-- From the fields of a `Topology` to its parts.
use Rattle.topo.specs.Kept.{kept_box}
use Rattle.topo.specs.OfMap.{IsOfSomeMap}
use Rattle.topo.specs.Parts.{TopologyParts}
use Rattle.topo.specs.declared.topology.Topology.TheInside.{Inside}

-- the parts of a topology, from its fields
abbrev pub parts_inside : Inside → TopologyParts
parts_inside a = record { grid = a.grid; arcs = a.arcs; layers = a.layers; bbox = kept_box a.grid a.arcs a.layers a.bbox }

-- each topology is that of some map
abbrev pub IsOfSomeMapInside : Inside → Type 0
IsOfSomeMapInside a = IsOfSomeMap (parts_inside a)
