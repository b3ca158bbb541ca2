-- The topology that a merge of texts answers.
use Rattle.std.specs.Prelude.{ℕ, List}
use Rattle.shapes.specs.Maps.{Layers}
use Rattle.topo.specs.OfMap.{IsOf}
use Rattle.topo.specs.Parts.{TopologyParts}
use Rattle.merging.specs.Merge.{IsUnionOf}

-- the topology is that of the union of the named maps, on the texts' grid
abbrev pub IsTopologyOfUnion : List (List ℕ) → List ℕ → TopologyParts → Type 0
IsTopologyOfUnion texts is t = (m : Layers) × IsUnionOf texts is t.grid m × IsOf m t
