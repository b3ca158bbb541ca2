-- The law that merged texts are read back.
use Rattle.std.specs.Prelude.{◌≡◌, ℕ, List}
use Rattle.merging.specs.Leaves.{leaves}
use Rattle.merging.specs.declared.plan.Plan.{Plan}
use Rattle.topo.specs.Parts.{TopologyParts}
use Rattle.topo_io.specs.Means.{Means}
use Rattle.round_trip.specs.Laws.{IsHeldOf}
use Rattle.merging.specs.Merge.{IsMergeOf}
use Rattle.merging.specs.Plans.{union_at}

-- a merged text is accepted, and means the union of the named maps, where memory holds the topology of the union
abbrev pub MergedTextsMeanUnions : Type 0
MergedTextsMeanUnions =
    (texts : List (List ℕ)) (p : Plan) (t : List ℕ) (x : IsMergeOf texts (leaves p) t) (u : TopologyParts) → IsHeldOf (union_at x.maps (leaves p)) u → u.grid ≡ x.grid →
    Means t x.grid (union_at x.maps (leaves p))
