use Rattle.std.proofs.Common.{◌≡◌, ◌++◌, map}
use Rattle.std.specs.Vec.Iter.{into_iter_items}
use Rattle.topo.specs.Rewritten.{geometry_rewritten}
use Rattle.topo.proofs.rewritten.geometries_rewritten.Given as goal

abbrev pub invariant-loop-geometry : goal.invariant-loop-geometry
invariant-loop-geometry g l =
    l.made.items ++ map (geometry_rewritten (g.L.NewLists.line_of l.fn.lists) (g.L.NewLists.ring_of l.fn.lists)) (into_iter_items l.geometry-iterator)
    ≡ map (geometry_rewritten (g.L.NewLists.line_of l.fn.lists) (g.L.NewLists.ring_of l.fn.lists)) l.fn.geometries.items
