use Rattle.std.proofs.Common.{◌≡◌, ◌++◌, drop, map}
use Rattle.topo.specs.Rewritten.{geometry_rewritten}
use Rattle.normalize.proofs.copies.geometries_copied.Given as goal

abbrev pub invariant-loop-geometry : goal.invariant-loop-geometry
invariant-loop-geometry g l =
    l.made.items ++ map (geometry_rewritten (g.L.NewLists.line_of l.fn.lists) (g.L.NewLists.ring_of l.fn.lists)) (drop l.geometry-index l.fn.geometries)
    ≡ map (geometry_rewritten (g.L.NewLists.line_of l.fn.lists) (g.L.NewLists.ring_of l.fn.lists)) l.fn.geometries
