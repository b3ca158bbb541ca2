use Rattle.std.proofs.Common.{◌≡◌, ◌++◌, map}
use Rattle.topo.specs.GeometryOrder.Keys.{keyed}
use Rattle.topo.proofs.geometry_order.sorting.with_keys.Given as goal

abbrev pub invariant-loop-geometry : goal.invariant-loop-geometry
invariant-loop-geometry l =
    l.made.items ++ map (keyed l.fn.view.arcs.now.arcs l.fn.view.least.now) l.geometry-iterator.rest.items ≡ map (keyed l.fn.view.arcs.now.arcs l.fn.view.least.now) l.fn.geometries.items
