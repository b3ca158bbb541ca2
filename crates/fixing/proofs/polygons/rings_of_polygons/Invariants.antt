use Rattle.std.proofs.Common.{◌≡◌, ◌++◌, map}
use Rattle.lines.specs.Seen.{vertices_of}
use Rattle.fixing.specs.Polygons.{polygons_made}
use Rattle.fixing.specs.Seen.{polygons_in}
use Rattle.fixing.proofs.polygons.rings_of_polygons.Given as goal

abbrev pub invariant-loop-polygon : goal.invariant-loop-polygon
invariant-loop-polygon l =
    map (map vertices_of) l.made.items ++ polygons_made l.rewind (polygons_in l.polygon-iterator.rest.items) ≡ polygons_made l.rewind (polygons_in l.fn.polygons.items)
