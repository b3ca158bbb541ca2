use Rattle.std.proofs.Common.{◌≡◌}
use Rattle.fixing.specs.Polygons.{put_holes}
use Rattle.fixing.specs.Seen.{polygons_in}
use Rattle.fixing.proofs.polygons.put_holes.Given as goal

abbrev pub invariant-loop-hole : goal.invariant-loop-hole
invariant-loop-hole l =
    put_holes l.hole-iterator.rest.items (polygons_in l.polygons.items) ≡ put_holes l.fn.holes.items (polygons_in l.fn.polygons.items)
