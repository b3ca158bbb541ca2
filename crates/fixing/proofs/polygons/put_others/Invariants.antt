use Rattle.std.proofs.Common.{◌≡◌}
use Rattle.fixing.specs.Polygons.{put_others}
use Rattle.fixing.specs.Seen.{polygons_in}
use Rattle.fixing.proofs.polygons.put_others.Given as goal

abbrev pub invariant-loop-ring : goal.invariant-loop-ring
invariant-loop-ring l =
    put_others l.ring-iterator.rest.items (polygons_in l.polygons.items) ≡ put_others l.fn.rings.items (polygons_in l.fn.polygons.items)
