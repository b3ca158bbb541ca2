use Rattle.std.proofs.Common.{◌≡◌, ◌++◌}
use Rattle.fixing.specs.Polygons.{polygons_of}
use Rattle.fixing.specs.Seen.{polygons_in}
use Rattle.fixing.proofs.polygons.polygons_of.Given as goal

abbrev pub invariant-loop-ring : goal.invariant-loop-ring
invariant-loop-ring l = polygons_in l.polygons.items ++ polygons_of l.ring-iterator.rest.items ≡ polygons_of l.fn.rings.items
