use Rattle.std.proofs.Common.{◌≡◌}
use Rattle.fixing.specs.Left.{all_counted, ring_counted}
use Rattle.fixing.specs.Polygons.{polygon_counted, polygon_kept, with_holes}
use Rattle.fixing.specs.Seen.{polygons_in}
use Rattle.fixing.proofs.polygons.fix_rings.Given as goal

-- the polygons with the other holes are what is left
abbrev pub invariant-loop-hole : goal.invariant-loop-hole
invariant-loop-hole l = record {
  left : with_holes l.rules l.hole-iterator.rest.items (polygons_in l.polygons.items) ≡ polygon_kept l.rules l.fn.rings.items;
  counted : all_counted (ring_counted l.rules) l.hole-iterator.rest.items l.fixes ≡ polygon_counted l.rules l.fn.rings.items l.fn.fixes;
}
