use Rattle.std.proofs.Common.{◌≡◌, ◌++◌, map}
use Rattle.std.specs.Option.{option_map}
use Rattle.lines.specs.Seen.{vertices_of}
use Rattle.fixing.specs.Left.{all_counted, all_left}
use Rattle.fixing.specs.Polygons.{polygon_counted, polygons_left}
use Rattle.fixing.proofs.polygons.fix_polygons.Given as goal

-- what was left so far and what is left of the others are what is left of all
abbrev pub invariant-loop-polygon : goal.invariant-loop-polygon
invariant-loop-polygon l = record {
  left : all_left (polygons_left l.rules) l.fn.polygons.items
      ≡ option_map (λ more. map (map vertices_of) l.fixed.items ++ more) (all_left (polygons_left l.rules) l.polygon-iterator.rest.items);
  counted : all_counted (polygon_counted l.rules) l.polygon-iterator.rest.items l.fixes ≡ all_counted (polygon_counted l.rules) l.fn.polygons.items l.fn.fixes;
}
