use Rattle.std.proofs.Common.{◌≡◌, ◌++◌, drop, map, true}
use Rattle.std.specs.Option.{option_map}
use Rattle.lines.specs.Seen.{vertices_of}
use Rattle.fixing.specs.Polygons.{rings_made}
use Rattle.fixing.proofs.polygons.rings_of.Given as goal

-- the rings so far and those of the other lists are those of all
abbrev pub invariant-loop-list : goal.invariant-loop-list
invariant-loop-list l =
    option_map (λ more. map vertices_of l.rings.items ++ more) (rings_made l.rewind l.is_outer (drop l.list-index l.lists)) ≡ rings_made l.rewind true l.lists
