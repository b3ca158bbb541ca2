use Rattle.std.proofs.Common.{refl}
use Rattle.decimal_maps.specs.Members.{root_start}
use Rattle.decimal_maps.proofs.root.read_root.Goals as goal

pub read_object-requires : goal.read_object-requires
read_object-requires c κs = let rules = c.args.rules.now in ((refl, tt), (c.no_geometry_members.ensures (root_start rules), refl, c.no_parts.ensures rules.grid))
