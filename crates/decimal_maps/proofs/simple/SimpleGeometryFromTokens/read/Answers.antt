use Rattle.std.proofs.Common.{refl}
use Rattle.decimal_maps.proofs.simple.SimpleGeometryFromTokens.read.Goals as goal

pub read_object-requires : goal.read_object-requires
read_object-requires c κs = ((refl, tt), c.no_simple_members-members.ensures (record { grid = c.args.self.now.grid; counted = c.args.count.now }))
