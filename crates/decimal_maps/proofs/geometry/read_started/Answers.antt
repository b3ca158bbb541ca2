use Rattle.std.proofs.Common.{refl}
use Rattle.decimal_maps.proofs.geometry.read_started.Goals as goal

pub read_members-requires : goal.read_members-requires
read_members-requires c κs = ((refl, tt), c.no_geometry_members-members.ensures (record { grid = c.args.grid.now; counted = c.new.result }))
