use Rattle.std.proofs.Common.{refl}
use Rattle.decimal_maps.proofs.geometry.no_geometry_members.Goals as goal

pub returns : goal.returns
returns c on = (c.no_simple_members.ensures on, refl)
