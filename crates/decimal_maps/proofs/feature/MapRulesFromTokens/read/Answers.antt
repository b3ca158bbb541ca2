use Rattle.std.proofs.Common.{refl}
use Rattle.decimal_maps.proofs.feature.MapRulesFromTokens.read.Goals as goal

pub read_object-requires : goal.read_object-requires
read_object-requires c κs = ((refl, tt), (refl, c.no_parts.ensures c.args.self.now.grid))
