use Rattle.std.proofs.Common.{rules}
use Rattle.refine.proofs.whole.WholeShard.from_map.Goals as goal

pub returns-clause-map : goal.returns-clause-map
returns-clause-map c = search rules
