use Rattle.std.proofs.Common.{rules}
use Rattle.refine.proofs.cut.layer_with.Goals as goal

pub returns : goal.returns
returns c = search rules
