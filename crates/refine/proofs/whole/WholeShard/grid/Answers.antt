use Rattle.std.proofs.Common.{refl}
use Rattle.refine.proofs.whole.WholeShard.grid.Goals as goal

pub returns : goal.returns
returns c = refl
