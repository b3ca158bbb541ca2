use Rattle.theory.proofs.ProvedLaws.{junctions_only_grow}
use Rattle.theory.proofs.laws.junctions_only_grow.Goals as goal

pub returns : goal.returns
returns c d = junctions_only_grow
