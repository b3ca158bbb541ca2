use Rattle.theory.proofs.ProvedLaws.{junction_by_segments}
use Rattle.theory.proofs.laws.junction_by_segments.Goals as goal

pub returns : goal.returns
returns c d = junction_by_segments
