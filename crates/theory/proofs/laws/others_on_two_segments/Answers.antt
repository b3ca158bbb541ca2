use Rattle.theory.proofs.ProvedLaws.{others_on_two_segments}
use Rattle.theory.proofs.laws.others_on_two_segments.Goals as goal

pub returns : goal.returns
returns c d = others_on_two_segments
