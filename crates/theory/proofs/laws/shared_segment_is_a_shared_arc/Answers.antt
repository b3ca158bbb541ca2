use Rattle.theory.proofs.ProvedLaws.{shared_segment_is_a_shared_arc}
use Rattle.theory.proofs.laws.shared_segment_is_a_shared_arc.Goals as goal

pub returns : goal.returns
returns c d = shared_segment_is_a_shared_arc
