use Rattle.fixing.proofs.ProvedLaws.{runs_use_each_segment_once}
use Rattle.fixing.proofs.laws.runs_use_each_segment_once.Goals as goal

pub returns : goal.returns
returns c = runs_use_each_segment_once
