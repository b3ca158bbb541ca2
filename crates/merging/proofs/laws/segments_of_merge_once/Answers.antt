use Rattle.merging.proofs.MergedTexts.{segments_of_merge_once}
use Rattle.merging.proofs.laws.segments_of_merge_once.Goals as goal

pub returns : goal.returns
returns c = segments_of_merge_once
