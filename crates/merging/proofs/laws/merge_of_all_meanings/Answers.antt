use Rattle.merging.proofs.MergedTexts.{merge_of_all_meanings}
use Rattle.merging.proofs.laws.merge_of_all_meanings.Goals as goal

pub returns : goal.returns
returns c = merge_of_all_meanings
