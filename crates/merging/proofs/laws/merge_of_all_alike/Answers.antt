use Rattle.merging.proofs.MergedTexts.{merge_of_all_alike}
use Rattle.merging.proofs.laws.merge_of_all_alike.Goals as goal

pub returns : goal.returns
returns c = merge_of_all_alike
