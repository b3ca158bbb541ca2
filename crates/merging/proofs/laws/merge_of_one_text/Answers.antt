use Rattle.merging.proofs.MergedTexts.{merge_of_one_text}
use Rattle.merging.proofs.laws.merge_of_one_text.Goals as goal

pub returns : goal.returns
returns c = merge_of_one_text
