use Rattle.merging.proofs.MergedTexts.{one_canon}
use Rattle.merging.proofs.laws.one_canon.Goals as goal

pub returns : goal.returns
returns c = one_canon
