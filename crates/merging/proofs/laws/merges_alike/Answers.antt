use Rattle.merging.proofs.MergedTexts.{merges_alike}
use Rattle.merging.proofs.laws.merges_alike.Goals as goal

pub returns : goal.returns
returns c = merges_alike
