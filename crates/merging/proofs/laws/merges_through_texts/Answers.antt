use Rattle.merging.proofs.ThroughTexts.{merges_through_texts}
use Rattle.merging.proofs.laws.merges_through_texts.Goals as goal

pub returns : goal.returns
returns c = merges_through_texts
