use Rattle.refine.proofs.JoinedTexts.{joins_are_undone}
use Rattle.refine.proofs.laws.joins_are_undone.Goals as goal

pub returns : goal.returns
returns c = joins_are_undone
