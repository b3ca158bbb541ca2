use Rattle.refine.proofs.EditsUndone.{undone}
use Rattle.refine.proofs.laws.joins_are_undone_by_edits.Goals as goal

pub returns : goal.returns
returns c = undone
