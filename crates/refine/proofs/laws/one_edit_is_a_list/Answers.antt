use Rattle.refine.proofs.EditsUndone.{one_edit}
use Rattle.refine.proofs.laws.one_edit_is_a_list.Goals as goal

pub returns : goal.returns
returns c = one_edit
