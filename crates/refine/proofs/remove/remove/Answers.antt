use Rattle.std.proofs.Common.{◌∙◌, ap}
use Rattle.refine.specs.Borrowed.{all_borrowed}
use Rattle.refine.proofs.remove.remove.Goals as goal

pub removal_of-requires : goal.removal_of-requires
removal_of-requires c = (c.args.removed.now, ap all_borrowed c.deref.ensures.value ∙ c.in_ok-left.ensures)
