use Rattle.std.proofs.Common.{◌∙◌, ap}
use Rattle.refine.specs.Borrowed.{all_borrowed}
use Rattle.refine.proofs.remove.remove_topology.Goals as goal

pub removal_of-requires : goal.removal_of-requires
removal_of-requires c = (let (r, e) = c.in_ok-left.ensures.some in (r, ap all_borrowed c.deref.ensures.value ∙ e))
