use Rattle.query.proofs.Orders.{each_once}
use Rattle.query.proofs.distinct.keep_each_once.Goals as goal

pub returns : goal.returns
returns c = each_once _ _ _ c.sort_unstable.ensures.permutation c.sort_unstable.ensures.sorted c.dedup.ensures.filtered
