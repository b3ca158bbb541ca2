use Rattle.std.proofs.Common.{◌∙◌, nat_cmp}
use Rattle.std.specs.Ordering.{ordering_then}
use Rattle.topo.proofs.order.kind_order.Goals as goal

pub returns : goal.returns
returns c = c.then.ensures ∙ (λ i. ordering_then (c.info_order.ensures i) ((c.cmp.ensures ∙ (λ j. nat_cmp (c.rank.ensures j) (c.rank-2.ensures j))) i))
