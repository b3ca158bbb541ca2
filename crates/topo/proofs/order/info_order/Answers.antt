use Rattle.std.proofs.Common.{◌∙◌}
use Rattle.std.specs.Ordering.{ordering_then}
use Rattle.topo.proofs.FeatureOrder.{id_derived_is}
use Rattle.topo.proofs.order.info_order.Goals as goal

pub returns : goal.returns
returns c = c.then.ensures ∙ (λ i. ordering_then ((c.cmp.ensures ∙ id_derived_is c.args.geometry.now.id c.args.other.now.id) i) (c.cmp-2.ensures i))
