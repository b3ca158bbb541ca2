use Rattle.std.proofs.Common.{subst}
use Rattle.std.specs.List.{AllByRecursion}
use Rattle.topo.specs.Features.{HasFeature}
use Rattle.topo.proofs.LayerLawsLemmas.MergedSteps.{first_is}
use Rattle.refine.proofs.cut.order_to_first_geometry.Goals as goal

pub order-requires-clause-other_there : goal.order-requires-clause-other_there
order-requires-clause-other_there c =
    let e = first_is c.args.others.now.items c.in-Some.other.now c.in-Some.ensures.item.3.0 c.in-Some.ensures.lookup in
    (subst (AllByRecursion (HasFeature c.args.arcs.now.arcs)) e c.requires.others_there).0
