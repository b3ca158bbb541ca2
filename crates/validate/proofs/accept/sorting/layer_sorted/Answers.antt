use Rattle.validate.proofs.AcceptLemmas.Sorted.{layer_made}
use Rattle.validate.proofs.accept.sorting.layer_sorted.Goals as goal

pub returns-clause-sorted : goal.returns-clause-sorted
returns-clause-sorted c =
    layer_made c.args.arcs.now.arcs c.args.layer c.new.result c.into_parts-name.result.0 c.into_parts-name.result.1.items c.in_ok-sorted.sorted.items c.new.ensures
    c.into_parts-name.ensures.name c.into_parts-name.ensures.geometries c.in_ok-sorted.ensures.sorted
