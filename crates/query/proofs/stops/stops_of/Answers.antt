use Rattle.query.proofs.Sides.{stops_means}
use Rattle.query.proofs.stops.stops_of.Goals as goal

pub returns : goal.returns
returns c =
    stops_means c.args.arcs.now c.args.chosen.now c.in_ok-ends.ends.items c.sort_ends.new.ends.items c.deref.result.now c.stops_by.result
    c.in_ok-ends.ensures c.sort_ends.ensures.permutation c.sort_ends.ensures.sorted c.deref.ensures.value c.stops_by.ensures
