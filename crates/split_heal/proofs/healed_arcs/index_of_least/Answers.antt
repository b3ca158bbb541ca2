use Rattle.split_heal.proofs.LeastVertex.{least_found}
use Rattle.split_heal.proofs.healed_arcs.index_of_least.Goals as goal

pub returns : goal.returns
returns c = least_found c.iter.result c.args.ring.now c.position_min.result c.unwrap_or.result c.iter.ensures.rest c.position_min.ensures.runs c.unwrap_or.ensures
