use Rattle.topo_io.proofs.AnyOrder.{in_any_order}
use Rattle.topo_io.proofs.laws.in_any_order.Goals as goal

pub returns : goal.returns
returns c = in_any_order
