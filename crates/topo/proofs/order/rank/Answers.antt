use Rattle.std.proofs.Common.{ap, sym}
use Rattle.topo.specs.GeometryOrder.{body_rank}
use Rattle.topo.proofs.order.rank.Goals as goal

pub returns-in-MultiLine : goal.returns-in-MultiLine
returns-in-MultiLine c = ap body_rank (sym c.in-MultiLine.is)
