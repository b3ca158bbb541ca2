use Rattle.validate.proofs.NodedArcs.{disorder_means, order_means}
use Rattle.validate.proofs.noding.arcs_in_order.Goals as goal

pub returns-then-is_rising : goal.returns-then-is_rising
returns-then-is_rising c = order_means c.args.arcs.now c.is_rising.result c.each_forward.result c.is_rising.ensures c.each_forward.ensures c.if-is_rising.true

pub returns-else-is_rising : goal.returns-else-is_rising
returns-else-is_rising c = disorder_means c.args.arcs.now c.is_rising.result c.is_rising.ensures c.if-is_rising.false
