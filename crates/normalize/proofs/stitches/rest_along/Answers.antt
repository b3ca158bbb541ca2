use Rattle.normalize.proofs.Behind.{behind_arc}
use Rattle.normalize.proofs.stitches.rest_along.Goals as goal

pub returns : goal.returns
returns c =
    behind_arc c.args.table.now.arcs c.args.used c.args.left.now c.of_arc-run.result c.len-count.result c.of_arc-run.ensures c.len-count.ensures c.if-count-eq0.false
    c.if-count-left.false (c.is_along.ensures.0 c.if-not-is_along.false)
