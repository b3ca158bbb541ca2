use Rattle.arcs.proofs.EndsAlong.{ends_backward, ends_forward}
use Rattle.arcs.proofs.ends.ends_in.Goals as goal

pub returns-then-reversed : goal.returns-then-reversed
returns-then-reversed c =
    ends_backward c.args.reversed c.args.arc.now c.in-Some.others.now c.in-Some.first.now c.last_from-last.result c.if-reversed.true c.in-Some.ensures.cases.0 c.last_from-last.ensures

pub returns-else-reversed : goal.returns-else-reversed
returns-else-reversed c =
    ends_forward c.args.reversed c.args.arc.now c.in-Some.others.now c.in-Some.first.now c.last_from-last.result c.if-reversed.false c.in-Some.ensures.cases.0 c.last_from-last.ensures
