use Rattle.arcs.proofs.Merged.{emptied}
use Rattle.query.proofs.Sides.{judging_over, judging_starts, judging_step}
use Rattle.query.proofs.stops.stops_by.Goals as goal

pub loop-first-init : goal.loop-first-init
loop-first-init c = λ g. judging_starts c.args.ends.now c.new-stops.result.items c.new-stops.ensures.items g

pub loop-first-preserved : goal.loop-first-preserved
loop-first-preserved c = λ g.
    judging_step c.args.ends.now c.loop-first.left.now c.in-Some.others.now c.in-Some.first.now c.count_of.result c.split_at.result.0.now c.split_at.result.1.now c.sides_of.result
    c.loop-first.stops.items c.add_stop.new.stops.items c.in-Some.ensures.cases.0 c.count_of.ensures.count c.split_at.ensures.front c.split_at.ensures.back c.sides_of.ensures
    c.in_ok-add_stop.ensures (c.loop-first.invariant g)

pub returns : goal.returns
returns c = λ g. judging_over c.args.ends.now c.loop-first.left.now c.loop-first.stops.items (emptied c.loop-first.left.now c.in_default.ensures.cases) (c.loop-first.invariant g)
