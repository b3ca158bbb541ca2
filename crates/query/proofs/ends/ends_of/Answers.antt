use Rattle.std.proofs.Common.{drop, get_or, ◌+◌}
use Rattle.std.proofs.lemmas.List.{drop_all, drop_more}
use Rattle.query.proofs.Ending.{done_ends, step_ends}
use Rattle.query.proofs.ends.ends_of.Goals as goal

pub loop-number-preserved : goal.loop-number-preserved
loop-number-preserved c = λ v w.
    step_ends c.loop-number.ends.items c.add_numbered_arc.new.ends.items c.args.arcs.now.arcs (get_or c.args.chosen.now c.loop-number.number-index 0) (drop c.loop-number.number-index c.args.chosen.now)
    (drop (c.loop-number.number-index + 1) c.args.chosen.now) _ v w
    (drop_more c.args.chosen.now c.loop-number.number-index 0 c.loop-number-test.true) (c.in_ok-add_numbered_arc.ensures v w)
    (c.loop-number.invariant v w)

pub returns : goal.returns
returns c = λ v w.
    done_ends c.loop-number.ends.items c.args.arcs.now.arcs (drop c.loop-number.number-index c.args.chosen.now) _ v w
    (drop_all c.loop-number.number-index c.args.chosen.now c.loop-number-test.false) (c.loop-number.invariant v w)
