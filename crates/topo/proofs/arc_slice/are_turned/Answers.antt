use Rattle.std.proofs.Common.{◌≡◌, reverse, rules, true}
use Rattle.lines.specs.Pairs.{position_eq}
use Rattle.lines.proofs.Positions.{position_true}
use Rattle.topo.proofs.Runs.{turned_on}
use Rattle.topo.proofs.arc_slice.are_turned.Goals as goal

pub loop-other-preserved : goal.loop-other-preserved
loop-other-preserved c =
    let meant : position_eq c.in-Some.last.now c.other-item.result ≡ true = search rules in
    turned_on (reverse c.args.positions.now ≡ c.args.others.now) c.loop-other.left.now c.in-Some.rest.now c.args.others.now c.loop-other.other-index c.other-item.result c.in-Some.last.now
    c.loop-other-test.true c.other-item.is c.in-Some.ensures.cases.0 (position_true c.in-Some.last.now c.other-item.result meant) c.loop-other.invariant
