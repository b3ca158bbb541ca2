use Rattle.lines.specs.PositionFilter.{may_hold}
use Rattle.lines.proofs.Marking.{all_marked, one_marked}
use Rattle.lines.proofs.position_filter.PositionFilter.mark_all.Goals as goal

pub loop-position-preserved : goal.loop-position-preserved
loop-position-preserved c =
    one_marked (may_hold c.args.self.now) (may_hold c.loop-position.self) (may_hold c.mark.new.self) c.args.positions.now c.loop-position.position-index
    c.position-item.result c.loop-position-test.true c.position-item.is c.mark.ensures c.loop-position.invariant

pub returns : goal.returns
returns c =
    all_marked (may_hold c.args.self.now) (may_hold c.loop-position.self) c.args.positions.now c.loop-position.position-index c.loop-position-test.false
    c.loop-position.invariant
