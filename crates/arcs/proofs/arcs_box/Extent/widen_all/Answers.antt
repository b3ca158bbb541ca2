use Rattle.arcs.specs.Extents.{within}
use Rattle.arcs.proofs.Extents.{widened}
use Rattle.lines.proofs.Marking.{all_marked, one_marked}
use Rattle.arcs.proofs.arcs_box.Extent.widen_all.Goals as goal

pub loop-position-preserved : goal.loop-position-preserved
loop-position-preserved c =
    one_marked (within c.args.self.now) (within c.loop-position.self) (within c.widen.new.self) c.args.positions.now c.loop-position.position-index
    c.position-item.result c.loop-position-test.true c.position-item.is
    (widened c.loop-position.self c.widen.new.self c.position-item.result c.widen.ensures.west c.widen.ensures.south c.widen.ensures.east c.widen.ensures.north)
    c.loop-position.invariant

pub returns : goal.returns
returns c =
    all_marked (within c.args.self.now) (within c.loop-position.self) c.args.positions.now c.loop-position.position-index c.loop-position-test.false
    c.loop-position.invariant
