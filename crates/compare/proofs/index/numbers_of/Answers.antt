use Rattle.lines.proofs.Dropping.{item_at}
use Rattle.compare.proofs.Tables.{known_none}
use Rattle.compare.proofs.index.numbers_of.Goals as goal

pub loop-number-init : goal.loop-number-init
loop-number-init c = known_none c.args.geometries.now c.new-numbers.result c.new-numbers.ensures.empty

pub loop-number-preserved : goal.loop-number-preserved
loop-number-preserved c =
    c.in_ok-add_geometry.ensures c.args.geometries.now
    (item_at c.args.geometries.now c.loop-number.number c.index-geometries-number.result c.loop-number-test.true c.index-geometries-number.is) c.loop-number.invariant
