use Rattle.std.proofs.Common.{◌+◌, drop}
use Rattle.std.proofs.lemmas.List.{drop_all}
use Rattle.lines.proofs.Dropping.{drop_item}
use Rattle.snapping.proofs.NearlySharedLemmas.Tables.{all_recorded, one_more_recorded}
use Rattle.snapping.proofs.nearly_shared.neighbours.neighbours_of.Goals as goal

pub loop-one-preserved : goal.loop-one-preserved
loop-one-preserved c =
    one_more_recorded c.args.pairs.now (drop c.loop-one.one-index c.args.pairs.now) (drop (c.loop-one.one-index + 1) c.args.pairs.now)
    c.loop-one-item.result.0 c.loop-one-item.result.1 c.loop-one.near c.add.new.near c.add-in-loop-one.new.near
    (drop_item c.args.pairs.now c.loop-one.one-index c.loop-one-item.result c.loop-one-test.true c.loop-one-item.is)
    c.in_ok-add.ensures c.in_ok-add-2.ensures c.loop-one.invariant

pub returns : goal.returns
returns c =
    all_recorded c.args.pairs.now (drop c.loop-one.one-index c.args.pairs.now) c.loop-one.near (drop_all c.loop-one.one-index c.args.pairs.now c.loop-one-test.false)
    c.loop-one.invariant
