use Rattle.std.proofs.Common.{arith, rules, ap, length, get_or, ◌<◌, ◌^◌, ◌+◌}
use Rattle.lines.proofs.Dropping.{item_at}
use Rattle.compare.proofs.QualityLemmas.Counted.{count_more, count_none, small}
use Rattle.compare.proofs.quality.ids.count_ids.Goals as goal

pub loop-number-init : goal.loop-number-init
loop-number-init c = λ q. count_none c.new-counts.result q c.new-counts.ensures.empty

pub count_id-requires : goal.count_id-requires
count_id-requires c =
    let x = (get_or c.args.geometries.now c.loop-number.number c.index-geometries-number.result).id in
    let l : length c.args.geometries.now < 2 ^ 63 = search rules in
    small c.loop-number.counts x c.args.geometries.now c.loop-number.number (c.loop-number.invariant x) c.loop-number-test.true l

pub loop-number-preserved : goal.loop-number-preserved
loop-number-preserved c = λ q.
    let x = (get_or c.args.geometries.now c.loop-number.number c.index-geometries-number.result).id in
    count_more c.args.geometries.now c.loop-number.number (c.loop-number.number + 1) c.index-geometries-number.result x _ _ q (omega arith)
    (item_at c.args.geometries.now c.loop-number.number c.index-geometries-number.result c.loop-number-test.true c.index-geometries-number.is)
    (ap (λ w. w.id) c.index-geometries-number.is) (c.in_ok-count_id.ensures q) (c.loop-number.invariant q)
