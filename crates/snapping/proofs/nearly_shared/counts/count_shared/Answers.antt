use Rattle.std.proofs.Common.{ap, arith, rules, drop, length, ◌+◌, ◌<◌, ◌^◌}
use Rattle.std.proofs.lemmas.List.{drop_all}
use Rattle.lines.proofs.Dropping.{drop_item}
use Rattle.compare.proofs.QualityLemmas.Walking.{at_most_one}
use Rattle.snapping.specs.NearlyShared.Shared.{has_two, shared}
use Rattle.snapping.proofs.NearlySharedLemmas.Sharing.{shared_few, shared_next}
use Rattle.snapping.proofs.nearly_shared.counts.count_shared.Goals as goal

pub overflow_add-count : goal.overflow_add-count
overflow_add-count c =
    let l : length c.args.vertices.now < 2 ^ 63 = search rules in
    let few = shared_few c.args.vertices.now in
    let one = at_most_one (has_two c.index-vertices-number.result.uses.now) in
    omega (arith, l, few, one, c.one_if_shared-count.ensures, c.loop-number.invariant)

pub loop-number-preserved : goal.loop-number-preserved
loop-number-preserved c =
    let is = drop_item c.args.vertices.now c.loop-number.number c.index-vertices-number.result c.loop-number-test.true c.index-vertices-number.is in
    let more = shared_next c.index-vertices-number.result (drop c.loop-number.number c.args.vertices.now) (drop (c.loop-number.number + 1) c.args.vertices.now) is in
    omega (arith, more, c.one_if_shared-count.ensures, c.loop-number.invariant)

pub returns : goal.returns
returns c =
    let e = ap (λ l. length (shared l)) (drop_all c.loop-number.number c.args.vertices.now c.loop-number-test.false) in omega (arith, e, c.loop-number.invariant)
