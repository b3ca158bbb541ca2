use Rattle.std.proofs.Common.{ap, arith, rules, drop, length, subst, sym, ◌∷◌, ◌+◌, ◌<◌, ◌^◌}
use Rattle.std.proofs.lemmas.List.{drop_all}
use Rattle.lines.proofs.Dropping.{drop_item}
use Rattle.compare.specs.Quality.Near.{Ascend, near_pairs, near_to}
use Rattle.compare.proofs.QualityLemmas.Nearness.{left_ascends}
use Rattle.compare.proofs.QualityLemmas.Walking.{pairs_few, pairs_length}
use Rattle.compare.proofs.quality.pairs.count_near.Goals as goal

pub count_behind-requires : goal.count_behind-requires
count_behind-requires c =
    let is = drop_item c.args.vertices.now c.loop-number.number c.index-vertices-number.result c.loop-number-test.true c.index-vertices-number.is in
    subst (λ l. Ascend (c.index-vertices-number.result ∷ l)) (sym c.split_at.ensures.back) (subst Ascend is (left_ascends c.args.vertices.now c.loop-number.number c.requires))

pub overflow_add-count : goal.overflow_add-count
overflow_add-count c =
    let l : length c.args.vertices.now < 2 ^ 63 = search rules in
    let few = pairs_few c.args.steps c.args.vertices.now l in
    let is = drop_item c.args.vertices.now c.loop-number.number c.index-vertices-number.result c.loop-number-test.true c.index-vertices-number.is in
    let here = pairs_length c.args.steps c.index-vertices-number.result (drop c.loop-number.number c.args.vertices.now) (drop (c.loop-number.number + 1) c.args.vertices.now) is in
    let back = ap (λ l. length (near_to c.args.steps c.index-vertices-number.result l)) c.split_at.ensures.back in
    omega (arith, l, few, here, back, c.count_behind.ensures.count, c.loop-number.invariant)

pub loop-number-preserved : goal.loop-number-preserved
loop-number-preserved c =
    let is = drop_item c.args.vertices.now c.loop-number.number c.index-vertices-number.result c.loop-number-test.true c.index-vertices-number.is in
    let here = pairs_length c.args.steps c.index-vertices-number.result (drop c.loop-number.number c.args.vertices.now) (drop (c.loop-number.number + 1) c.args.vertices.now) is in
    let back = ap (λ l. length (near_to c.args.steps c.index-vertices-number.result l)) c.split_at.ensures.back in
    omega (arith, here, back, c.count_behind.ensures.count, c.loop-number.invariant)

pub returns : goal.returns
returns c =
    let e = ap (λ l. length (near_pairs c.args.steps l)) (drop_all c.loop-number.number c.args.vertices.now c.loop-number-test.false) in omega (arith, e, c.loop-number.invariant)
