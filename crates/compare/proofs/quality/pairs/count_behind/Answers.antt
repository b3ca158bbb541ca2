use Rattle.std.proofs.Common.{ap, arith, rules, length, subst, sym, ◌∙◌, ◌∷◌, ◌<◌, ◌^◌}
use Rattle.arcs.proofs.Merged.{emptied}
use Rattle.compare.specs.Quality.Near.{Ascend, are_near, near_to}
use Rattle.compare.proofs.QualityLemmas.Nearness.{all_past}
use Rattle.compare.proofs.QualityLemmas.Walking.{at_most_one, met_length, near_few}
use Rattle.compare.proofs.quality.pairs.count_behind.Goals as goal

pub returns-then-is_past : goal.returns-then-is_past
returns-then-is_past c =
    let none =
    ap (near_to c.args.steps c.args.one) c.in-Some.ensures.cases.0
    ∙ all_past c.args.steps c.args.one c.in-Some.next.now c.in-Some.rest.now (sym c.is_past.ensures ∙ c.if-is_past.true)
    (subst (λ l. Ascend (c.args.one ∷ l)) c.in-Some.ensures.cases.0 c.loop-next.invariant.ascend) in
    let e = ap length none in
    let few = near_few c.args.steps c.args.one c.args.behind.now in
    record { count = omega (arith, e, c.loop-next.invariant.counted); few = omega (arith, e, few, c.loop-next.invariant.counted) }

pub overflow_add-count : goal.overflow_add-count
overflow_add-count c =
    let l : length c.args.behind.now < 2 ^ 63 = search rules in
    let few = near_few c.args.steps c.args.one c.args.behind.now in
    let one = at_most_one (are_near c.args.steps c.args.one c.in-Some.next.now) in
    omega (arith, l, few, one, c.one_if_near-count.ensures, c.loop-next.invariant.counted)

pub loop-next-preserved : goal.loop-next-preserved
loop-next-preserved c =
    let all = subst (λ l. Ascend (c.args.one ∷ l)) c.in-Some.ensures.cases.0 c.loop-next.invariant.ascend in
    let more =
    met_length c.args.steps c.args.one c.in-Some.next.now c.loop-next.left.now c.in-Some.rest.now c.rest_behind-left.result.now c.in-Some.ensures.cases.0
    (c.rest_behind-left.ensures.near all.1) in
    record { counted = omega (arith, more, c.one_if_near-count.ensures, c.loop-next.invariant.counted); ascend = c.rest_behind-left.ensures.ascend (all.0.1, all.1.1) }

pub returns : goal.returns
returns c =
    let e = ap (λ l. length (near_to c.args.steps c.args.one l)) (emptied c.loop-next.left.now c.in_default.ensures.cases) in
    let few = near_few c.args.steps c.args.one c.args.behind.now in
    record { count = omega (arith, e, c.loop-next.invariant.counted); few = omega (arith, e, few, c.loop-next.invariant.counted) }
