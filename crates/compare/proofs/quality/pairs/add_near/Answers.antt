use Rattle.std.proofs.Common.{◌∙◌, ◌∷◌, ◌++◌, ap, arith, map, subst, sym, take}
use Rattle.arcs.proofs.Merged.{emptied}
use Rattle.compare.specs.Quality.Found.{places_at}
use Rattle.compare.specs.Quality.Near.{Ascend, are_near, near_to}
use Rattle.compare.proofs.QualityLemmas.Nearness.{all_past}
use Rattle.compare.proofs.QualityLemmas.Walking.{few_more, met_places, take_few, take_full}
use Rattle.compare.proofs.quality.pairs.add_near.Goals as goal

pub loop-next-preserved : goal.loop-next-preserved
loop-next-preserved c =
    let all = subst (λ l. Ascend (c.args.one ∷ l)) c.in-Some.ensures.cases.0 c.loop-next.invariant.ascend in
    record {
      kept =
          ap (λ l. l ++ map (places_at c.args.one) (near_to c.args.steps c.args.one c.rest_behind-left.result.now)) c.in_ok-add_if_near.ensures
          ∙ met_places c.args.steps c.args.one c.in-Some.next.now c.loop-next.left.now c.in-Some.rest.now c.rest_behind-left.result.now c.in-Some.ensures.cases.0
          (c.rest_behind-left.ensures.near all.1) c.loop-next.places.items
          ∙ c.loop-next.invariant.kept;
      ascend = c.rest_behind-left.ensures.ascend (all.0.1, all.1.1);
      few =
          few_more (are_near c.args.steps c.args.one c.in-Some.next.now) c.loop-next.places.items c.add_if_near.new.places.items (places_at c.args.one c.in-Some.next.now) c.args.most
          c.in_ok-add_if_near.ensures (omega (arith, c.len.ensures, c.if-len-most.false));
    }

pub returns : goal.returns
returns c =
    take_few c.args.most c.loop-next.places.items (map (places_at c.args.one) (near_to c.args.steps c.args.one c.loop-next.left.now))
    (ap (λ l. map (places_at c.args.one) (near_to c.args.steps c.args.one l)) (emptied c.loop-next.left.now c.in_default.ensures.cases)) c.loop-next.invariant.few
    ∙ ap (take c.args.most) c.loop-next.invariant.kept

pub returns-then-len-most : goal.returns-then-len-most
returns-then-len-most c =
    take_full c.args.most c.loop-next.places.items (map (places_at c.args.one) (near_to c.args.steps c.args.one c.loop-next.left.now))
    (omega (arith, c.loop-next.invariant.few, c.len.ensures, c.if-len-most.true)) ∙ ap (take c.args.most) c.loop-next.invariant.kept

pub returns-then-is_past : goal.returns-then-is_past
returns-then-is_past c =
    let none =
    ap (near_to c.args.steps c.args.one) c.in-Some.ensures.cases.0
    ∙ all_past c.args.steps c.args.one c.in-Some.next.now c.in-Some.rest.now (sym c.is_past.ensures ∙ c.if-is_past.true)
    (subst (λ l. Ascend (c.args.one ∷ l)) c.in-Some.ensures.cases.0 c.loop-next.invariant.ascend) in
    take_few c.args.most c.loop-next.places.items (map (places_at c.args.one) (near_to c.args.steps c.args.one c.loop-next.left.now))
    (ap (map (places_at c.args.one)) none) c.loop-next.invariant.few ∙ ap (take c.args.most) c.loop-next.invariant.kept
