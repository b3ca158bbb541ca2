use Rattle.std.proofs.Common.{◌++◌, ◌+◌, ◌∷◌, ap, drop, length, map, subst, sym, take, ◌∙◌, ◌≤◌}
use Rattle.std.proofs.lemmas.List.{drop_all}
use Rattle.lines.proofs.Dropping.{drop_item}
use Rattle.compare.specs.Quality.Found.{places_at, places_of}
use Rattle.compare.specs.Quality.Near.{Ascend, near_pairs, near_to}
use Rattle.compare.proofs.QualityLemmas.Nearness.{left_ascends}
use Rattle.compare.proofs.QualityLemmas.Walking.{recorded_more, take_few, take_most}
use Rattle.compare.proofs.quality.pairs.first_near.Goals as goal

pub add_near-requires-clause-ascend : goal.add_near-requires-clause-ascend
add_near-requires-clause-ascend c =
    let is = drop_item c.args.vertices.now c.loop-number.number c.index-vertices-number.result c.loop-number-test.true c.index-vertices-number.is in
    subst (λ l. Ascend (c.index-vertices-number.result ∷ l)) (sym c.split_at.ensures.back) (subst Ascend is (left_ascends c.args.vertices.now c.loop-number.number c.requires))

pub loop-number-preserved : goal.loop-number-preserved
loop-number-preserved c =
    let is = drop_item c.args.vertices.now c.loop-number.number c.index-vertices-number.result c.loop-number-test.true c.index-vertices-number.is in
    let made =
    c.in_ok-add_near.ensures
    ∙ ap (λ l. take c.args.most (c.loop-number.first.items ++ map (places_at c.index-vertices-number.result) (near_to c.args.steps c.index-vertices-number.result l))) c.split_at.ensures.back in
    record {
      kept =
          recorded_more c.args.most c.args.steps c.index-vertices-number.result (drop c.loop-number.number c.args.vertices.now) (drop (c.loop-number.number + 1) c.args.vertices.now)
          c.loop-number.first.items c.add_near.new.places.items is made ∙ c.loop-number.invariant.kept;
      few =
          subst (λ l. length l ≤ c.args.most) (sym made)
          (take_most c.args.most (c.loop-number.first.items
          ++ map (places_at c.index-vertices-number.result) (near_to c.args.steps c.index-vertices-number.result (drop (c.loop-number.number + 1) c.args.vertices.now))));
    }

pub returns : goal.returns
returns c =
    take_few c.args.most c.loop-number.first.items (map places_of (near_pairs c.args.steps (drop c.loop-number.number c.args.vertices.now)))
    (ap (λ l. map places_of (near_pairs c.args.steps l)) (drop_all c.loop-number.number c.args.vertices.now c.loop-number-test.false)) c.loop-number.invariant.few
    ∙ c.loop-number.invariant.kept
