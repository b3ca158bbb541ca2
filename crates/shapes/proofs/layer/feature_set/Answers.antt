use Rattle.std.proofs.Common.{◌∙◌}
use Rattle.std.proofs.lemmas.Iterator.Adapters.{fact_from_collect, YieldsList-from_vec}
use Rattle.std.proofs.lemmas.Result.{IfOk-at_ok}
use Rattle.std.specs.BTreeSet as sorted
use Rattle.shapes.specs.Order.{feature_cmp}
use Rattle.shapes.proofs.UnionLemmas.{set_collected}
use Rattle.shapes.proofs.layer.feature_set.Goals as goal

pub returns : goal.returns
returns c =
    let given = c.args.features in
    let gives = c.into_iter.ensures in
    let road = YieldsList-from_vec {s = c.into_iter.result} given.items gives.rest (gives.len ∙ given.ok.0) in
    let made = IfOk-at_ok (sorted.IsFromIterResult feature_cmp given.items) c.in_ok-set.was (fact_from_collect (sorted.IsFromIterResult feature_cmp) c.collect.result c.collect.ensures.ran road) in
    set_collected c.in_ok-set.set given.items made
