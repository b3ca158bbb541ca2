use Rattle.std.proofs.Common.{◌∙◌, ap}
use Rattle.std.proofs.lemmas.Result.{IfOk-weaker}
use Rattle.std.specs.Cmp.Lexicographic.{nat_list_cmp_total}
use Rattle.shapes.specs.Union.{union, union_empty}
use Rattle.shapes.specs.OrderLaws.{feature_cmp_total, same_feature, same_text}
use Rattle.shapes.proofs.feature_map.FeatureMap.copy.Goals as goal

pub returns : goal.returns
returns c =
    IfOk-weaker c.union.result _ _
    (λ m e. e ∙ ap (union c.args.self.now) c.new-nothing.ensures ∙ union_empty nat_list_cmp_total same_text feature_cmp_total same_feature c.args.self.now)
    c.union.ensures
