use Rattle.std.proofs.Common.{◌∙◌}
use Rattle.std.proofs.lemmas.Result.{IfOk-weaker}
use Rattle.shapes.specs.Union.{set_union_commutes}
use Rattle.shapes.specs.Maps.{set_of}
use Rattle.shapes.specs.OrderLaws.{feature_cmp_total, same_feature}
use Rattle.shapes.proofs.layer.merge_sets.Goals as goal

pub returns-then-len : goal.returns-then-len
returns-then-len c = IfOk-weaker c.append_few.result _ _ (λ s e. e ∙ set_union_commutes feature_cmp_total same_feature (set_of c.args.those) (set_of c.args.these)) c.append_few.ensures
