use Rattle.std.proofs.Common.{rules}
use Rattle.std.specs.Ordering.{is_lt}
use Rattle.std.proofs.lemmas.List.Sorted.{answers_always, ranks_by}
use Rattle.shapes.specs.Order.{feature_cmp}
use Rattle.shapes.specs.OrderLaws.{feature_cmp_total}
use Rattle.query.specs.declared.members.Member.{Member}
use Rattle.query.proofs.members.sort_members.Goals as goal

pub returns : goal.returns
returns c = record {
  permutation = c.sort_unstable_by.ensures.permutation;
  sorted = c.sort_unstable_by.ensures.sorted (λ p q. is_lt (feature_cmp p.feature q.feature)) (ranks_by feature_cmp_total (λ (p : Member). p.feature))
      (answers_always _ _ _ (λ f a r g h. search rules));
}
