use Rattle.std.proofs.Common.{◌<◌, subst}
use Rattle.normalize.proofs.ArcListsLemmas.Making.{short_trail}
use Rattle.normalize.proofs.arc_lists.summaries.ArcSummary.of.Goals as goal

pub returns-then-count-lt2 : goal.returns-then-count-lt2
returns-then-count-lt2 c = (
  c.position_count-count.ensures,
  λ _. short_trail _ (subst (λ n. n < 2) c.position_count-count.ensures c.if-count-lt2.true),
)
