use Rattle.compare.proofs.Recutting.{all_pairs}
use Rattle.compare.proofs.comparison.Comparison.pairs.Goals as goal

pub returns : goal.returns
returns c = all_pairs (λ v. v.items) c.args.self.now c.deref.result.now c.deref-2.result.now c.pairs_of.result c.deref.ensures.value c.deref-2.ensures.value c.pairs_of.ensures
