use Rattle.compare.proofs.Recutting.{at_pair}
use Rattle.compare.proofs.comparison.Comparison.layer.Goals as goal

pub returns : goal.returns
returns c = at_pair c.args.self.now c.args.name.now c.pair.result c.difference.result c.pair.ensures c.difference.ensures
