use Rattle.merging.proofs.AlikeLemmas.{plans_alike}
use Rattle.merging.proofs.laws.plans_alike.Goals as goal

pub returns : goal.returns
returns c = plans_alike
