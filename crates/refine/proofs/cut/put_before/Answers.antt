use Rattle.std.proofs.Common.{rules}
use Rattle.refine.proofs.cut.put_before.Goals as goal

pub returns-in-Some-Equal-clause-others : goal.returns-in-Some-Equal-clause-others
returns-in-Some-Equal-clause-others c = search rules
