use Rattle.std.proofs.Common.{ap}
use Rattle.compare.specs.Indexed.{occurrence_after}
use Rattle.compare.proofs.index.occurrence_with.Goals as goal

pub returns-in-Some : goal.returns-in-Some
returns-in-Some c = ap (occurrence_after c.args.number) c.in-Some.ensures.value

pub returns-in-None : goal.returns-in-None
returns-in-None c = ap (occurrence_after c.args.number) c.in-None.ensures.value
