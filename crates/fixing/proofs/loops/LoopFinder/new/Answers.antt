use Rattle.fixing.proofs.LoopSteps.{begun}
use Rattle.fixing.proofs.loops.LoopFinder.new.Goals as goal

pub returns-clause-left : goal.returns-clause-left
returns-clause-left c = begun c.new.result.items c.new-2.result.items c.new.ensures.items c.new-2.ensures.items
