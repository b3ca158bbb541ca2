use Rattle.fixing.proofs.ProvedLaws.{loops_are_simple, loops_keep_odd_uses}
use Rattle.fixing.proofs.laws.loops_are_simple.Goals as goal

pub returns-clause-simple : goal.returns-clause-simple
returns-clause-simple c = loops_are_simple

pub returns-clause-odd_uses : goal.returns-clause-odd_uses
returns-clause-odd_uses c = loops_keep_odd_uses
