-- What was found is said, or why nothing was found.
use Rattle.noshinka.proofs.Ending.{verdicts}
use Rattle.noshinka.proofs.noshinka_check.Goals as goal

pub returns : goal.returns
returns c = verdicts _ _ _ c.check.result _ _ _ c.check.ensures.said c.check.ensures.refused c.verdict.ensures.said c.verdict.ensures.refused
