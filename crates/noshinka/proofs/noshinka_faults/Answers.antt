-- What was made is in the room, or why nothing was made.
use Rattle.noshinka.proofs.Ending.{ends}
use Rattle.noshinka.proofs.noshinka_faults.Goals as goal

pub returns : goal.returns
returns c = ends _ _ c.faults.result _ _ _ c.faults.ensures.listed c.faults.ensures.refused c.answer.ensures.done c.answer.ensures.refused
