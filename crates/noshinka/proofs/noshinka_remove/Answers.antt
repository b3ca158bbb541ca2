-- What was made is in the room, or why nothing was made.
use Rattle.noshinka.proofs.Ending.{ends}
use Rattle.noshinka.proofs.noshinka_remove.Goals as goal

pub returns : goal.returns
returns c = ends _ _ c.remove.result _ _ _ c.remove.ensures.removed c.remove.ensures.refused c.answer.ensures.done c.answer.ensures.refused
