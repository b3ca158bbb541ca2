-- What was made is in the room, or why nothing was made.
use Rattle.noshinka.proofs.Ending.{ends}
use Rattle.noshinka.proofs.noshinka_info.Goals as goal

pub returns : goal.returns
returns c = ends _ _ c.info.result _ _ _ c.info.ensures.made c.info.ensures.refused c.answer.ensures.done c.answer.ensures.refused
