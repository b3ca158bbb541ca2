-- What was made is in the room, or why nothing was made.
use Rattle.noshinka.proofs.Ending.{ends}
use Rattle.noshinka.proofs.noshinka_back.Goals as goal

pub returns : goal.returns
returns c = ends _ _ c.back.result _ _ _ c.back.ensures.made c.back.ensures.refused c.answer.ensures.done c.answer.ensures.refused
