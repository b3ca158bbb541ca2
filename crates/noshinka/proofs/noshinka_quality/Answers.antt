-- What was made is in the room, or why nothing was made.
use Rattle.noshinka.proofs.Ending.{ends}
use Rattle.noshinka.proofs.noshinka_quality.Goals as goal

pub returns : goal.returns
returns c = ends _ _ c.quality.result _ _ _ c.quality.ensures.made c.quality.ensures.refused c.answer.ensures.done c.answer.ensures.refused
