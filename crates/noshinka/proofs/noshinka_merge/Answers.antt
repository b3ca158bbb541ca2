-- What was made is in the room, or why nothing was made.
use Rattle.noshinka.proofs.Ending.{ends}
use Rattle.noshinka.proofs.noshinka_merge.Goals as goal

pub returns : goal.returns
returns c = ends _ _ c.merge.result _ _ _ c.merge.ensures.merged c.merge.ensures.refused c.answer.ensures.done c.answer.ensures.refused
