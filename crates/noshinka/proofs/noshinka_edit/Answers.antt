-- What was made is in the room, or why nothing was made.
use Rattle.noshinka.proofs.Ending.{ends}
use Rattle.noshinka.proofs.noshinka_edit.Goals as goal

pub returns : goal.returns
returns c = ends _ _ c.edit.result _ _ _ c.edit.ensures.made c.edit.ensures.refused c.answer.ensures.done c.answer.ensures.refused
