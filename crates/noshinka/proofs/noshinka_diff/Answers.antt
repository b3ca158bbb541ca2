-- What was made is in the room, or why nothing was made.
use Rattle.noshinka.proofs.Ending.{ends}
use Rattle.noshinka.proofs.noshinka_diff.Goals as goal

pub returns : goal.returns
returns c = ends _ _ c.diff.result _ _ _ c.diff.ensures.made c.diff.ensures.refused c.answer.ensures.done c.answer.ensures.refused
