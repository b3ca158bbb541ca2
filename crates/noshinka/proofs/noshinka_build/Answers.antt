-- What was made is in the room, or why nothing was made.
use Rattle.noshinka.proofs.Ending.{ends}
use Rattle.noshinka.proofs.noshinka_build.Goals as goal

pub returns : goal.returns
returns c = ends _ _ c.build.result _ _ _ c.build.ensures.built c.build.ensures.refused c.answer.ensures.done c.answer.ensures.refused
