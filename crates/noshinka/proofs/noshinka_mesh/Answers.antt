-- What was made is in the room, or why nothing was made.
use Rattle.noshinka.proofs.Ending.{ends}
use Rattle.noshinka.proofs.noshinka_mesh.Goals as goal

pub returns : goal.returns
returns c = ends _ _ c.mesh.result _ _ _ c.mesh.ensures.borders c.mesh.ensures.refused c.answer.ensures.done c.answer.ensures.refused
