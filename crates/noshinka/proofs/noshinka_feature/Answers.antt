-- What was made is in the room, or why nothing was made.
use Rattle.noshinka.proofs.Ending.{ends}
use Rattle.noshinka.proofs.noshinka_feature.Goals as goal

pub returns : goal.returns
returns c = ends _ _ c.feature.result _ _ _ c.feature.ensures.features c.feature.ensures.refused c.answer.ensures.done c.answer.ensures.refused
