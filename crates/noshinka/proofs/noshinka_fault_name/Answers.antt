-- What was made is in the room, or why nothing was made.
use Rattle.noshinka.proofs.Ending.{ends}
use Rattle.noshinka.proofs.noshinka_fault_name.Goals as goal

pub returns : goal.returns
returns c = ends _ _ c.fault_name.result _ _ _ c.fault_name.ensures.name c.fault_name.ensures.refused c.answer.ensures.done c.answer.ensures.refused
