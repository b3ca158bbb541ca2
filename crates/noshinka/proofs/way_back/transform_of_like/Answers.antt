use Rattle.noshinka.proofs.Backs.{like_refusal}
use Rattle.noshinka.proofs.way_back.transform_of_like.Goals as goal

pub returns-in-Err-clause-refused : goal.returns-in-Err-clause-refused
returns-in-Err-clause-refused c = like_refusal c.args.unit.now _ _ c.in_ok-like.ensures c.in-Err.fault c.in-Err.ensures.refused _ c.fault_of_like.ensures _ c.of_text.ensures
