use Rattle.theory.proofs.ProvedLaws.{body_after_a_recut}
use Rattle.theory.proofs.laws.body_after_a_recut.Goals as goal

pub returns : goal.returns
returns c d = body_after_a_recut
