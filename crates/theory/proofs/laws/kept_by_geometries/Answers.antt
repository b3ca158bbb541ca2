use Rattle.theory.proofs.HealingProved.{kept_by_geometries}
use Rattle.theory.proofs.laws.kept_by_geometries.Goals as goal

pub returns : goal.returns
returns c d = kept_by_geometries
