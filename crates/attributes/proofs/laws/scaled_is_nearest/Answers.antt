use Rattle.attributes.proofs.Scaling.{scaled_nearest}
use Rattle.attributes.proofs.laws.scaled_is_nearest.Goals as goal

pub returns : goal.returns
returns c = scaled_nearest
