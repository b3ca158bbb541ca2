use Rattle.attributes.proofs.Printing.{stay_back}
use Rattle.attributes.proofs.laws.properties_stay_back.Goals as goal

pub returns : goal.returns
returns c = stay_back
