use Rattle.attributes.proofs.Order.{ascending_attributes}
use Rattle.attributes.proofs.laws.faults_ascend.Goals as goal

pub returns : goal.returns
returns c = ascending_attributes
