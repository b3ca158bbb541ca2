use Rattle.attributes.proofs.Worth.{integer_worth}
use Rattle.attributes.proofs.laws.integers_are_worth.Goals as goal

pub returns : goal.returns
returns c = integer_worth
