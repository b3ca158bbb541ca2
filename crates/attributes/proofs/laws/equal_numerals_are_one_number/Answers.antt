use Rattle.attributes.proofs.Worth.{one_id, one_number}
use Rattle.attributes.proofs.laws.equal_numerals_are_one_number.Goals as goal

pub returns-clause-value : goal.returns-clause-value
returns-clause-value c = one_number

pub returns-clause-id : goal.returns-clause-id
returns-clause-id c = one_id
