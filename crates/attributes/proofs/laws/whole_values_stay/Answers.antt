use Rattle.attributes.proofs.Same.{read_value_stays, value_stays}
use Rattle.attributes.proofs.laws.whole_values_stay.Goals as goal

pub returns-clause-text : goal.returns-clause-text
returns-clause-text c = value_stays

pub returns-clause-read : goal.returns-clause-read
returns-clause-read c = read_value_stays
