use Rattle.numerals.proofs.Wholes.{equal_numerals_are_whole_alike}
use Rattle.numerals.proofs.laws.equal_numerals_are_whole_alike.Goals as goal

pub returns : goal.returns
returns c = equal_numerals_are_whole_alike
