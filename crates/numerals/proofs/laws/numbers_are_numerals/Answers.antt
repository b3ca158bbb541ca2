use Rattle.numerals.proofs.Numbers.{numbers_are_numerals}
use Rattle.numerals.proofs.laws.numbers_are_numerals.Goals as goal

pub returns : goal.returns
returns c = numbers_are_numerals
