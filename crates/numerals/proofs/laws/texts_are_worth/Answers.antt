use Rattle.numerals.proofs.Printed.{texts_are_worth}
use Rattle.numerals.proofs.laws.texts_are_worth.Goals as goal

pub returns : goal.returns
returns c = texts_are_worth
