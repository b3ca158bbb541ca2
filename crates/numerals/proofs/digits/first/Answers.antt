use Rattle.fast_float.proofs.Rows.{AllDigits-take}
use Rattle.numerals.proofs.Places.{first_read}
use Rattle.numerals.proofs.digits.first.Goals as goal

pub capped_number-value-requires-clause-digits : goal.capped_number-value-requires-clause-digits
capped_number-value-requires-clause-digits c = AllDigits-take _ _ c.requires.whole

pub capped_number-value-requires-2-clause-digits : goal.capped_number-value-requires-2-clause-digits
capped_number-value-requires-2-clause-digits c = AllDigits-take _ _ c.requires.fraction

pub returns : goal.returns
returns c =
    first_read c.args.whole.now c.args.fraction.now c.args.kept _ _ _ _ _ c.min-of_whole.ensures c.min-of_fraction.ensures c.capped_number-value.ensures
    c.capped_number-value-2.ensures c.with_zeros.ensures
