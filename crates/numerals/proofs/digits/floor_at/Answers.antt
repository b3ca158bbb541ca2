use Rattle.std.proofs.Common.{◌≡◌, ◌^◌, ◌++◌, min}
use Rattle.numerals.specs.Floor.{first_digits}
use Rattle.fast_float.proofs.Rows.{AllDigits-append}
use Rattle.numerals.proofs.Places.{floor_kept}
use Rattle.numerals.proofs.digits.floor_at.Goals as goal

pub returns-clause-value : goal.returns-clause-value
returns-clause-value c =
    let p = c.args.numeral.now in
    let first : c.first.result ≡ min (first_digits (p.whole ++ p.fraction) c.kept_of.result) (10 ^ 30) = rw (c.whole.ensures.value, c.fraction.ensures.value) at c.first.ensures in
    floor_kept p c.args.places c.kept_of.result c.first.result c.kept_of.ensures first

pub returns-clause-digits : goal.returns-clause-digits
returns-clause-digits c =
    AllDigits-append c.args.numeral.now.whole c.args.numeral.now.fraction (rw c.whole.ensures.value at c.whole.ensures.digits)
    (rw c.fraction.ensures.value at c.fraction.ensures.digits)
