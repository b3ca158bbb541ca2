use Rattle.std.proofs.Common.{◌≡◌, ◌^◌, min, sym, ◌∙◌, arith}
use Rattle.std.specs.Str.Parse.{digits_value}
use Rattle.fast_float.specs.Text.{digits_of}
use Rattle.numerals.proofs.Places.{digits_read, zeros_read}
use Rattle.numerals.proofs.digits.size_of.Goals as goal

pub returns-then-is_exponent_negative : goal.returns-then-is_exponent_negative
returns-then-is_exponent_negative c =
    let p = c.args.numeral.now in
    let value : c.capped_number-value.result ≡ min (digits_of p) (10 ^ 30) =
    digits_read p.whole p.fraction _ _ (rw c.whole.ensures.value at c.capped_number.ensures) (rw c.fraction.ensures.value at c.capped_number-value.ensures) in
    rw (sym c.is_exponent_negative.ensures ∙ c.if-is_exponent_negative.true) (omega (arith, value))

pub returns : goal.returns
returns c =
    let p = c.args.numeral.now in
    let value : c.capped_number-value.result ≡ min (digits_of p) (10 ^ 30) =
    digits_read p.whole p.fraction _ _ (rw c.whole.ensures.value at c.capped_number.ensures) (rw c.fraction.ensures.value at c.capped_number-value.ensures) in
    rw (sym c.is_exponent_negative.ensures ∙ c.if-is_exponent_negative.false)
    (zeros_read (digits_of p) (digits_value 10 p.exponent) _ _ _ value (rw c.exponent.ensures.value at c.capped_number-2.ensures) c.with_zeros.ensures)
