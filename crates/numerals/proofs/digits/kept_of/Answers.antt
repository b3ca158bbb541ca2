use Rattle.std.proofs.Common.{◌≡◌, ◌^◌, ◌<◌, min, length, sym, ap, ◌∙◌, arith}
use Rattle.std.specs.Str.Parse.{digits_value}
use Rattle.numerals.proofs.Places.{kept_below, kept_above}
use Rattle.numerals.proofs.digits.kept_of.Goals as goal

pub returns-then-is_exponent_negative : goal.returns-then-is_exponent_negative
returns-then-is_exponent_negative c =
    let p = c.args.numeral.now in
    let exponent : c.capped_number-exponent.result ≡ min (digits_value 10 p.exponent) (10 ^ 30) = rw c.exponent.ensures.value at c.capped_number-exponent.ensures in
    let whole = ap length c.whole-whole.ensures.value in
    let fraction = ap length c.fraction-fraction.ensures.value in
    let short : length p.whole < 2 ^ 64 = omega arith in
    kept_below p c.args.places _ _ (sym c.is_exponent_negative.ensures ∙ c.if-is_exponent_negative.true) (omega arith) short exponent (omega arith)

pub returns-else-is_exponent_negative : goal.returns-else-is_exponent_negative
returns-else-is_exponent_negative c =
    let p = c.args.numeral.now in
    let exponent : c.capped_number-exponent.result ≡ min (digits_value 10 p.exponent) (10 ^ 30) = rw c.exponent.ensures.value at c.capped_number-exponent.ensures in
    let whole = ap length c.whole-whole.ensures.value in
    let fraction = ap length c.fraction-fraction.ensures.value in
    let short : length p.fraction < 2 ^ 64 = omega arith in
    kept_above p c.args.places _ _ (sym c.is_exponent_negative.ensures ∙ c.if-is_exponent_negative.false) short exponent (omega arith)
