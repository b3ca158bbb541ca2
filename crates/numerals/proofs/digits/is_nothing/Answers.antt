use Rattle.std.proofs.Common.{◌+◌, get_or, arith}
use Rattle.std.proofs.lemmas.Str.Parse.{digit_at, digits_value-take-le}
use Rattle.fast_float.proofs.DigitsLemmas.{is_digit}
use Rattle.numerals.proofs.Places.{after_more}
use Rattle.numerals.proofs.digits.is_nothing.Goals as goal

pub returns-then-digit-ne48 : goal.returns-then-digit-ne48
returns-then-digit-ne48 c =
    let ds = c.args.digits.now in
    let i = c.loop-digit.digit-index in
    let range = digit_at ds i c.requires (omega arith) in
    let more = after_more 0 ds i (omega arith) in
    let least = digits_value-take-le 10 ds (i + 1) (omega arith) in
    (λ t. absurd (cc), λ e. absurd (omega (arith, more, least, e, (is_digit (get_or ds i 0) range.0 range.1).1)))

pub loop-digit-preserved : goal.loop-digit-preserved
loop-digit-preserved c =
    let ds = c.args.digits.now in
    let i = c.loop-digit.digit-index in
    let range = digit_at ds i c.requires (omega arith) in
    omega (arith, after_more 0 ds i (omega arith), (is_digit (get_or ds i 0) range.0 range.1).1)
