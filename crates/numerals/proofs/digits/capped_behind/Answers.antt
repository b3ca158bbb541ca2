use Rattle.std.proofs.Common.{get_or, arith}
use Rattle.std.proofs.lemmas.Str.Parse.{digit_at}
use Rattle.fast_float.proofs.DigitsLemmas.{is_digit}
use Rattle.numerals.proofs.Places.{after_more}
use Rattle.numerals.proofs.digits.capped_behind.Goals as goal

pub overflow_sub-digit : goal.overflow_sub-digit
overflow_sub-digit c = (digit_at c.args.digits.now c.loop-digit.digit-index c.requires.digits (omega arith)).0

pub loop-digit-preserved : goal.loop-digit-preserved
loop-digit-preserved c =
    let ds = c.args.digits.now in
    let i = c.loop-digit.digit-index in
    let range = digit_at ds i c.requires.digits (omega arith) in
    omega (arith, after_more c.args.value ds i (omega arith), (is_digit (get_or ds i 0) range.0 range.1).1)
