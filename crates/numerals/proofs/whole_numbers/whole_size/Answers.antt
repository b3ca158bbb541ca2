use Rattle.std.proofs.Common.{rules, ◌≡◌, IsTrue, ap, arith}
use Rattle.fast_float.proofs.Rows.{AllDigits-append}
use Rattle.fast_float.specs.Text.{Parts, scan, has_digits}
use Rattle.numerals.specs.Numeral.{IsUnsigned}
use Rattle.numerals.proofs.Wholes.{long_whole}
use Rattle.numerals.proofs.whole_numbers.whole_size.Goals as goal

pub returns : goal.returns
returns c k =
    let u = c.args.unsigned.now in
    let parts : c.scan-numeral.result ≡ scan u = c.scan-numeral.ensures.parts in
    let some_digits : IsTrue (has_digits c.scan-numeral.result) = search (rules, c.if-not-has_digits.ensures) in
    let unsigned : IsUnsigned u = record { digits = rw parts at some_digits; complete = omega (arith, ap (λ (p : Parts). p.len) parts, c.len.ensures, c.if-len-unsigned.false, c.scan-numeral.ensures.within) } in
    let digits = AllDigits-append c.scan-numeral.result.whole c.scan-numeral.result.fraction c.scan-numeral.ensures.digits.0 c.scan-numeral.ensures.digits.1 in
    long_whole u c.whole_u64.result k unsigned (rw parts at digits) (rw parts at c.whole_u64.ensures)
