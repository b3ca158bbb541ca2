use Rattle.std.proofs.Common.{◌+◌, ◌*◌, ◌^◌, refl}
use Rattle.fast_float.specs.Text.{digits_of, tens_up}
use Rattle.numerals.specs.Numeral.{IsNumeral, divisor, parts_of}
use Rattle.numerals.proofs.Steps.{some_divisor, text_measured}
use Rattle.numerals.proofs.rounding.snap_measured.Goals as goal

pub returns : goal.returns
returns c p d =
    let text = c.args.text.now in
    let s = c.args.step.now in
    let n = digits_of (parts_of text) * 10 ^ (tens_up (parts_of text) + s.places) in
    let limits = c.in_ok-parts.ensures.limits refl in
    let parts = rw c.without_sign-negative.ensures.rest at c.in_ok-parts.ensures.given in
    let unsigned = rw c.without_sign-negative.ensures.rest at (c.in_ok-parts.ensures.exact.0 refl) in
    let numeral : IsNumeral text = record { digits = unsigned.digits; complete = unsigned.complete } in
    text_measured s text c.nearest_with_distance.result numeral (rw c.without_sign-negative.ensures.sign at (c.nearest_with_distance.ensures n (divisor s text) (some_divisor s text limits) parts)) p d
