use Rattle.std.proofs.Common.{rules, ◌≡◌, ◌-◌, ◌<◌, ◌^◌, min, IsTrue, ap, ap₂, sym, ◌∙◌, arith}
use Rattle.std.proofs.lemmas.Int.{ints}
use Rattle.fast_float.specs.Text.{Parts, has_digits, tens_down, with_sign}
use Rattle.numerals.specs.Axis.{places_of}
use Rattle.numerals.specs.Numeral.{IsNumeral, parts_of}
use Rattle.numerals.specs.Whole.{numeral_size}
use Rattle.numerals.proofs.Axes.{fit, fit_value, not_fit}
use Rattle.numerals.proofs.axis.common.Goals as goal

pub returns-then-size-ge-LONG : goal.returns-then-size-ge-LONG
returns-then-size-ge-LONG c f =
    let text = c.args.text.now in
    let other = c.args.other.now in
    let own : c.scan-numeral.result ≡ parts_of text = rw c.without_sign-negative.ensures.rest at c.scan-numeral.ensures.parts in
    let others : c.scan.result ≡ parts_of other = rw c.without_sign.ensures.rest at c.scan.ensures.parts in
    let places : c.places_of-places.result ≡ min (places_of text) (10 ^ 30) = c.places_of-places.ensures ∙ ap (λ (p : Parts). min (tens_down p) (10 ^ 30)) own in
    let beside : c.places_of.result ≡ min (places_of other) (10 ^ 30) = c.places_of.ensures ∙ ap (λ (p : Parts). min (tens_down p) (10 ^ 30)) others in
    let few : places_of text < 2 ^ 32 = omega (arith, places, c.if-places.false) in
    let more : c.saturating_sub-more.result ≡ min (places_of other) (10 ^ 30) - min (places_of text) (10 ^ 30) = c.saturating_sub-more.ensures ∙ ap₂ (λ a b. a - b) beside places in
    let size : c.size_of.result ≡ min (numeral_size text) (10 ^ 30) = rw own at c.size_of.ensures in
    not_fit text other c.with_zeros-size.result c.size_of.result c.saturating_sub-more.result few size more c.with_zeros-size.ensures c.if-size-ge-LONG.true f

pub returns-then-negative : goal.returns-then-negative
returns-then-negative c =
    let text = c.args.text.now in
    let other = c.args.other.now in
    let own : c.scan-numeral.result ≡ parts_of text = rw c.without_sign-negative.ensures.rest at c.scan-numeral.ensures.parts in
    let others : c.scan.result ≡ parts_of other = rw c.without_sign.ensures.rest at c.scan.ensures.parts in
    let places : c.places_of-places.result ≡ min (places_of text) (10 ^ 30) = c.places_of-places.ensures ∙ ap (λ (p : Parts). min (tens_down p) (10 ^ 30)) own in
    let beside : c.places_of.result ≡ min (places_of other) (10 ^ 30) = c.places_of.ensures ∙ ap (λ (p : Parts). min (tens_down p) (10 ^ 30)) others in
    let few : places_of text < 2 ^ 32 = omega (arith, places, c.if-places.false) in
    let more : c.saturating_sub-more.result ≡ min (places_of other) (10 ^ 30) - min (places_of text) (10 ^ 30) = c.saturating_sub-more.ensures ∙ ap₂ (λ a b. a - b) beside places in
    let size : c.size_of.result ≡ min (numeral_size text) (10 ^ 30) = rw own at c.size_of.ensures in
    let some_digits : IsTrue (has_digits c.scan-numeral.result) = search (rules, c.if-not-has_digits.ensures) in
    let complete = rw c.without_sign-negative.ensures.rest at c.if-len-unsigned.false in
    let within = rw c.without_sign-negative.ensures.rest at c.scan-numeral.ensures.within in
    let numeral : IsNumeral text = record { digits = rw own at some_digits; complete = omega (arith, ap (λ (p : Parts). p.len) own, c.len.ensures, complete, within) } in
    let value = fit_value text other c.with_zeros-size.result c.size_of.result c.saturating_sub-more.result few size more c.with_zeros-size.ensures c.if-size-ge-LONG.false in (
      fit text other c.with_zeros-size.result c.size_of.result c.saturating_sub-more.result few size more c.with_zeros-size.ensures numeral c.if-size-ge-LONG.false,
      omega (arith, ints, c.if-size-ge-LONG.false) ∙ (ap (λ b. with_sign b c.with_zeros-size.result) (sym c.if-negative.true ∙ c.without_sign-negative.ensures.sign) ∙ value),
    )

pub returns-else-negative : goal.returns-else-negative
returns-else-negative c =
    let text = c.args.text.now in
    let other = c.args.other.now in
    let own : c.scan-numeral.result ≡ parts_of text = rw c.without_sign-negative.ensures.rest at c.scan-numeral.ensures.parts in
    let others : c.scan.result ≡ parts_of other = rw c.without_sign.ensures.rest at c.scan.ensures.parts in
    let places : c.places_of-places.result ≡ min (places_of text) (10 ^ 30) = c.places_of-places.ensures ∙ ap (λ (p : Parts). min (tens_down p) (10 ^ 30)) own in
    let beside : c.places_of.result ≡ min (places_of other) (10 ^ 30) = c.places_of.ensures ∙ ap (λ (p : Parts). min (tens_down p) (10 ^ 30)) others in
    let few : places_of text < 2 ^ 32 = omega (arith, places, c.if-places.false) in
    let more : c.saturating_sub-more.result ≡ min (places_of other) (10 ^ 30) - min (places_of text) (10 ^ 30) = c.saturating_sub-more.ensures ∙ ap₂ (λ a b. a - b) beside places in
    let size : c.size_of.result ≡ min (numeral_size text) (10 ^ 30) = rw own at c.size_of.ensures in
    let some_digits : IsTrue (has_digits c.scan-numeral.result) = search (rules, c.if-not-has_digits.ensures) in
    let complete = rw c.without_sign-negative.ensures.rest at c.if-len-unsigned.false in
    let within = rw c.without_sign-negative.ensures.rest at c.scan-numeral.ensures.within in
    let numeral : IsNumeral text = record { digits = rw own at some_digits; complete = omega (arith, ap (λ (p : Parts). p.len) own, c.len.ensures, complete, within) } in
    let value = fit_value text other c.with_zeros-size.result c.size_of.result c.saturating_sub-more.result few size more c.with_zeros-size.ensures c.if-size-ge-LONG.false in (
      fit text other c.with_zeros-size.result c.size_of.result c.saturating_sub-more.result few size more c.with_zeros-size.ensures numeral c.if-size-ge-LONG.false,
      omega (arith, ints, c.if-size-ge-LONG.false) ∙ (ap (λ b. with_sign b c.with_zeros-size.result) (sym c.if-negative.false ∙ c.without_sign-negative.ensures.sign) ∙ value),
    )
