use Rattle.std.proofs.Common.{◌≡◌, true, false, nat_lt, refl, sym, ◌∙◌, arith}
use Rattle.std.proofs.lemmas.Bool.Decides.{nat_tests}
use Rattle.std.specs.Str.Parse.{starts_with_minus}
use Rattle.numerals.specs.Numeral.{IsNumeral}
use Rattle.numerals.proofs.Wholes.{IsSignOf, is_whole, no_whole_given, whole_is_given}
use Rattle.numerals.proofs.whole_numbers.whole.Goals as goal

pub returns-in_err-size-clause-given : goal.returns-in_err-size-clause-given
returns-in_err-size-clause-given c =
    let none = rw c.without_sign-negative.ensures.rest at c.in_err-size.ensures in
    c.from_residual.ensures ∙ no_whole_given c.args.text.now (λ k unsigned worth fits. let some = (none k).1 (unsigned, worth, fits) in absurd cc)

pub returns-then-negative-clause-exact : goal.returns-then-negative-clause-exact
returns-then-negative-clause-exact c n k =
    let text = c.args.text.now in
    let found = rw c.without_sign-negative.ensures.rest at ((c.in_ok-size.ensures c.in_ok-size.size).0 refl) in
    let numeral : IsNumeral text = record { digits = found.0.digits; complete = found.0.complete } in
    let minus : starts_with_minus text ≡ true = sym c.without_sign-negative.ensures.sign ∙ c.if-negative.true in
    let sign : IsSignOf text c.in_ok-size.size (nat_lt 0 c.in_ok-size.size) = rw minus (grind (arith, nat_tests)) in
    is_whole text numeral c.in_ok-size.size (nat_lt 0 c.in_ok-size.size) found.2 found.1 sign n k

pub returns-then-negative-clause-given : goal.returns-then-negative-clause-given
returns-then-negative-clause-given c =
    let text = c.args.text.now in
    let found = rw c.without_sign-negative.ensures.rest at ((c.in_ok-size.ensures c.in_ok-size.size).0 refl) in
    let numeral : IsNumeral text = record { digits = found.0.digits; complete = found.0.complete } in
    let minus : starts_with_minus text ≡ true = sym c.without_sign-negative.ensures.sign ∙ c.if-negative.true in
    let sign : IsSignOf text c.in_ok-size.size (nat_lt 0 c.in_ok-size.size) = rw minus (grind (arith, nat_tests)) in
    whole_is_given text numeral c.in_ok-size.size (nat_lt 0 c.in_ok-size.size) found.2 found.1 sign

pub returns-else-negative-clause-exact : goal.returns-else-negative-clause-exact
returns-else-negative-clause-exact c n k =
    let text = c.args.text.now in
    let found = rw c.without_sign-negative.ensures.rest at ((c.in_ok-size.ensures c.in_ok-size.size).0 refl) in
    let numeral : IsNumeral text = record { digits = found.0.digits; complete = found.0.complete } in
    let plus : c.without_sign-negative.result.0 ≡ false = c.if-negative.false in
    is_whole text numeral c.in_ok-size.size c.without_sign-negative.result.0 found.2 found.1 ((λ some. c.without_sign-negative.ensures.sign), (λ none. plus)) n k

pub returns-else-negative-clause-given : goal.returns-else-negative-clause-given
returns-else-negative-clause-given c =
    let text = c.args.text.now in
    let found = rw c.without_sign-negative.ensures.rest at ((c.in_ok-size.ensures c.in_ok-size.size).0 refl) in
    let numeral : IsNumeral text = record { digits = found.0.digits; complete = found.0.complete } in
    let plus : c.without_sign-negative.result.0 ≡ false = c.if-negative.false in
    whole_is_given text numeral c.in_ok-size.size c.without_sign-negative.result.0 found.2 found.1 ((λ some. c.without_sign-negative.ensures.sign), (λ none. plus))
