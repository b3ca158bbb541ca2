use Rattle.std.proofs.Common.{◌≡◌, ◌+◌, ◌*◌, ◌∷◌, arith, ap, sym, subst, ◌∙◌}
use Rattle.std.proofs.lemmas.Str.Parse.{digit_at}
use Rattle.std.specs.Char.{digit_value}
use Rattle.std.specs.Str.Parse.{digits_value_after, AllDigits}
use Rattle.fast_float.proofs.DigitsLemmas.{is_digit}
use Rattle.numerals.proofs.digits.in_word.Goals as goal

pub loop-digit-preserved : goal.loop-digit-preserved
loop-digit-preserved c =
    let d = c.in-Some.digit.now in
    let all : AllDigits 10 (d ∷ c.in-Some.behind.now) = subst (AllDigits 10) c.in-Some.ensures.cases.0 c.loop-digit.invariant.digits in
    let range = digit_at (d ∷ c.in-Some.behind.now) 0 all (omega arith) in
    let more : c.loop-digit.number * 10 + c.from.result ≡ c.loop-digit.number * 10 + digit_value d = omega (arith, c.from.ensures, (is_digit d range.0 range.1).1) in
    record {
      value =
          ap (λ n. digits_value_after 10 n c.in-Some.behind.now) more ∙ ap (digits_value_after 10 c.loop-digit.number) (sym c.in-Some.ensures.cases.0)
          ∙ c.loop-digit.invariant.value;
      digits = all.1;
    }
