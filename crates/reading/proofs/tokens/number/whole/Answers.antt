use Rattle.std.proofs.Common.{◌≡◌, ◌<◌, Some, drop, length, get_or, subst, sym, ap, ◌∙◌, arith, rules}
use Rattle.std.specs.Str.Parse.{AllDigits, digits_value}
use Rattle.serde_json.specs.Find.{of_integer}
use Rattle.serde_json.specs.Read.{number_of}
use Rattle.reading.proofs.TokensLemmas.Numbers.{positive, below, as_i64-few, as_i64-below, of_integer-below, seen_positive, seen_below, size_below}
use Rattle.reading.proofs.tokens.number.whole.Goals as goal

pub returns-in_ok-size-2-clause-number : goal.returns-in_ok-size-2-clause-number
returns-in_ok-size-2-clause-number c =
    let n = c.in_ok-size-2.size in
    let e = c.in_ok-size-2.ensures in
    let s = c.as_bytes-bytes.result.now in
    ap number_of (sym c.as_bytes-bytes.ensures.value) ∙ positive s n e.digits e.some e.value e.small ∙ ap (λ z. Some (of_integer z)) (seen_positive n e.small)

pub returns-in_ok-size-2-clause-whole : goal.returns-in_ok-size-2-clause-whole
returns-in_ok-size-2-clause-whole c =
    let n = c.in_ok-size-2.size in
    let e = c.in_ok-size-2.ensures in
    rw (← seen_positive n e.small) (as_i64-few n e.small)

pub returns-else-size-eq0-clause-number : goal.returns-else-size-eq0-clause-number
returns-else-size-eq0-clause-number c =
    let n = c.in_ok-size.size in
    let e = c.in_ok-size.ensures in
    let s = c.as_bytes-bytes.result.now in
    let tail : c.behind_first.result.now ≡ drop 1 s = c.behind_first.ensures in
    let minus : get_or s 0 0 ≡ 45 = search rules in
    let all : AllDigits 10 (drop 1 s) = subst (AllDigits 10) tail e.digits in
    let some : 0 < length (drop 1 s) = rw tail at e.some in
    let value : n ≡ digits_value 10 (drop 1 s) = rw tail at e.value in
    let more : 0 < n = omega arith in
    ap number_of (sym c.as_bytes-bytes.ensures.value) ∙ below s n minus all some value more e.small ∙ ap Some (of_integer-below n more) ∙ ap (λ z. Some (of_integer z)) (seen_below n e.small)

pub returns-else-size-eq0-clause-whole : goal.returns-else-size-eq0-clause-whole
returns-else-size-eq0-clause-whole c =
    let n = c.in_ok-size.size in
    let e = c.in_ok-size.ensures in
    rw (← seen_below n e.small) (as_i64-below n (omega arith))

pub returns-in_ok-size-2-clause-small : goal.returns-in_ok-size-2-clause-small
returns-in_ok-size-2-clause-small c =
    let e = c.in_ok-size-2.ensures in
    rw (← seen_positive c.in_ok-size-2.size e.small) e.small

pub returns-else-size-eq0-clause-small : goal.returns-else-size-eq0-clause-small
returns-else-size-eq0-clause-small c =
    let e = c.in_ok-size.ensures in
    rw (← seen_below c.in_ok-size.size e.small, size_below c.in_ok-size.size) e.small
