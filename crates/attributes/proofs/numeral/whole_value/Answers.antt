use Rattle.std.proofs.Common.{sym, ◌∙◌, subst}
use Rattle.numerals.specs.Whole.{IsWhole}
use Rattle.attributes.proofs.Worth.{worth_found, worth_none}
use Rattle.attributes.proofs.numeral.whole_value.Goals as goal

pub returns-in-Some : goal.returns-in-Some
returns-in-Some c =
    let m = c.in-Some.negative in
    let n = c.in-Some.size in
    c.number_of.ensures ∙ worth_found c.args.text.now m n (subst (λ t. IsWhole t m n) c.as_bytes.ensures.value ((c.whole.ensures.exact m n).0 c.in-Some.is))

pub returns-in-None : goal.returns-in-None
returns-in-None c =
    worth_none c.args.text.now
    (λ m n h. let is = (c.whole.ensures.exact m n).1 (subst (λ t. IsWhole t m n) (sym c.as_bytes.ensures.value) h) in absurd (cc))
