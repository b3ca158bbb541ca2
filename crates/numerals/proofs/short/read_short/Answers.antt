use Rattle.std.proofs.Common.{arith, sym, ◌∙◌}
use Rattle.numerals.proofs.Shortness.{emptied, none_left, point_short, whole_short}
use Rattle.numerals.proofs.short.read_short.Goals as goal

pub returns-in_default : goal.returns-in_default
returns-in_default c =
    whole_short c.args.text.now c.front-whole.result.1.now c.front-whole.result.0 c.front-whole.ensures (emptied c.front-whole.result.1.now c.in_default.ensures.cases)
    (omega (arith, c.if-left-text.false))

pub returns : goal.returns
returns c =
    point_short c.args.text.now c.front-whole.result.1.now c.in-Some.behind.now c.front-digits.result.1.now c.front-whole.result.0 c.front-digits.result.0 c.in-Some.point.now
    c.front-whole.ensures c.in-Some.ensures.cases.0 c.if-point-ne46.false c.front-digits.ensures
    (none_left c.front-digits.result.1.now (sym c.is_empty.ensures ∙ c.if-not-is_empty.false)) (omega (arith, c.if-left-text.false))
