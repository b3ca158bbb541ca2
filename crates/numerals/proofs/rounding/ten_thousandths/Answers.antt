use Rattle.numerals.proofs.Shortness.{short_parts}
use Rattle.numerals.proofs.rounding.ten_thousandths.Goals as goal

pub returns-in-Some-clause-given : goal.returns-in-Some-clause-given
returns-in-Some-clause-given c =
    short_parts c.args.unsigned.now c.in-Some.short.digits c.in-Some.short.places c.args.step.now.places c.args.step.now.size c.ten_thousandths.result.0 c.ten_thousandths.result.1
    c.in-Some.ensures c.ten_thousandths.ensures.given
