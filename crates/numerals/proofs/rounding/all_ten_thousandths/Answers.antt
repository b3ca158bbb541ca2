use Rattle.std.proofs.Common.{◌≡◌, ◌%◌, ◌∙◌}
use Rattle.numerals.proofs.Ceilings.{digits_in_steps, whole_where, whole_not}
use Rattle.numerals.proofs.rounding.all_ten_thousandths.Goals as goal

pub returns-then-is_exact-clause-given : goal.returns-then-is_exact-clause-given
returns-then-is_exact-clause-given c =
    let places : c.from-places.result ≡ c.args.step.now.places = c.from-places.ensures ∙ c.places.ensures in
    let limits = c.size-size.ensures.limits in
    rw c.size-size.ensures.value (digits_in_steps c.args.numeral.now c.args.step.now.size c.args.step.now.places c.floor_at-parts.result c.min.result c.is_nothing_behind-is_exact.result _
    limits.some limits.limit c.floor_at-parts.ensures.digits (rw places at c.floor_at-parts.ensures.value) (rw places at c.is_nothing_behind-is_exact.ensures)
    (whole_where (c.floor_at-parts.result % c.args.step.now.size) c.is_nothing_behind-is_exact.result c.if-is_exact.true) (rw c.size-size.ensures.value at c.min.ensures))

pub returns-else-is_exact-clause-given : goal.returns-else-is_exact-clause-given
returns-else-is_exact-clause-given c =
    let places : c.from-places.result ≡ c.args.step.now.places = c.from-places.ensures ∙ c.places.ensures in
    let limits = c.size-size.ensures.limits in
    digits_in_steps c.args.numeral.now c.args.step.now.size c.args.step.now.places c.floor_at-parts.result c.min.result c.is_nothing_behind-is_exact.result _
    limits.some limits.limit c.floor_at-parts.ensures.digits (rw places at c.floor_at-parts.ensures.value) (rw places at c.is_nothing_behind-is_exact.ensures)
    (whole_not (c.floor_at-parts.result % c.args.step.now.size) c.is_nothing_behind-is_exact.result c.if-is_exact.false) (rw c.size-size.ensures.value at c.min.ensures)
