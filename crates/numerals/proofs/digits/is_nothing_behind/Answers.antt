use Rattle.numerals.proofs.Places.{rest_digits, nothing_then, something_then}
use Rattle.numerals.proofs.digits.is_nothing_behind.Goals as goal

pub is_nothing-requires : goal.is_nothing-requires
is_nothing-requires c = rest_digits _ _ c.whole-whole.ensures.digits

pub is_nothing-requires-then-is_nothing : goal.is_nothing-requires-then-is_nothing
is_nothing-requires-then-is_nothing c = rest_digits _ _ c.fraction-fraction.ensures.digits

pub returns-then-is_nothing : goal.returns-then-is_nothing
returns-then-is_nothing c =
    nothing_then c.args.numeral.now c.args.places c.kept_of-kept.result c.min-of_whole.result c.min-of_fraction.result c.whole-whole.result.now c.fraction-fraction.result.now
    c.whole-whole.ensures.value c.fraction-fraction.ensures.value c.kept_of-kept.ensures c.min-of_whole.ensures c.min-of_fraction.ensures
    c.is_nothing-then-is_nothing.result (c.is_nothing.ensures.0 c.if-is_nothing.true) c.is_nothing-then-is_nothing.ensures

pub returns-else-is_nothing : goal.returns-else-is_nothing
returns-else-is_nothing c = (
  λ t. let no = t in absurd (cc),
  λ e. absurd (something_then c.args.numeral.now c.args.places c.kept_of-kept.result c.min-of_whole.result c.min-of_fraction.result c.whole-whole.result.now c.fraction-fraction.result.now
      c.whole-whole.ensures.value c.fraction-fraction.ensures.value c.kept_of-kept.ensures c.min-of_whole.ensures c.min-of_fraction.ensures
      c.is_nothing.result c.if-is_nothing.false c.is_nothing.ensures e),
)
