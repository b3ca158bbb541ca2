use Rattle.std.proofs.Common.{refl, rules}
use Rattle.decimal_faults.proofs.MadePositions.{both_refused, heights_refused, position_made, second_refused}
use Rattle.decimal_faults.proofs.position.make_position.Goals as goal

pub returns-in_default-as_number-clause-refused : goal.returns-in_default-as_number-clause-refused
returns-in_default-as_number-clause-refused c e =
    second_refused c.args.grid.now c.args.values.now c.index-values-0.result c.index-values-1.result c.if-not-has_numbers.ensures.told (c.if-not-has_numbers.ensures.two refl)
    c.index-values-0.is c.index-values-1.is c.in_default-as_number.ensures

pub returns-in_err-position-clause-refused : goal.returns-in_err-position-clause-refused
returns-in_err-position-clause-refused c e =
    both_refused c.args.grid.now c.args.values.now c.index-values-0.result c.index-values-1.result c.if-not-has_numbers.ensures.told (c.if-not-has_numbers.ensures.two refl)
    c.index-values-0.is c.index-values-1.is c.in-Some.x.now c.in-Some-as_number.y.now c.in-Some.ensures c.in-Some-as_number.ensures c.args.tally.now c.size-size.ensures.limits c.in_err-position.ensures.refused

pub returns-in_err-count_heights-clause-refused : goal.returns-in_err-count_heights-clause-refused
returns-in_err-count_heights-clause-refused c e =
    heights_refused c.args.grid.now c.args.values.now c.index-values-0.result c.index-values-1.result c.if-not-has_numbers.ensures.told (c.if-not-has_numbers.ensures.two refl)
    c.index-values-0.is c.index-values-1.is (c.in_err-count_heights.ensures.refused (search rules))

pub returns-clause-made : goal.returns-clause-made
returns-clause-made c =
    position_made c.args.grid.now c.args.values.now c.index-values-0.result c.index-values-1.result c.if-not-has_numbers.ensures.told (c.if-not-has_numbers.ensures.two refl)
    c.index-values-0.is c.index-values-1.is c.in-Some.x.now c.in-Some-as_number.y.now c.in-Some.ensures c.in-Some-as_number.ensures
    c.in_ok-position.position c.args.tally.now c.position_of.new.tally c.count_heights.new.tally c.in_ok-position.ensures.made c.in_ok-count_heights.ensures.made
