use Rattle.std.proofs.Common.{◌∙◌}
use Rattle.decimal_arcs.proofs.Positions.{place_two}
use Rattle.decimal_arcs.proofs.places.step_by.Goals as goal

pub returns-clause-place : goal.returns-clause-place
returns-clause-place c =
    c.place_in.ensures
    ∙ place_two c.args.quantization.now c.args.sums c.args.values.now c.index-values-0.result c.index-values-1.result c.x_number-x.result c.y_number-y.result c.requires
    c.index-values-0.is c.index-values-1.is c.x_number-x.ensures c.y_number-y.ensures
