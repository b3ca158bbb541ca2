use Rattle.std.proofs.Common.{◌<◌, length, ◌∙◌, arith}
use Rattle.json.specs.Value.{value_view}
use Rattle.decimal_arcs.proofs.Table.{arc_is}
use Rattle.decimal_arcs.proofs.arcs.read_arc.Goals as goal

pub returns-clause-faults : goal.returns-clause-faults
returns-clause-faults c =
    let some : 0 < length c.in-Some.values.now = omega (arith, c.if-values-eq0.false) in
    c.in_ok-arc.ensures.faults ∙ arc_is c.args.quantization.now (value_view c.args.value.now) c.in-Some.values.now some c.in-Some.ensures
