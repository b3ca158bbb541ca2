use Rattle.std.proofs.Common.{codes}
use Rattle.json.specs.Value.{value_view}
use Rattle.decimal_faults.specs.Geometries.{geometry_faults}
use Rattle.decimal_faults.specs.Parts.{unless_null}
use Rattle.decimal_faults.proofs.Faulty.{faulty_option}
use Rattle.decimal_faults.proofs.feature.geometry_of.Goals as goal

pub returns-in-Some-clause-refused : goal.returns-in-Some-clause-refused
returns-in-Some-clause-refused c = λ e fixing.
    faulty_option (codes "geometry") (unless_null (geometry_faults c.args.grid.now fixing)) (value_view c.args.value.now) (value_view c.in-Some.geometry.now) c.in-Some.ensures (c.make.ensures.refused e fixing)
