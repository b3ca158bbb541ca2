use Rattle.std.proofs.Common.{sym, ◌∙◌}
use Rattle.json.specs.Value.{value_view}
use Rattle.decimal_topologies.specs.Features.{feature_members_faults}
use Rattle.decimal_topologies.specs.Geometries.{parts_of}
use Rattle.decimal_topologies.proofs.Faulty.{faulty_form}
use Rattle.decimal_topologies.proofs.feature.FeatureOfPart.make.Goals as goal

pub returns-in-Ok-clause-refused : goal.returns-in-Ok-clause-refused
returns-in-Ok-clause-refused c = λ e fixing.
    let self = c.args.self.now in
    let j = value_view c.args.value.now in
    faulty_form fixing (feature_members_faults (parts_of self.topology.now) self.rules.now fixing j) j c.in-Ok.form (sym c.form_of.ensures ∙ c.in-Ok.is) (c.make_feature.ensures.refused e fixing)
