use Rattle.std.proofs.Common.{sym, ◌∙◌}
use Rattle.serde_json.specs.View.{view}
use Rattle.fault_reports.proofs.FaultyFeaturesLemmas.{one_id}
use Rattle.fault_reports.proofs.features.is_one_feature.Goals as goal

pub returns-in-Some-feature_path : goal.returns-in-Some-feature_path
returns-in-Some-feature_path c = λ t.
    one_id c.args.format (view c.args.text.now) c.args.one.now c.args.other.now c.in-Some.one.now c.in-Some-feature_path.other.now
    c.in-Some.ensures c.in-Some-feature_path.ensures (sym c.eq.ensures ∙ t)
