use Rattle.std.proofs.Common.{refl}
use Rattle.fault_reports.proofs.FaultyFeaturesLemmas.{path_leads}
use Rattle.fault_reports.proofs.features.feature_path.Goals as goal

pub returns : goal.returns
returns c = path_leads c.args.format _ c.args.path.now _ c.in_ok-steps.steps refl c.in_ok-steps.ensures.is
