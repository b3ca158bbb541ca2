use Rattle.std.proofs.Common.{◌∙◌}
use Rattle.noshinka.proofs.Roundings.{features_made}
use Rattle.noshinka.proofs.rounding.features_text.Goals as goal

pub returns-clause-made : goal.returns-clause-made
returns-clause-made c =
    features_made c.args.reports c.args.rules.now _ _ c.in_ok-maps.rounded c.in_ok-maps.maps.items c.as_slice.result.now _ c.in_ok-maps.ensures.maps c.in_ok-maps.ensures.report
    (c.as_slice.ensures.value ∙ c.in_ok-features.ensures) c.in_ok-text_with_report.ensures
