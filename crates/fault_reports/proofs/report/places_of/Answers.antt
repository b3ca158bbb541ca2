use Rattle.std.proofs.Common.{ap, length, subst, sym}
use Rattle.fault_reports.specs.FaultPlaces.{AreUpTo}
use Rattle.fault_reports.proofs.ReportsLemmas.{places_in}
use Rattle.fault_reports.proofs.report.places_of.Goals as goal

pub returns-in_ok-offsets-in-Ok : goal.returns-in_ok-offsets-in-Ok
returns-in_ok-offsets-in-Ok c =
    places_in c.args.bytes.now c.as_slice.result.now c.line_columns.result
    (subst (λ n. AreUpTo n c.as_slice.result.now) (ap length c.in-Ok.ensures.cases.0) (subst (AreUpTo (length c.in-Ok.text.now)) (sym c.as_slice.ensures.value) c.in_ok-offsets-in-Ok.ensures.within))
    c.line_columns.ensures.len c.line_columns.ensures.places
