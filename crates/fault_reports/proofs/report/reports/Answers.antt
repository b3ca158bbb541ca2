use Rattle.std.proofs.Common.{All, List, subst, sym}
use Rattle.std.proofs.lemmas.List.Elements.{All-push}
use Rattle.fault_reports.specs.ReportsOfTexts.{IsPlaceIn, IsReport, IsReportOf}
use Rattle.fault_reports.specs.declared.line_columns.LineColumn.{LineColumn}
use Rattle.fault_reports.specs.declared.report.FaultReport.{FaultReport}
use Rattle.fault_reports.proofs.ReportsLemmas.{all_after_first, first_of_all, first_place, last_has, one_more_reported, report_is}
use Rattle.fault_reports.proofs.report.reports.Goals as goal

pub loop-fault-preserved : goal.loop-fault-preserved
loop-fault-preserved c =
    let P = IsPlaceIn c.args.bytes.now in
    let place : IsPlaceIn c.args.bytes.now c.unwrap_or-place.result = subst P (sym {A = LineColumn} c.unwrap_or-place.ensures)
    (first_of_all P c.loop-fault.places.rest.items _ c.next-in-loop-fault.result c.first.result c.next-in-loop-fault.ensures.items c.loop-fault.invariant.places (first_place c.args.bytes.now _ c.first.ensures)) in
    let said : IsReportOf c.args.format _ c.in-Some.fault c.unwrap_or-place.result c.in_ok-report.report = c.in_ok-report.ensures
    (last_has c.args.format c.args.bytes.now _ _ c.loop-fault.reports.items c.last.result c.loop-fault.invariant.reads c.loop-fault.invariant.each c.deref.ensures.value c.last.ensures.value) in
    record {
      all = one_more_reported c.loop-fault.reports.items c.push.new.self.items c.in_ok-report.report c.in-Some.fault c.loop-fault.fault-iterator.rest.items c.next.new.self.rest.items c.args.faults.items
          c.loop-fault.invariant.all c.in-Some.ensures.steps.0 c.in_ok-push.ensures.items said.fault_is;
      reads = c.loop-fault.invariant.reads;
      places = all_after_first P c.loop-fault.places.rest.items _ c.next-in-loop-fault.result c.next-in-loop-fault.ensures.items c.loop-fault.invariant.places;
      each = subst (All (IsReport c.args.format c.args.bytes.now)) (sym {A = List FaultReport} c.in_ok-push.ensures.items)
          (All-push (IsReport c.args.format c.args.bytes.now) c.loop-fault.reports.items c.in_ok-report.report c.loop-fault.invariant.each
          (report_is c.args.format c.args.bytes.now _ c.in-Some.fault c.unwrap_or-place.result c.in_ok-report.report c.loop-fault.invariant.reads place said));
    }
