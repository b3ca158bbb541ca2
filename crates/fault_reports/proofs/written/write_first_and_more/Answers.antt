use Rattle.sinks.proofs.Left.{then_err_at}
use Rattle.fault_reports.proofs.FirstReportsLemmas.{front_of_text, ok_after, text_of_counts}
use Rattle.fault_reports.proofs.written.write_first_and_more.Goals as goal

pub returns-in-Ok-clause-whole : goal.returns-in-Ok-clause-whole
returns-in-Ok-clause-whole g c = ok_after _ _ c.write_more.result (text_of_counts c.args.limit c.args.file.now c.args.is_explained c.args.reports.now _ c.in-Ok.ensures.counts) c.in-Ok.ensures.whole c.write_more.ensures.whole

pub returns-in-Ok-clause-part : goal.returns-in-Ok-clause-part
returns-in-Ok-clause-part g c = then_err_at _ _ c.write_more.result (text_of_counts c.args.limit c.args.file.now c.args.is_explained c.args.reports.now _ c.in-Ok.ensures.counts) c.in-Ok.ensures.whole c.write_more.ensures.part

pub returns-in-Err-clause-part : goal.returns-in-Err-clause-part
returns-in-Err-clause-part g c = front_of_text c.args.limit c.args.file.now c.args.is_explained c.args.reports.now c.in-Err.ensures.part
