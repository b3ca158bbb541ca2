use Rattle.std.proofs.Common.{ℕ, List, subst}
use Rattle.std.specs.Result.{OnErr, OnOk}
use Rattle.sinks.specs.Writes.{TookAll, TookPart}
use Rattle.fault_reports.proofs.FirstReportsLemmas.{text_of_all}
use Rattle.fault_reports.proofs.written.write_lines.Goals as goal

pub returns-clause-whole : goal.returns-clause-whole
returns-clause-whole g c =
    let P : List ℕ → Type 0 = λ t. OnOk c.write_up_to.result (TookAll (g.W.Sink.seen c.args.sink.now) (g.W.Sink.seen c.write_up_to.new.sink) t) in
    subst P (text_of_all c.args.file.now c.args.is_explained c.args.reports.now) c.write_up_to.ensures.whole

pub returns-clause-part : goal.returns-clause-part
returns-clause-part g c =
    let P : List ℕ → Type 0 = λ t. OnErr c.write_up_to.result (TookPart (g.W.Sink.seen c.args.sink.now) (g.W.Sink.seen c.write_up_to.new.sink) t) in
    subst P (text_of_all c.args.file.now c.args.is_explained c.args.reports.now) c.write_up_to.ensures.part
