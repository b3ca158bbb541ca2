use Rattle.std.proofs.Common.{ℕ, List, subst, sym}
use Rattle.std.specs.Result.{OnErr, OnOk}
use Rattle.sinks.specs.Writes.{TookAll, TookPart}
use Rattle.fault_reports.proofs.FirstReportsLemmas.{text_of_none, text_of_some}
use Rattle.fault_reports.proofs.written.write_up_to.Goals as goal

pub returns-in-None-clause-whole : goal.returns-in-None-clause-whole
returns-in-None-clause-whole g c =
    let P : List ℕ → Type 0 = λ t. OnOk c.write.result (TookAll (g.W.Sink.seen c.args.sink.now) (g.W.Sink.seen c.write.new.sink) t) in
    subst P (sym (text_of_none c.args.limit c.args.file.now c.args.is_explained c.args.reports.now c.in-None.ensures.cases)) c.write.ensures.whole

pub returns-in-None-clause-part : goal.returns-in-None-clause-part
returns-in-None-clause-part g c =
    let P : List ℕ → Type 0 = λ t. OnErr c.write.result (TookPart (g.W.Sink.seen c.args.sink.now) (g.W.Sink.seen c.write.new.sink) t) in
    subst P (sym (text_of_none c.args.limit c.args.file.now c.args.is_explained c.args.reports.now c.in-None.ensures.cases)) c.write.ensures.part

pub returns-in-Some-clause-whole : goal.returns-in-Some-clause-whole
returns-in-Some-clause-whole g c =
    let P : List ℕ → Type 0 = λ t. OnOk c.write_first_and_more.result (TookAll (g.W.Sink.seen c.args.sink.now) (g.W.Sink.seen c.write_first_and_more.new.sink) t) in
    subst P (sym (text_of_some c.args.limit c.args.file.now c.args.is_explained c.args.reports.now _ _ c.in-Some.ensures.cases.0)) c.write_first_and_more.ensures.whole

pub returns-in-Some-clause-part : goal.returns-in-Some-clause-part
returns-in-Some-clause-part g c =
    let P : List ℕ → Type 0 = λ t. OnErr c.write_first_and_more.result (TookPart (g.W.Sink.seen c.args.sink.now) (g.W.Sink.seen c.write_first_and_more.new.sink) t) in
    subst P (sym (text_of_some c.args.limit c.args.file.now c.args.is_explained c.args.reports.now _ _ c.in-Some.ensures.cases.0)) c.write_first_and_more.ensures.part
