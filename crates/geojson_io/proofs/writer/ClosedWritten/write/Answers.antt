use Rattle.std.proofs.Common.{ℕ, List, subst}
use Rattle.std.specs.Result.{OnOk, OnErr}
use Rattle.sinks.specs.Writes.{TookAll, TookPart}
use Rattle.geojson_io.proofs.Collections.{closed_is}
use Rattle.geojson_io.proofs.writer.ClosedWritten.write.Goals as goal

pub returns-in-Some-clause-whole : goal.returns-in-Some-clause-whole
returns-in-Some-clause-whole g c =
    let P : List ℕ → Type 0 = λ l. OnOk c.write.result (TookAll (g.W.Sink.seen c.args.sink.now) (g.W.Sink.seen c.write.new.sink) l) in
    subst P (closed_is c.args.self.now.1.now c.args.self.now.0.now c.in-Some.first.now c.in-Some.field-0-1.now c.in-Some.ensures.cases.0) c.write.ensures.whole

pub returns-in-Some-clause-part : goal.returns-in-Some-clause-part
returns-in-Some-clause-part g c =
    let P : List ℕ → Type 0 = λ l. OnErr c.write.result (TookPart (g.W.Sink.seen c.args.sink.now) (g.W.Sink.seen c.write.new.sink) l) in
    subst P (closed_is c.args.self.now.1.now c.args.self.now.0.now c.in-Some.first.now c.in-Some.field-0-1.now c.in-Some.ensures.cases.0) c.write.ensures.part
