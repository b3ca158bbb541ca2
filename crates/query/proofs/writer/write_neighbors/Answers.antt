use Rattle.std.proofs.Common.{ℕ, List, sym, subst}
use Rattle.std.specs.Fmt.{decimal}
use Rattle.std.specs.Result.{OnOk, OnErr}
use Rattle.sinks.specs.Texts.{list_text}
use Rattle.sinks.specs.Writes.{TookAll, TookPart}
use Rattle.shapes.proofs.WritingLemmas.Joined.{list_text_map}
use Rattle.query.proofs.writer.write_neighbors.Goals as goal

pub returns-clause-whole : goal.returns-clause-whole
returns-clause-whole g c =
    let P : List ℕ → Type 0 = λ l. OnOk c.write.result (TookAll (g.W.Sink.seen c.args.sink.now) (g.W.Sink.seen c.write.new.sink) l) in
    subst P (sym (list_text_map (list_text decimal) (λ l. l.items) c.args.lists.now)) c.write.ensures.whole

pub returns-clause-part : goal.returns-clause-part
returns-clause-part g c =
    let P : List ℕ → Type 0 = λ l. OnErr c.write.result (TookPart (g.W.Sink.seen c.args.sink.now) (g.W.Sink.seen c.write.new.sink) l) in
    subst P (sym (list_text_map (list_text decimal) (λ l. l.items) c.args.lists.now)) c.write.ensures.part
