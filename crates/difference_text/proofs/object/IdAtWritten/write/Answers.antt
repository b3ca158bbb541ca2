use Rattle.std.proofs.Common.{refl, sym, ap}
use Rattle.std.proofs.lemmas.Option.{slice_get_past, slice_get_read}
use Rattle.shapes.proofs.WritingLemmas.Same.{part_as, whole_as}
use Rattle.query.specs.AnswerTexts.{id_text_of}
use Rattle.difference_text.proofs.object.IdAtWritten.write.Goals as goal

pub returns-in-Some-clause-whole : goal.returns-in-Some-clause-whole
returns-in-Some-clause-whole g c =
    let there = slice_get_read c.args.self.now.0.now _ c.args.self.now.1 c.in-Some.geometry.now refl c.in-Some.ensures.lookup.3.0 c.in-Some.ensures.lookup.1 in
    whole_as c.write.result (g.W.Sink.seen c.args.sink.now) (g.W.Sink.seen c.write.new.sink) _ _ (sym (ap id_text_of there)) c.write.ensures.whole

pub returns-in-Some-clause-part : goal.returns-in-Some-clause-part
returns-in-Some-clause-part g c =
    let there = slice_get_read c.args.self.now.0.now _ c.args.self.now.1 c.in-Some.geometry.now refl c.in-Some.ensures.lookup.3.0 c.in-Some.ensures.lookup.1 in
    part_as c.write.result (g.W.Sink.seen c.args.sink.now) (g.W.Sink.seen c.write.new.sink) _ _ (sym (ap id_text_of there)) c.write.ensures.part

pub returns-in-None-clause-whole : goal.returns-in-None-clause-whole
returns-in-None-clause-whole g c =
    let none = slice_get_past c.args.self.now.0.now c.args.self.now.1 c.in-None.ensures.lookup.3 in
    whole_as c.write-in-None.result (g.W.Sink.seen c.args.sink.now) (g.W.Sink.seen c.write-in-None.new.sink) _ _ (sym (ap id_text_of none)) c.write-in-None.ensures.whole

pub returns-in-None-clause-part : goal.returns-in-None-clause-part
returns-in-None-clause-part g c =
    let none = slice_get_past c.args.self.now.0.now c.args.self.now.1 c.in-None.ensures.lookup.3 in
    part_as c.write-in-None.result (g.W.Sink.seen c.args.sink.now) (g.W.Sink.seen c.write-in-None.new.sink) _ _ (sym (ap id_text_of none)) c.write-in-None.ensures.part
