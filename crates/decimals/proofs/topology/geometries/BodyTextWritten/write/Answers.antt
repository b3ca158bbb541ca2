use Rattle.std.proofs.Common.{ℕ, List, ◌++◌, ◌∙◌, subst, sym, ap, codes}
use Rattle.std.specs.Result.{OnOk}
use Rattle.sinks.specs.Texts.{list_text}
use Rattle.sinks.specs.Writes.{TookAll}
use Rattle.arcs.specs.ArcTexts.{index_text}
use Rattle.decimals.specs.Topology.TopologyText.{body_text, list_of_lists}
use Rattle.decimals.proofs.topology.geometries.BodyTextWritten.write.Goals as goal

pub returns-in-MultiPoint-clause-whole : goal.returns-in-MultiPoint-clause-whole
returns-in-MultiPoint-clause-whole g c =
    let P : List ℕ → Type 0 = λ l. OnOk c.write-in-MultiPoint.result (TookAll (g.W.Sink.seen c.args.sink.now) (g.W.Sink.seen c.write-in-MultiPoint.new.sink) l) in
    subst P (ap (λ qs. codes "\"MultiPoint\",\"coordinates\":" ++ list_text (g.N.Notation.text c.args.self.now.positions.now) qs) c.as_slice.ensures ∙ sym (ap (body_text (g.N.Notation.text c.args.self.now.positions.now)) c.in-MultiPoint.is)) c.write-in-MultiPoint.ensures.whole

pub returns-in-Line-clause-whole : goal.returns-in-Line-clause-whole
returns-in-Line-clause-whole g c =
    let P : List ℕ → Type 0 = λ l. OnOk c.write-in-Line.result (TookAll (g.W.Sink.seen c.args.sink.now) (g.W.Sink.seen c.write-in-Line.new.sink) l) in
    subst P (ap (λ qs. codes "\"LineString\",\"arcs\":" ++ list_text index_text qs) c.as_slice-in-Line.ensures ∙ sym (ap (body_text (g.N.Notation.text c.args.self.now.positions.now)) c.in-Line.is)) c.write-in-Line.ensures.whole

pub returns-in-MultiLine-clause-whole : goal.returns-in-MultiLine-clause-whole
returns-in-MultiLine-clause-whole g c =
    let P : List ℕ → Type 0 = λ l. OnOk c.write-in-MultiLine.result (TookAll (g.W.Sink.seen c.args.sink.now) (g.W.Sink.seen c.write-in-MultiLine.new.sink) l) in
    subst P (ap (λ qs. codes "\"MultiLineString\",\"arcs\":" ++ list_of_lists qs) c.as_slice-in-MultiLine.ensures ∙ sym (ap (body_text (g.N.Notation.text c.args.self.now.positions.now)) c.in-MultiLine.is)) c.write-in-MultiLine.ensures.whole

pub returns-in-MultiPolygon-clause-whole : goal.returns-in-MultiPolygon-clause-whole
returns-in-MultiPolygon-clause-whole g c =
    let P : List ℕ → Type 0 = λ l. OnOk c.write-in-MultiPolygon.result (TookAll (g.W.Sink.seen c.args.sink.now) (g.W.Sink.seen c.write-in-MultiPolygon.new.sink) l) in
    subst P (ap (λ qs. codes "\"MultiPolygon\",\"arcs\":" ++ list_text list_of_lists qs) c.as_slice-in-MultiPolygon.ensures ∙ sym (ap (body_text (g.N.Notation.text c.args.self.now.positions.now)) c.in-MultiPolygon.is)) c.write-in-MultiPolygon.ensures.whole
