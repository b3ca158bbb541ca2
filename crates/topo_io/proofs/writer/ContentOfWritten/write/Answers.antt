use Rattle.std.proofs.Common.{ℕ, List, ◌++◌, ◌∙◌, subst, sym, ap, codes}
use Rattle.std.specs.Result.{OnOk}
use Rattle.sinks.specs.Texts.{list_text}
use Rattle.sinks.specs.Writes.{TookAll}
use Rattle.topo.specs.OfMap.{body_of}
use Rattle.arcs.specs.ArcTexts.{position_text}
use Rattle.topo_io.specs.TopologyText.{content_text}
use Rattle.topo_io.proofs.writer.ContentOfWritten.write.Goals as goal

pub returns-in-MultiPoint-clause-whole : goal.returns-in-MultiPoint-clause-whole
returns-in-MultiPoint-clause-whole g c =
    let P : List ℕ → Type 0 = λ l. OnOk c.write-in-MultiPoint.result (TookAll (g.W.Sink.seen c.args.sink.now) (g.W.Sink.seen c.write-in-MultiPoint.new.sink) l) in
    subst P
    (ap (λ qs. codes "\"coordinates\":" ++ (list_text position_text qs ++ codes ",")) c.as_slice.ensures
    ∙ sym (ap (λ b. content_text (body_of b)) c.in-MultiPoint.is))
    c.write-in-MultiPoint.ensures.whole
