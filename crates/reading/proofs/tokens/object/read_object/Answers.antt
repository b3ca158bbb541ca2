use Rattle.std.proofs.lemmas.Result.{on_ok_weaker}
use Rattle.reading.proofs.TokensLemmas.Objects.{object_gone}
use Rattle.reading.proofs.tokens.object.read_object.Goals as goal

pub returns-clause-read : goal.returns-clause-read
returns-clause-read g c =
    let opened = c.in_ok-take_begin_object.ensures in
    on_ok_weaker c.read_members.result (λ read. (read.0, object_gone c.args.depth c.args.reader.now c.take_begin_object.new.reader c.read_members.new.reader read.0 opened.nests opened.opens read.1, read.2)) c.read_members.ensures.read
