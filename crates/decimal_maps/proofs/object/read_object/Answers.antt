use Rattle.std.proofs.lemmas.Result.{on_ok_weaker}
use Rattle.decimal_maps.proofs.Looping.{object_gives}
use Rattle.decimal_maps.proofs.object.read_object.Goals as goal

pub returns : goal.returns
returns g c =
    let opened = c.in_ok-take_begin_object.ensures in
    on_ok_weaker c.read_members.result (λ read. (read.0, object_gives c.args.depth c.args.reader.now c.take_begin_object.new.reader c.read_members.new.reader read.0 opened.nests opened.opens read.1, read.2)) c.read_members.ensures
