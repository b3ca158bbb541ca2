use Rattle.std.proofs.Common.{◌≡◌, length, true, is_some}
use Rattle.std.proofs.lemmas.Bool.{eqb-true, eq-eqb}
use Rattle.topo_io.proofs.Comparing.{all_same, all_taken, failed_other}
use Rattle.topo_io.proofs.same.is_written_text.Goals as goal

pub returns-then-is_none : goal.returns-then-is_none
returns-then-is_none g c =
    let sink = c.write.new.sink in (
      λ full. all_same sink.whole.now c.args.bytes.now _ sink.at sink.wrong c.in-Ok.ensures.whole.bytes sink.within c.if-is_none.ensures (eqb-true sink.at (length c.args.bytes.now) full),
      λ same. eq-eqb sink.at (length c.args.bytes.now) (all_taken sink.whole.now c.args.bytes.now _ sink.at sink.wrong c.in-Ok.ensures.whole.bytes sink.within sink.other same).1,
    )

pub returns-else-is_none : goal.returns-else-is_none
returns-else-is_none g c =
    let sink = c.write.new.sink in (
      λ yes. absurd (cc (c.if-is_none.false, yes)),
      λ same. let none = (all_taken sink.whole.now c.args.bytes.now _ sink.at sink.wrong c.in-Ok.ensures.whole.bytes sink.within sink.other same).0 in
          let some : is_some sink.wrong ≡ true = c.if-is_none.ensures in
          absurd (cc (none, some)),
    )

pub returns-in-Err-Write : goal.returns-in-Err-Write
returns-in-Err-Write g c =
    let sink = c.write.new.sink in
    let part = c.in-Err-Write.ensures.part in (
      λ yes. absurd (cc yes),
      λ same. absurd (failed_other sink.whole.now c.args.bytes.now _ part.front part.rest sink.at sink.failures sink.wrong part.bytes part.splits sink.within sink.other sink.quiet part.failures same),
    )
