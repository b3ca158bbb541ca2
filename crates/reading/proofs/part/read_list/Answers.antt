use Rattle.serde_json.specs.View.{view}
use Rattle.reading.specs.Parts.{each_faults}
use Rattle.reading.proofs.Lists.{array_is, elements_are}
use Rattle.reading.proofs.part.read_list.Goals as goal

pub returns-clause-ok : goal.returns-clause-ok
returns-clause-ok g c =
    let whole = array_is (each_faults (g.P.Part.faults c.args.part.now) 0) (view c.args.value.now) c.in-Some.items.now.items c.in-Some.ensures in
    let parts = elements_are (view c.args.value.now) c.in-Some.items.now.items c.in-Some.ensures in
    rw (whole, parts, ← c.deref.ensures.value) c.read_each_part.ensures.ok

pub returns-clause-err : goal.returns-clause-err
returns-clause-err g c =
    let whole = array_is (each_faults (g.P.Part.faults c.args.part.now) 0) (view c.args.value.now) c.in-Some.items.now.items c.in-Some.ensures in
    rw (whole, ← c.deref.ensures.value) c.read_each_part.ensures.err
