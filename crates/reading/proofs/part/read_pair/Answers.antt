use Rattle.serde_json.specs.View.{view}
use Rattle.reading.specs.Parts.{two_faults}
use Rattle.reading.proofs.Lists.{array_is, elements_are}
use Rattle.reading.proofs.part.read_pair.Goals as goal

pub returns-clause-ok : goal.returns-clause-ok
returns-clause-ok g c =
    let whole = array_is (two_faults (g.P.Part.faults c.args.first.now) (g.Q.Part.faults c.args.second.now)) (view c.args.value.now) c.in-Some.items.now.items c.in-Some.ensures in
    rw (whole, ← c.deref.ensures.value) c.read_two.ensures.ok

pub returns-clause-made : goal.returns-clause-made
returns-clause-made g c =
    let parts = elements_are (view c.args.value.now) c.in-Some.items.now.items c.in-Some.ensures in
    rw (parts, ← c.deref.ensures.value) c.read_two.ensures.made

pub returns-clause-err : goal.returns-clause-err
returns-clause-err g c =
    let whole = array_is (two_faults (g.P.Part.faults c.args.first.now) (g.Q.Part.faults c.args.second.now)) (view c.args.value.now) c.in-Some.items.now.items c.in-Some.ensures in
    rw (whole, ← c.deref.ensures.value) c.read_two.ensures.err
