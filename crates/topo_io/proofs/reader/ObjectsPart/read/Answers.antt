use Rattle.serde_json.specs.View.{members_view}
use Rattle.reading.proofs.Results.{ok_both, ok_with}
use Rattle.topo_io.proofs.Roots.{mean_layers}
use Rattle.topo_io.proofs.reader.ObjectsPart.read.Goals as goal

pub returns-in-Some-clause-ok : goal.returns-in-Some-clause-ok
returns-in-Some-clause-ok c =
    let arcs = c.args.self.now.on.now.arcs.now in
    let result = c.read_each_member.result in
    ok_with result _ _ _ c.read_each_member.ensures.ok (ok_both result _ _ c.read_each_member.ensures.made c.read_each_member.ensures.distinct)
    (λ a ls b. (rw (← c.in-Some.ensures) a, (rw (← c.in-Some.ensures) (mean_layers arcs (members_view c.in-Some.members.now.entries) ls.items b.0), b.1)))
