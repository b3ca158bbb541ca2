use Rattle.std.proofs.Common.{codes, sym, ap, ◌∙◌}
use Rattle.serde_json.specs.Find.{as_object}
use Rattle.serde_json.specs.View.{view}
use Rattle.reading.proofs.Members.{member_there}
use Rattle.reading.proofs.Results.{ok_map}
use Rattle.topo_io.specs.Roots.{layers_if_object}
use Rattle.topo_io.proofs.reader.read_objects.Goals as goal

pub returns-clause-made : goal.returns-clause-made
returns-clause-made c =
    let v = view c.args.value.now in
    let arcs = c.args.on.now.arcs.now in
    ok_map c.read_member.result _ _ c.read_member.ensures.made (λ ls m. m.2.0 ∙ ap (λ d. layers_if_object arcs (as_object d)) (sym (member_there (codes "objects") v m.0 m.1)))

pub returns-clause-distinct : goal.returns-clause-distinct
returns-clause-distinct c = ok_map c.read_member.result _ _ c.read_member.ensures.made (λ ls m. m.2.1)
