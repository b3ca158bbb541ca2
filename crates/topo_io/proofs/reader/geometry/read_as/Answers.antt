use Rattle.std.proofs.Common.{◌≡◌, Some, sym, ap, ◌∙◌, subst, rules}
use Rattle.serde_json.specs.Find.{get}
use Rattle.serde_json.specs.View.{view}
use Rattle.reading.specs.Plain.{plain_form}
use Rattle.reading.proofs.Members.{member_there}
use Rattle.topo_io.specs.Arcs.{known}
use Rattle.topo_io.specs.Geometries.{body_name, body_form, shape_form}
use Rattle.topo_io.proofs.Geometries.{body_first}
use Rattle.topo_io.proofs.reader.geometry.read_as.Goals as goal
use Rattle.topo_io.proofs.reader.geometry.read_as.Goals.{in-None, in-Some+in_ok-shape-in-Some}

pub returns-in_err-shape-in-Some-clause-err : goal.returns-in_err-shape-in-Some-clause-err
returns-in_err-shape-in-Some-clause-err c =
    let part = body_first c.args.on.now.limits (known c.args.on.now.arcs.now) c.args.kind c.in-Some.kind _ (view c.args.value.now) _ c.in-Some.is c.body_name.ensures c.in_err-shape-in-Some.ensures.err in
    search (rules, part)

pub returns-clause-made : goal.returns-clause-made
returns-clause-made c =
    let arcs = c.args.on.now.arcs.now in
    let v = view c.args.value.now in
    let form : plain_form c.match-kind.shape ≡ shape_form arcs c.args.kind v =
    elim c.match-kind.branch [
      | in-None w ↦ ap plain_form w.shape-is ∙ ap (λ o. shape_form arcs o v) (sym w.in-None.is)
      | in-Some+in_ok-shape-in-Some w ↦
          let k = w.in-Some.kind in
          let m = w.in_ok-shape-in-Some.ensures.made in
          ap plain_form w.shape-is ∙ m.2
          ∙ ap (body_form arcs k) (sym (member_there (body_name k) v m.0 (subst (λ n. get n v ≡ Some m.0) w.body_name.ensures m.1)))
          ∙ ap (λ o. shape_form arcs o v) (sym w.in-Some.is)
    ] in
    search (rules, form)
