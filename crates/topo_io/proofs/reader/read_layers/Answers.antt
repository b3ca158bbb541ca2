use Rattle.std.proofs.Common.{codes, refl, sym, ap, ◌∙◌, subst, rules}
use Rattle.serde_json.specs.Find.{as_object}
use Rattle.serde_json.specs.View.{view}
use Rattle.faults.specs.Path.{name}
use Rattle.reading.specs.Fault.{LeastOrWant}
use Rattle.reading.specs.Parts.{elements}
use Rattle.reading.specs.Info.{member_or_null}
use Rattle.reading.proofs.Least.{first_of, after_under}
use Rattle.reading.proofs.Lists.{zip_is}
use Rattle.reading.proofs.Results.{ok_map, on_ok_map, err_map}
use Rattle.topo_io.specs.Arcs.{arc_of}
use Rattle.topo_io.specs.Roots.{content_faults, layers_if_object}
use Rattle.topo_io.proofs.Roots.{content_over}
use Rattle.topo_io.proofs.reader.read_layers.Goals as goal

pub returns-in_err-arcs-clause-err : goal.returns-in_err-arcs-clause-err
returns-in_err-arcs-clause-err c =
    let part : LeastOrWant (content_faults c.args.limits.now (view c.args.value.now)) c.in_err-arcs.field-0.0 = first_of (name (codes "arcs")) _ _ c.in_err-arcs.field-0.0 c.in_err-arcs.ensures.err (after_under _ (name (codes "objects")) _ refl) in
    search (rules, part)

pub returns-clause-ok : goal.returns-clause-ok
returns-clause-ok c =
    let faults = content_over c.args.limits.now (view c.args.value.now) _ _ c.deref.ensures.value c.in_ok-arcs.ensures.made c.in_ok-arcs.ensures.ok in
    on_ok_map c.read_objects.result _ _ c.read_objects.ensures.ok (λ none. faults ∙ none)

pub returns-clause-made : goal.returns-clause-made
returns-clause-made c =
    let v = view c.args.value.now in
    let arcs = c.deref.ensures.value ∙ zip_is arc_of (elements (member_or_null (codes "arcs") v)) c.in_ok-arcs.arcs.items c.in_ok-arcs.ensures.made in
    ok_map c.read_objects.result _ _ c.read_objects.ensures.made (λ ls b. b ∙ ap (λ arcs. layers_if_object arcs (as_object (member_or_null (codes "objects") v))) arcs)

pub returns-clause-err : goal.returns-clause-err
returns-clause-err c =
    let faults = content_over c.args.limits.now (view c.args.value.now) _ _ c.deref.ensures.value c.in_ok-arcs.ensures.made c.in_ok-arcs.ensures.ok in
    err_map c.read_objects.result _ _ c.read_objects.ensures.err (λ f told. subst (λ ps. LeastOrWant ps f) (sym faults) told)
