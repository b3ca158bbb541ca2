use Rattle.std.proofs.Common.{ap, map, subst, ◌++◌, ◌≡◌, ◌∙◌}
use Rattle.query.specs.ArcUsers.{AreListsBy}
use Rattle.query.specs.ByProperty.{AreClasses, values_of}
use Rattle.query.specs.EachOnce.{borrowed}
use Rattle.query.proofs.NeighboringBy.{lists_neighbors_by}
use Rattle.query.proofs.LayerFeatures.{layer_found, layer_missing, layer_holds, not_named, named_features}
use Rattle.query.proofs.questions.neighbors_by.neighbors_by.Goals as goal

pub returns-in_default-clause-layer : goal.returns-in_default-clause-layer
returns-in_default-clause-layer c = λ m of. layer_missing _ (not_named m c.args.topology.now of c.args.layer.now c.in_default.ensures.none)

pub returns-in_err-add_geometries-clause-layer : goal.returns-in_err-add_geometries-clause-layer
returns-in_err-add_geometries-clause-layer c = λ m of. layer_holds c.from_residual.result _ c.from_residual.ensures.1 (named_features m c.args.topology.now of c.args.layer.now c.in-Some.geometries.now c.in-Some.ensures.found).0

pub returns-in_err-classes-clause-layer : goal.returns-in_err-classes-clause-layer
returns-in_err-classes-clause-layer c = λ m of. layer_holds c.from_residual-in_err-classes.result _ c.from_residual-in_err-classes.ensures.1 (named_features m c.args.topology.now of c.args.layer.now c.in-Some.geometries.now c.in-Some.ensures.found).0

pub returns-in_err-lists_by-clause-layer : goal.returns-in_err-lists_by-clause-layer
returns-in_err-lists_by-clause-layer c = λ m of. layer_holds c.from_residual-in_err-lists_by.result _ c.from_residual-in_err-lists_by.ensures.1 (named_features m c.args.topology.now of c.args.layer.now c.in-Some.geometries.now c.in-Some.ensures.found).0

pub returns-clause-layer : goal.returns-clause-layer
returns-clause-layer c = λ m of. layer_found _ _ (named_features m c.args.topology.now of c.args.layer.now c.in-Some.geometries.now c.in-Some.ensures.found).0

pub returns-clause-neighbors : goal.returns-clause-neighbors
returns-clause-neighbors c = λ m of.
    let gs = c.in-Some.geometries.now in
    let all : borrowed c.add_geometries.new.found.items ≡ gs = c.in_ok-add_geometries.ensures ∙ ap (λ w. borrowed w ++ gs) c.new-found.ensures.items in
    lists_neighbors_by m c.args.topology.now of c.args.layer.now gs c.in-Some.ensures.found c.args.property.now c.in_ok-classes.classes.items
    (subst (λ w. AreClasses (values_of c.args.property.now w) c.in_ok-classes.classes.items) (ap borrowed c.deref.ensures.value ∙ all) c.in_ok-classes.ensures)
    (map (λ l. l.items) c.in_ok-lists_by.field-0.items)
    (subst (λ w. AreListsBy w c.in_ok-classes.classes.items (map (λ l. l.items) c.in_ok-lists_by.field-0.items)) (ap borrowed c.deref-2.ensures.value ∙ all)
    (subst (λ w. AreListsBy (borrowed c.deref-2.result.now) w (map (λ l. l.items) c.in_ok-lists_by.field-0.items)) c.deref-3.ensures.value c.in_ok-lists_by.ensures))
