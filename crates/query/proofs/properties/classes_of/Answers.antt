use Rattle.std.proofs.Common.{Some, ap, arith, get_or, length, ◌∙◌, ◌≡◌}
use Rattle.std.specs.BTreeMap.{get_by_text}
use Rattle.query.specs.ByProperty.{class_in, known_then, value_text, values_of}
use Rattle.query.specs.EachOnce.{borrowed}
use Rattle.query.proofs.Classes.{are_classes, classed_step, many_values, value_here}
use Rattle.query.proofs.properties.classes_of.Goals as goal

pub loop-index-preserved : goal.loop-index-preserved
loop-index-preserved c =
    classed_step (values_of c.args.property.now (borrowed c.args.geometries.now)) c.loop-index.index (get_by_text c.loop-index.known) (get_by_text c.class_at.new.classes)
    c.loop-index.classes.items c.push.new.self.items c.loop-index.invariant (value_text c.args.property.now (get_or c.args.geometries.now c.loop-index.index c.index-geometries-index.result).now.props) c.in_ok-class_at.field-0
    (value_here c.args.property.now c.args.geometries.now c.loop-index.index c.index-geometries-index.result c.loop-index-test.true c.index-geometries-index.is
    ∙ ap (λ w. Some (value_text c.args.property.now w.now.props)) c.index-geometries-index.is)
    c.in_ok-push.ensures.items (c.in_ok-class_at.ensures.class ∙ ap (class_in (get_by_text c.loop-index.known) c.loop-index.index) c.in_ok-value.ensures)
    (λ t. c.in_ok-class_at.ensures.known t ∙ ap (λ v. known_then (get_by_text c.loop-index.known) c.loop-index.index v t) c.in_ok-value.ensures)

pub returns : goal.returns
returns c =
    let all : c.loop-index.index ≡ length c.args.geometries.now = omega (arith, c.loop-index.auto.index-end, c.loop-index-test.false) in
    are_classes (values_of c.args.property.now (borrowed c.args.geometries.now)) c.loop-index.index (get_by_text c.loop-index.known) c.loop-index.classes.items
    (all ∙ many_values c.args.property.now c.args.geometries.now) c.loop-index.invariant
