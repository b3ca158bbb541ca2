-- Geometries that the derived test finds equal are equal.
use Rattle.std.proofs.Common.{◌≡◌, true, sym, ap, ◌∙◌, rules}
use Rattle.std.specs.Cmp.{Equal-is}
use Rattle.std.specs.Cmp.Lexicographic.{slice_cmp}
use Rattle.std.specs.Ordering.{is_eq, nat_cmp}
use Rattle.lines.proofs.Positions.{both_true}
use Rattle.shapes.specs.Order.{id_cmp}
use Rattle.shapes.specs.OrderLaws.{one_props, same_id, same_text}
use Rattle.shapes.specs.contracts.props.PropsOrd.TheImpl as props_order
use Rattle.shapes.specs.contracts.props.PropsOrd.TheImpl.Laws.{matches_eq-law as props_ties}
use Rattle.shapes.specs.contracts.props.PropsPartialEq.TheImpl as props_eq
use Rattle.shapes.specs.contracts.shape.IdOrd.TheImpl.Laws.{matches_eq-law as id_ties}
use Rattle.shapes.specs.contracts.shape.IdPartialEq.TheImpl as id_eq
use Rattle.shapes.specs.declared.props.Props.{Props}
use Rattle.shapes.specs.declared.shape.Id.{Id}
use Rattle.topo.specs.contracts.geom.GeomPartialEq.TheImpl as geometry_eq
use Rattle.topo.specs.declared.geom.Geom.{Geom}
use Rattle.topo.proofs.FeatureOrder.{id_derived_is}
use Rattle.topo.proofs.SameBodies.{body_same}

id_same : (a b : Id) → id_eq.eq-value.it a b ≡ true → a ≡ b
id_same a b e = same_id a b ((Equal-is (id_cmp a b)).0 (ap is_eq (sym (id_derived_is a b)) ∙ sym (id_ties a b) ∙ e))

props_derived_is : (a b : Props) → props_order.cmp-value.it a b ≡ slice_cmp nat_cmp a.text b.text
props_derived_is a b = search rules

props_same : (a b : Props) → props_eq.eq-value.it a b ≡ true → a ≡ b
props_same a b e =
    one_props a b (same_text a.text b.text ((Equal-is (slice_cmp nat_cmp a.text b.text)).0 (ap is_eq (sym (props_derived_is a b)) ∙ sym (props_ties a b) ∙ e)))

pub geometry_same : (a b : Geom) → geometry_eq.eq-value.it a b ≡ true → a ≡ b
geometry_same a b e =
    let one = both_true (id_eq.eq-value.it a.id b.id) _ e in
    let rest = both_true (props_eq.eq-value.it a.props b.props) _ one.1 in
    let id = id_same a.id b.id one.0 in
    let props = props_same a.props b.props rest.0 in
    let body = body_same a.body b.body _ rest.1 (search rules) in
    λ i. record { id = id i; props = props i; body = body i }
