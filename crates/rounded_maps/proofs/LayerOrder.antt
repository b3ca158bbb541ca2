-- The order of features of layers, as derived: those tie that are the same.
use Rattle.std.proofs.Common.{◌≡◌, ◌↔◌, ℕ, List, ap, sym, ◌∙◌, rules, Equal}
use Rattle.std.proofs.lemmas.Cmp.{tied_itself}
use Rattle.std.specs.declared.cmp.Ordering.{Ordering}
use Rattle.std.specs.Cmp.Lexicographic.{slice_cmp}
use Rattle.std.specs.Ordering.{nat_cmp, ordering_then}
use Rattle.lines.specs.Positions.{then_equal}
use Rattle.shapes.specs.Order.{id_cmp, shape_cmp}
use Rattle.shapes.specs.OrderLaws.{same_id, same_shape, same_text}
use Rattle.shapes.specs.contracts.shape.IdOrd.TheImpl as id
use Rattle.shapes.specs.declared.shape.Id.{Id}
use Rattle.shapes.specs.Shapes.{Shape}
use Rattle.rounded_maps.specs.Equal.{Printed, printed}
use Rattle.rounded_maps.specs.contracts.equal.LayerFeatureOrd.TheImpl as derived
use Rattle.rounded_maps.specs.contracts.equal.LayerFeatureOrd.TheImpl.Laws.{total-law}
use Rattle.rounded_maps.specs.declared.equal.LayerFeature.{LayerFeature}

id_derived_is : (a b : Id) → id.cmp-value.it a b ≡ id_cmp a b
id_derived_is a b = search rules

derived_is : (a b : LayerFeature) → derived.cmp-value.it a b
    ≡ ordering_then (slice_cmp nat_cmp a.layer.now b.layer.now) (ordering_then (id.cmp-value.it a.id.now b.id.now) (ordering_then (slice_cmp nat_cmp a.props.now.text b.props.now.text) (shape_cmp a.shape.now b.shape.now)))
derived_is a b = search rules

-- what the order looks at
parts_cmp : List ℕ → Id → List ℕ → Shape → List ℕ → Id → List ℕ → Shape → Ordering
parts_cmp l d p s m e q t = ordering_then (slice_cmp nat_cmp l m) (ordering_then (id.cmp-value.it d e) (ordering_then (slice_cmp nat_cmp p q) (shape_cmp s t)))

of_printed : Printed → Printed → Ordering
of_printed a b = parts_cmp a.layer a.id a.properties a.shape b.layer b.id b.properties b.shape

by_printed : (a b : LayerFeature) → derived.cmp-value.it a b ≡ of_printed (printed a) (printed b)
unfolding of_printed parts_cmp
by_printed a b = derived_is a b

same_parts : (a b : Printed) → of_printed a b ≡ Equal → a ≡ b
unfolding of_printed parts_cmp
same_parts a b e =
    let first = then_equal (slice_cmp nat_cmp a.layer b.layer) _ e in
    let second = then_equal (id.cmp-value.it a.id b.id) _ first.1 in
    let third = then_equal (slice_cmp nat_cmp a.properties b.properties) (shape_cmp a.shape b.shape) second.1 in
    let l : a.layer ≡ b.layer = same_text a.layer b.layer first.0 in
    let d : a.id ≡ b.id = same_id a.id b.id (sym (id_derived_is a.id b.id) ∙ second.0) in
    let p : a.properties ≡ b.properties = same_text a.properties b.properties third.0 in
    let s : a.shape ≡ b.shape = same_shape a.shape b.shape third.1 in
    λ i. record { layer = l i; id = d i; properties = p i; shape = s i }

pub tied : (a b : LayerFeature) → (derived.cmp-value.it a b ≡ Equal) ↔ (printed a ≡ printed b)
tied a b = (
  λ e. same_parts (printed a) (printed b) (sym (by_printed a b) ∙ e),
  λ e. by_printed a b ∙ ap (λ x. of_printed (printed a) x) (sym e) ∙ sym (by_printed a a) ∙ tied_itself total-law a,
)
