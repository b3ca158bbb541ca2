-- The order of ids, as derived, is that of the definition, and so is that of features.
use Rattle.std.proofs.Common.{◌≡◌, ◌∙◌, rules}
use Rattle.std.specs.Ordering.{ordering_then, nat_cmp}
use Rattle.std.specs.Cmp.Lexicographic.{slice_cmp}
use Rattle.std.specs.declared.cmp.Ordering.{Ordering}
use Rattle.shapes.specs.Order.{id_cmp, shape_cmp, feature_cmp}
use Rattle.shapes.specs.declared.shape.Id.{Id}
use Rattle.shapes.specs.declared.feature.Feature.{Feature}
use Rattle.shapes.specs.contracts.shape.IdOrd.TheImpl as id

id_derived_is : (a b : Id) → id.cmp-value.it a b ≡ id_cmp a b
id_derived_is a b = search rules

-- from what the comparisons of the three parts answer
pub feature_cmp_from : (a b : Feature) (x y z : Ordering) → x ≡ id.cmp-value.it a.id b.id → y ≡ slice_cmp nat_cmp a.props.text b.props.text → z ≡ shape_cmp a.shape b.shape → ordering_then x (ordering_then y z) ≡ feature_cmp a b
unfolding feature_cmp
feature_cmp_from a b x y z p q r = λ i. ordering_then ((p ∙ id_derived_is a.id b.id) i) (ordering_then (q i) (r i))
