use Rattle.std.proofs.Common.{◌≡◌, nat_eq, length, List, [], ◌∷◌, Some, refl, ap, ◌∙◌, arith, ne_eqb}
use Rattle.std.specs.declared.alloc.Global.{Global}
use Rattle.json.specs.Value.{items_view}
use Rattle.json.specs.declared.value.Value.{Value}
use Rattle.decimal_faults.specs.Geometries.{is_nothing}
use Rattle.decimal_faults.proofs.coordinates.is_empty.Goals as goal

counted : (vs : List (Value Global)) → nat_eq (length vs) 0 ≡ is_nothing (Some (items_view vs))
counted [] = refl
counted (v ∷ vs) = ne_eqb (length (v ∷ vs)) 0 (λ e. omega (arith, e))

pub returns-in-Some : goal.returns-in-Some
returns-in-Some c = counted c.in-Some.items.now ∙ ap is_nothing c.in-Some.ensures
