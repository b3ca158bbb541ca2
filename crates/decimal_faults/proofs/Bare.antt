-- A geometry that is no feature's has an id and properties without faults.
use Rattle.std.proofs.Common.{◌≡◌, Bool, true, false, ◌&&◌, List, [], ◌∷◌, ◌++◌, Some, None, codes, refl, sym, subst}
use Rattle.json.specs.Json as json
use Rattle.faults.specs.Path.{name}
use Rattle.reading.specs.Fault.{under}
use Rattle.attributes.specs.Refusals.{attributes_faults, own_id_faults, named_id_faults, members_faults, has_wrong_number, refuses}
use Rattle.attributes.specs.Values.{has_beyond}
use Rattle.attributes.specs.declared.rules.AttributeRules.{AttributeRules}
use Rattle.attributes.specs.declared.rules.Scale.{Scale}

none_beyond : (ss : List Scale) → has_beyond ss None ≡ false
none_beyond [] = refl
none_beyond (s ∷ ss) = none_beyond ss

never : (b : Bool) → (b && false) ≡ false
never true = refl
never false = refl

right : (r : AttributeRules) → has_wrong_number r None 0 ≡ false
right r = rw (none_beyond r.scales.now) (never (refuses r.reals))

pub bare_attributes : (r : AttributeRules) → r.id ≡ None → attributes_faults r None None ≡ []
bare_attributes r e =
    subst (λ o. own_id_faults o r.reals None ++ under (name (codes "properties")) (members_faults r None (named_id_faults o r.reals None) (Some json.no_members)) ≡ []) (sym e)
    (rw (right r) refl)
