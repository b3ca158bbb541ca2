-- Objects that have faults.
use Rattle.std.proofs.Common.{◌≡◌, ◌≢◌, Bool, true, false, List, [], Option, Some, None, Result, Ok, Err, is_some, refl, sym, ap, ◌∙◌, subst}
use Rattle.json.specs.Json.{Json, null, boolean, number, string, array, object, Members}
use Rattle.json.specs.Find.{as_object}
use Rattle.faults.specs.Fault.{Pair}
use Rattle.faults.specs.declared.fault.FaultKind.{FaultKind}
use Rattle.faults.specs.declared.fault.FaultKind.TheVariants.{WrongKind, UnknownType}
use Rattle.fixing.specs.declared.rules.FixingRules.{FixingRules}
use Rattle.reading.specs.Fault.{here}
use Rattle.reading.specs.Parts.{typed_faults}
use Rattle.decimal_faults.specs.Parts.{object_faults}
use Rattle.decimal_faults.specs.declared.geometry.GeometryForm.{GeometryForm}
use Rattle.decimal_faults.specs.declared.geometry.GeometryForm.TheVariants.{Simple, Collection}
use Rattle.decimal_topologies.specs.Geometries.{form_of, form_under, split_if, taken}

pub object_none : (ps : List Pair) (o : Option Members) → is_some o ≡ false → object_faults ps o ≡ here WrongKind
object_none ps None e = refl
object_none ps (Some ms) e = cc

pub object_some : (ps : List Pair) (o : Option Members) → is_some o ≡ true → object_faults ps o ≡ ps
object_some ps None e = cc
object_some ps (Some ms) e = refl

-- what has a type is an object
pub form_object : (j : Json) (f : Option GeometryForm) → form_of j ≡ Ok f → is_some (as_object j) ≡ true
form_object null f e = cc
form_object (boolean b) f e = cc
form_object (number s) f e = cc
form_object (string s) f e = cc
form_object (array js) f e = cc
form_object (object ms) f e = refl

-- the faults of an object by its form
abbrev pub by_form : FixingRules → (Option GeometryForm → List Pair) → Json → List Pair
by_form fixing rest j = object_faults (typed_faults rest (form_under fixing j)) (as_object j)

-- an object that has a fault by its form
pub faulty_form : (fixing : FixingRules) (rest : Option GeometryForm → List Pair) (j : Json) (f : Option GeometryForm) → form_of j ≡ Ok f → rest f ≢ [] → by_form fixing rest j ≢ []
faulty_form fixing rest j f e faulty none = go f faulty (sym (ap (λ r. typed_faults rest (taken fixing r)) e) ∙ (sym (object_some _ (as_object j) (form_object j f e)) ∙ none))
  where
    split : (b : Bool) → rest (Some Collection) ≢ [] → (r : Result (Option GeometryForm) FaultKind) → r ≡ split_if fixing (Some Collection) → fixing.splits_collections ≡ b → typed_faults rest r ≡ [] → ⊥
    split true faulty r is splits none = let same : r ≡ Ok (Some Collection) = rw splits at is in faulty (subst (λ s. typed_faults rest s ≡ []) same none)
    split false faulty r is stays none = let same : r ≡ Err UnknownType = rw stays at is in let m = subst (λ s. typed_faults rest s ≡ []) same none in cc

    go : (g : Option GeometryForm) → rest g ≢ [] → typed_faults rest (split_if fixing g) ≡ [] → ⊥
    go None faulty none = faulty none
    go (Some (Simple k)) faulty none = faulty none
    go (Some Collection) faulty none = split fixing.splits_collections faulty _ refl refl none

-- an object whose type has a fault
pub faulty_type : (fixing : FixingRules) (rest : Option GeometryForm → List Pair) (j : Json) (k : FaultKind) → form_of j ≡ Err k → by_form fixing rest j ≢ []
faulty_type fixing rest j k e none = go (is_some (as_object j)) refl
  where
    go : (b : Bool) → is_some (as_object j) ≡ b → ⊥
    go true some = let m = sym (ap (λ r. typed_faults rest (taken fixing r)) e) ∙ (sym (object_some _ (as_object j) some) ∙ none) in cc
    go false other = let m = sym (object_none (typed_faults rest (form_under fixing j)) (as_object j) other) ∙ none in cc
