-- The compact text of a property's value.
use Rattle.std.proofs.Common.{◌≡◌, ℕ, Bool, true, false, List, refl, sym, ap, ◌∙◌, subst, Option, Some}
use Rattle.std.specs.Prelude.{◌&&◌, ◌||◌, not, nat_le, is_some, unwrap_or, IfOk, Result, Ok, Err}
use Rattle.std.specs.Cmp.Lexicographic.{slice_cmp}
use Rattle.std.specs.Ordering.{match_ordering, nat_cmp}
use Rattle.std.specs.Str.{bytes_eq, is_utf8}
use Rattle.std.specs.declared.cmp.Ordering.{Ordering}
use Rattle.std.specs.declared.cmp.Ordering.TheVariants.{Less, Equal, Greater}
use Rattle.serde_json.specs.Data.{Data, Members, array, boolean, depth, member, no_members, null, number, object, string}
use Rattle.serde_json.specs.Find.{as_object, get, get_member}
use Rattle.serde_json.specs.Read.{read}
use Rattle.serde_json.specs.Written.{compact_text, has_float, members_have_float}
use Rattle.shapes.specs.Properties.{is_properties, properties_value}
use Rattle.shapes.specs.PropertyValues.{property_text, text_of_value}
use Rattle.shapes.specs.declared.nesting.TheConstants.{GREATEST_PROPERTY_DEPTH}

first : (a b : Bool) → (a || b) ≡ false → a ≡ false
first true b e = e
first false b e = refl

second : (a b : Bool) → (a || b) ≡ false → b ≡ false
second true b e = absurd (let f : true ≡ false = e in cc)
second false b e = e

left : (a b : Bool) → (a && b) ≡ true → a ≡ true
left true b e = refl
left false b e = e

right : (a b : Bool) → (a && b) ≡ true → b ≡ true
right true b e = e
right false b e = absurd (let f : false ≡ true = e in cc)

opposite : (a : Bool) → not a ≡ true → a ≡ false
opposite true e = absurd (let f : false ≡ true = e in cc)
opposite false e = refl

whole_member : (k : List ℕ) (ms : Members) (d : Data) → members_have_float ms ≡ false → get_member k ms ≡ Some d → has_float d ≡ false
whole_member k no_members d f e = absurd cc
whole_member k (member l v ms) d f e = go (slice_cmp nat_cmp k l) e (whole_member k ms d (second (has_float v) (members_have_float ms) f))
  where
    go : (o : Ordering) → match_ordering o (get_member k ms) (Some v) (get_member k ms) ≡ Some d → (get_member k ms ≡ Some d → has_float d ≡ false) → has_float d ≡ false
    go Less h later = later h
    go Equal h later = let s : v ≡ d = cc in subst (λ w. has_float w ≡ false) s (first (has_float v) (members_have_float ms) f)
    go Greater h later = later h

whole : (k : List ℕ) (v d : Data) → has_float v ≡ false → get k v ≡ Some d → has_float d ≡ false
whole k null d f e = absurd cc
whole k (boolean b) d f e = absurd cc
whole k (number n) d f e = absurd cc
whole k (string s) d f e = absurd cc
whole k (array ds) d f e = absurd cc
whole k (object ms) d f e = whole_member k ms d f e

no_float : (t : List ℕ) → is_properties t ≡ true → has_float (properties_value t) ≡ false
no_float t e =
    opposite (has_float (properties_value t))
    (left (not (has_float (properties_value t))) (nat_le (depth (properties_value t)) GREATEST_PROPERTY_DEPTH)
    (right (is_utf8 t) (not (has_float (properties_value t)) && nat_le (depth (properties_value t)) GREATEST_PROPERTY_DEPTH)
    (right (bytes_eq t (compact_text (properties_value t))) (is_utf8 t && (not (has_float (properties_value t)) && nat_le (depth (properties_value t)) GREATEST_PROPERTY_DEPTH))
    (right (is_some (as_object (properties_value t))) (bytes_eq t (compact_text (properties_value t)) && (is_utf8 t && (not (has_float (properties_value t)) && nat_le (depth (properties_value t)) GREATEST_PROPERTY_DEPTH)))
    (right (is_some (read t)) (is_some (as_object (properties_value t)) && (bytes_eq t (compact_text (properties_value t)) && (is_utf8 t && (not (has_float (properties_value t)) && nat_le (depth (properties_value t)) GREATEST_PROPERTY_DEPTH)))) e)))))

value_is : (t : List ℕ) (d : Data) → read t ≡ Some d → properties_value t ≡ d
value_is t d e = ap (λ w. unwrap_or w (object no_members)) e

-- the value of a property has no fraction
pub whole_found : (t k : List ℕ) (v d : Data) → is_properties t ≡ true → read t ≡ Some v → Some d ≡ get k v → has_float d ≡ false
whole_found t k v d is e at = whole k v d (subst (λ w. has_float w ≡ false) (value_is t v e) (no_float t is)) (sym at)

pub text_found : (t k : List ℕ) (v : Data) (o : Option Data) → read t ≡ Some v → o ≡ get k v → text_of_value o ≡ property_text k t
text_found t k v o e at = ap text_of_value (at ∙ ap (get k) (sym (value_is t v e)))

-- what the code answers of the value that is found
pub text_answers : {O E : Type 0} (f : O → Option (List ℕ)) (r : Result O E) (s t k : List ℕ) (v d : Data) → is_properties t ≡ true → s ≡ t → read s ≡ Some v → Some d ≡ get k v →
    IfOk r (λ o. has_float d ≡ false → f o ≡ text_of_value (Some d)) → IfOk r (λ o. f o ≡ property_text k t)
text_answers f (Ok o) s t k v d is same e at h =
    let r : read t ≡ Some v = ap read (sym same) ∙ e in
    h (whole_found t k v d is r at) ∙ text_found t k v (Some d) r at
text_answers f (Err x) s t k v d is same e at h = tt
