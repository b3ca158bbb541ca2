-- What the compact text of a checked object is.
use Rattle.std.proofs.Common.{◌≡◌, ℕ, ◌≤◌, lit≤, List, [], ◌∷◌, true, false, not, Some, is_some, unwrap_or, refl, sym, ap, ◌∙◌, arith, le-leb, IsUtf8}
use Rattle.std.proofs.lemmas.Bool.{and_from}
use Rattle.std.proofs.lemmas.Slice.Eq.{bytes_eq-Decides}
use Rattle.std.proofs.lemmas.Str.{is_utf8-from_IsUtf8}
use Rattle.json.specs.Lex.{tokens}
use Rattle.json.specs.Tree.{json_tokens}
use Rattle.serde_json.specs.Data.{Data, object, Members, no_members, depth}
use Rattle.serde_json.specs.Find.{as_object}
use Rattle.serde_json.specs.Read.{read}
use Rattle.serde_json.specs.Written.{outline, has_float, compact_text, IsInOrder}
use Rattle.serde_json.proofs.OnLiterals.{serde_json_on_literals}
use Rattle.serde_json.proofs.Texts.{tokens_from_order}
use Rattle.shapes.specs.declared.nesting.TheConstants.{GREATEST_PROPERTY_DEPTH}
use Rattle.shapes.specs.Properties.{is_properties, properties_value}

value_is : (t : List ℕ) (d : Data) → read t ≡ Some d → properties_value t ≡ d
value_is t d reads = ap (λ o. unwrap_or o (object no_members)) reads

pub made : (t : List ℕ) (d : Data) (ms : Members) → d ≡ object ms → (has_float d ≡ false → t ≡ compact_text d) → (depth d ≤ 127 → read t ≡ Some d) → IsUtf8 t → has_float d ≡ false → depth d ≤ GREATEST_PROPERTY_DEPTH → is_properties t ≡ true
made t d ms is text reads utf8 whole shallow =
    let found : read t ≡ Some d = reads (omega arith) in
    let v = value_is t d found in
    let low : depth (properties_value t) ≤ GREATEST_PROPERTY_DEPTH = omega (arith, ap depth v) in
    and_from _ _ (ap is_some found) (and_from _ _ (ap (λ e. is_some (as_object e)) (v ∙ is)) (and_from _ _ ((bytes_eq-Decides t (compact_text (properties_value t))).1 (text whole ∙ ap compact_text (sym v)))
    (and_from _ _ (is_utf8-from_IsUtf8 t utf8) (and_from _ _ (ap (λ e. not (has_float e)) v ∙ ap not whole) (le-leb _ _ low)))))

pub lexed : (t : List ℕ) (d : Data) → (depth d ≤ 127 → read t ≡ Some d) → IsInOrder t d → has_float d ≡ false → depth d ≤ GREATEST_PROPERTY_DEPTH → tokens t ≡ json_tokens (outline (properties_value t))
lexed t d reads order whole shallow = tokens_from_order t d order whole ∙ ap (λ e. json_tokens (outline e)) (sym (value_is t d (reads (omega arith))))

-- the text `{}`
empty_reads : read (123 ∷ 125 ∷ []) ≡ Some (object no_members)
unfolding serde_json_on_literals
empty_reads = refl

pub empty_is_properties : IsUtf8 (123 ∷ 125 ∷ []) → is_properties (123 ∷ 125 ∷ []) ≡ true
empty_is_properties utf8 = made (123 ∷ 125 ∷ []) (object no_members) no_members refl (λ _. refl) (λ _. empty_reads) utf8 refl (lit≤ tt)

pub empty_is_lexed : tokens (123 ∷ 125 ∷ []) ≡ json_tokens (outline (properties_value (123 ∷ 125 ∷ [])))
unfolding serde_json_on_literals
empty_is_lexed = refl
