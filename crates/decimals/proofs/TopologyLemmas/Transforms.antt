-- The numerals of a text's transform.
use Rattle.std.proofs.Common.{◌≡◌, ℕ, Bool, true, false, List, Some, None, Err, if◌then◌else◌, refl, ap, ◌∙◌}
use Rattle.std.proofs.lemmas.Str.{IsUtf8-from_is_utf8, is_utf8-from_IsUtf8}
use Rattle.std.specs.Str.{IsUtf8, is_utf8}
use Rattle.json.specs.Json.{Json, document}
use Rattle.decimals.specs.Topology.TransformFaults.{document_numerals, text_numerals, transform_numerals}
use Rattle.decimals.specs.declared.topology.transform_fault.TransformFault.TheVariants.{NotJson}

pub text_is : (bytes : List ℕ) (j : Json) → IsUtf8 bytes → document bytes ≡ Some j → text_numerals bytes ≡ transform_numerals j
text_is bytes j utf8 is = ap document_numerals (ap (λ b. if b then document bytes else None) (is_utf8-from_IsUtf8 bytes utf8) ∙ is)

pub no_text : (bytes : List ℕ) → (IsUtf8 bytes → document bytes ≡ None) → text_numerals bytes ≡ Err NotJson
no_text bytes none = ap document_numerals (go (is_utf8 bytes) refl)
  where
    go : (b : Bool) → is_utf8 bytes ≡ b → (if b then document bytes else None) ≡ None
    go true e = none (IsUtf8-from_is_utf8 bytes e)
    go false e = refl
