-- Bytes and the trees that they are.
use Rattle.std.proofs.Common.{◌≡◌, ℕ, List, Bool, true, false, Some, None, refl, ap, ◌∙◌, if◌then◌else◌}
use Rattle.std.specs.Str.{IsUtf8, is_utf8}
use Rattle.std.proofs.lemmas.Str.{IsUtf8-from_is_utf8, is_utf8-from_IsUtf8}
use Rattle.json.specs.Json.{Json, document}
use Rattle.faults.specs.declared.fault.FaultKind.TheVariants.{NotJson}
use Rattle.fixing.specs.declared.rules.FixingRules.{FixingRules}
use Rattle.reading.specs.Fault.{here}
use Rattle.decimal_maps.specs.declared.rules.MapRules.{MapRules}
use Rattle.decimal_faults.specs.Maps.{document_faults, faults_of_text, map_faults}

pub text_is : (rules : MapRules) (fixing : FixingRules) (bytes : List ℕ) (j : Json) → IsUtf8 bytes → document bytes ≡ Some j → faults_of_text rules fixing bytes ≡ map_faults rules fixing j
text_is rules fixing bytes j utf8 is = ap (document_faults rules fixing) (ap (λ b. if b then document bytes else None) (is_utf8-from_IsUtf8 bytes utf8) ∙ is)

pub no_text : (rules : MapRules) (fixing : FixingRules) (bytes : List ℕ) → (IsUtf8 bytes → document bytes ≡ None) → faults_of_text rules fixing bytes ≡ here NotJson
no_text rules fixing bytes none = ap (document_faults rules fixing) (go (is_utf8 bytes) refl)
  where
    go : (b : Bool) → is_utf8 bytes ≡ b → (if b then document bytes else None) ≡ None
    go true e = none (IsUtf8-from_is_utf8 bytes e)
    go false e = refl
