-- The faults of texts that are topologies or GeoJSON.
use Rattle.std.proofs.Common.{◌≡◌, ℕ, List, Bool, true, false, Some, None, refl, ap, ◌∙◌, if◌then◌else◌}
use Rattle.std.specs.Str.{IsUtf8, is_utf8}
use Rattle.std.proofs.lemmas.Str.{IsUtf8-from_is_utf8, is_utf8-from_IsUtf8}
use Rattle.json.specs.Json.{Json, document}
use Rattle.decimal_topologies.specs.Roots.{is_topology, topology_faults}
use Rattle.rounded_maps.specs.Rounded.{text_faults}
use Rattle.rounded_maps.specs.Topologies.{faults_of_either, topology_rules, tree_faults}
use Rattle.rounded_maps.specs.declared.rounding.RoundingRules.{RoundingRules}

module _ (rules : RoundingRules) (text : List ℕ) where
  by_tree : (j : Json) → IsUtf8 text → document text ≡ Some j → faults_of_either rules text ≡ tree_faults rules text (Some j)
  by_tree j utf8 is = ap (tree_faults rules text) (ap (λ b. if b then document text else None) (is_utf8-from_IsUtf8 text utf8) ∙ is)

  -- those of a topology
  pub of_topology : (j : Json) → IsUtf8 text → document text ≡ Some j → is_topology j ≡ true → faults_of_either rules text ≡ topology_faults (topology_rules rules) rules.fixing j
  of_topology j utf8 is kind = by_tree j utf8 is ∙ ap (λ b. if b then topology_faults (topology_rules rules) rules.fixing j else text_faults rules text) kind

  -- those of GeoJSON
  pub of_geojson : (j : Json) → IsUtf8 text → document text ≡ Some j → is_topology j ≡ false → faults_of_either rules text ≡ text_faults rules text
  of_geojson j utf8 is kind = by_tree j utf8 is ∙ ap (λ b. if b then topology_faults (topology_rules rules) rules.fixing j else text_faults rules text) kind

  -- and of a text that is no JSON in UTF-8
  pub of_no_tree : (IsUtf8 text → document text ≡ None) → faults_of_either rules text ≡ text_faults rules text
  of_no_tree none = ap (tree_faults rules text) (go (is_utf8 text) refl)
    where
      go : (b : Bool) → is_utf8 text ≡ b → (if b then document text else None) ≡ None
      go true e = none (IsUtf8-from_is_utf8 text e)
      go false e = refl
