-- Texts about quality.
use Rattle.std.proofs.Common.{◌≡◌, ◌∙◌, Bool, Option, None, Some, Vec, ◌++◌, ◌∷◌, [], List, ap, codes, map, refl}
use Rattle.std.specs.declared.alloc.Global.{Global}
use Rattle.compare.specs.declared.quality.near.NearVertices.{NearVertices}
use Rattle.grid.specs.Place.{Transform}
use Rattle.sinks.specs.Texts.{after_commas, bracketed, joined, list_text}
use Rattle.report_texts.specs.QualityParts.{layer_lists, lists_found, text_or_null}
use Rattle.report_texts.specs.QualityText.{AreNearIf, IsQualityText, found_text, layer_lists_text, lists_if, lists_text}
use Rattle.report_texts.specs.declared.quality_text.IdLists.{IdLists}
use Rattle.report_texts.specs.declared.quality_text.QualityTests.{QualityTests}
use Rattle.topo.specs.Parts.{TopologyParts}

after_map : (ls : List IdLists) → after_commas (λ l. layer_lists_text (layer_lists l)) ls ≡ after_commas layer_lists_text (map layer_lists ls)
after_map [] = refl
after_map (l ∷ ls) = ap (λ t. (codes "," ++ layer_lists_text (layer_lists l)) ++ t) (after_map ls)

joined_map : (ls : List IdLists) → joined (λ l. layer_lists_text (layer_lists l)) ls ≡ joined layer_lists_text (map layer_lists ls)
joined_map [] = refl
joined_map (l ∷ ls) = ap (λ t. layer_lists_text (layer_lists l) ++ t) (after_map ls)

-- the lists of layers, of which these are the parts
pub lists_are : (ls : List IdLists) → list_text (λ l. layer_lists_text (layer_lists l)) ls ≡ list_text layer_lists_text (map layer_lists ls)
lists_are ls = ap bracketed (joined_map ls)

-- the text of lists is that of the parts
text_is : (lists : Option (Vec IdLists Global)) → text_or_null lists ≡ lists_text (lists_found lists)
text_is None = refl
text_is (Some ls) = lists_are ls.items

-- what was found is what is asked for
pub found_is : (q : QualityTests) (canonical : Bool) (t : TopologyParts) (lists : Option (Vec IdLists Global)) (g : Transform) (near : Option NearVertices) → lists_found lists ≡ lists_if q.ids t → g ≡ t.grid →
    AreNearIf t q.near q.listed near → IsQualityText q canonical t (found_text canonical (text_or_null lists) g near)
found_is q canonical t lists g near e f are = record { near = near; are = are; is = λ i. found_text canonical ((text_is lists ∙ ap lists_text e) i) (f i) near }
