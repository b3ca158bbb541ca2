-- The parts of a text about quality as that has them.
use Rattle.std.specs.Prelude.{ℕ, List, Option, Some, None, Vec, codes, map}
use Rattle.std.specs.declared.alloc.Global.{Global}
use Rattle.shapes.specs.Parts.{spelled_text}
use Rattle.sinks.specs.Texts.{list_text}
use Rattle.report_texts.specs.QualityText.{LayerLists, layer_lists_text}
use Rattle.report_texts.specs.declared.quality_text.IdLists.{IdLists}

-- the name and the lists of a layer
abbrev pub layer_lists : IdLists → LayerLists
layer_lists l = (spelled_text l.name.now, (l.missing.items, l.repeated.items))

-- the same of layers, where there are some
abbrev pub lists_found : Option (Vec IdLists Global) → Option (List LayerLists)
lists_found None = None
lists_found (Some ls) = Some (map layer_lists ls.items)

-- the text of the lists of a layer
abbrev pub id_lists_text : IdLists → List ℕ
id_lists_text l = layer_lists_text (layer_lists l)

-- the same of layers, or null
abbrev pub text_or_null : Option (Vec IdLists Global) → List ℕ
text_or_null None = codes "null"
text_or_null (Some ls) = list_text id_lists_text ls.items
