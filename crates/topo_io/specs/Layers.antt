-- Layers as they are read, and the map of them.
use Rattle.std.specs.Prelude.{ℕ, List, [], ◌∷◌, map, Vec, String, string_bytes}
use Rattle.std.specs.declared.alloc.Global.{Global}
use Rattle.shapes.specs.Maps.{Layers, with_features}
use Rattle.shapes.specs.Sets.{from_list}
use Rattle.shapes.specs.declared.feature.Feature.{Feature}
use Rattle.reading.specs.Plain.{Plain, plain}

-- a layer by its name's bytes, its features as plain data
abbrev pub plain_layer : String Global × Vec Feature Global → List ℕ × List Plain
plain_layer m = (string_bytes m.0, map plain m.1.items)

-- a layer by its name's bytes, with its features
abbrev pub layer_read : String Global × Vec Feature Global → List ℕ × List Feature
layer_read m = (string_bytes m.0, m.1.items)

-- the layers' names
abbrev pub names_read : List (String Global × Vec Feature Global) → List (List ℕ)
names_read ls = map (λ m. string_bytes m.0) ls

-- m with these features beside those under their layers' names
abbrev pub with_layers : Layers → List (List ℕ × List Feature) → Layers
with_layers m [] = m
with_layers m (l ∷ ls) = with_layers (with_features m l.0 (from_list l.1)) ls
