-- The texts of layers, as they are written.
use Rattle.std.proofs.Common.{◌≡◌, ℕ, List, ◌++◌, ap, ◌∙◌, codes}
use Rattle.grid.specs.declared.pos.Pos.{Pos}
use Rattle.shapes.specs.Parts.{spelled_text}
use Rattle.shapes.specs.Spelling.{spelling_of}
use Rattle.shapes.specs.declared.spelled.Spelled.{Spelled}
use Rattle.sinks.specs.Texts.{list_text}
use Rattle.decimals.specs.Topology.LayersBack.{BackGeometryParts, BackLayerParts}
use Rattle.decimals.specs.Topology.TopologyText.{geometry_text, layer_text}

-- a layer's name and its geometries, as they are written
pub layer_is : (f : Pos → List ℕ) (l : BackLayerParts) {n m : List ℕ} {s : Spelled} {gs : List BackGeometryParts} → n ≡ m → m ≡ spelling_of (spelled_text s) → s ≡ l.name → gs ≡ l.geometries
    → n ++ (codes ":{\"type\":\"GeometryCollection\",\"geometries\":" ++ (list_text (geometry_text f) gs ++ codes "}")) ≡ layer_text f l
layer_is f l {n} {m} {s} {gs} bytes spelled name e =
    (λ i. (bytes ∙ spelled ∙ ap (λ x. spelling_of (spelled_text x)) name) i ++ (codes ":{\"type\":\"GeometryCollection\",\"geometries\":" ++ (list_text (geometry_text f) (e i) ++ codes "}")))
