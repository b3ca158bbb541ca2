-- The texts of a topology's parts, as they are written.
use Rattle.std.proofs.Common.{◌≡◌, ℕ, ℤ, List, ◌++◌, sym, ap, ◌∙◌, codes, Option}
use Rattle.grid.specs.Place.{Transform}
use Rattle.grid.specs.declared.pos.Pos.{Pos}
use Rattle.arcs.specs.Arcs.{Arcs}
use Rattle.shapes.specs.Parts.{spelled_text}
use Rattle.shapes.specs.Spelling.{spelling_of}
use Rattle.shapes.specs.declared.spelled.Spelled.{Spelled}
use Rattle.sinks.specs.Texts.{joined, list_text, option_text}
use Rattle.topo.specs.Parts.{Corners, LayerParts, TopologyParts}
use Rattle.topo.specs.OfMap.{item_of, layer_of, seen_parts}
use Rattle.topo.specs.declared.geom.Geom.{Geom}
use Rattle.arcs.specs.ArcTexts.{arc_text}
use Rattle.topo_io.specs.TopologyText.{geometry_text, layer_text, bbox_text, transform_of, transform_text, topology_text}
use Rattle.shapes.proofs.WritingLemmas.Joined.{joined_map, list_text_map}

-- a layer's name and its geometries, as they are written
pub layer_is : (l : LayerParts) {n m : List ℕ} {s : Spelled} {gs : List Geom} → n ≡ m → m ≡ spelling_of (spelled_text s) → s ≡ l.name → gs ≡ l.geometries
    → n ++ (codes ":{\"geometries\":" ++ (list_text (λ g. geometry_text (item_of g)) gs ++ codes ",\"type\":\"GeometryCollection\"}")) ≡ layer_text (layer_of l)
layer_is l {n} {m} {s} {gs} bytes spelled name e =
    ap (λ x. x ++ (codes ":{\"geometries\":" ++ (list_text (λ g. geometry_text (item_of g)) gs ++ codes ",\"type\":\"GeometryCollection\"}"))) (bytes ∙ spelled ∙ ap (λ x. spelling_of (spelled_text x)) name)
    ∙ ap (λ t. spelling_of (spelled_text l.name) ++ (codes ":{\"geometries\":" ++ (t ++ codes ",\"type\":\"GeometryCollection\"}")))
    (ap (list_text (λ g. geometry_text (item_of g))) e ∙ sym (list_text_map geometry_text item_of l.geometries))

-- the whole text, as it is written
abbrev pub text_with : List (List Pos) → Option Corners → List LayerParts → Transform → List ℕ
text_with arcs bbox layers grid =
    codes "{\"arcs\":[" ++ (joined arc_text arcs ++ (codes "]," ++ (option_text bbox_text bbox
    ++ (codes "\"objects\":{" ++ (joined (λ l. layer_text (layer_of l)) layers ++ (codes "}," ++ (transform_text grid ++ codes ",\"type\":\"Topology\"}")))))))

-- the grid of its scales and translations
grid_is : (t g : Transform) (s d : ℤ × ℤ) → s ≡ (g.x.scale, g.y.scale) → d ≡ (g.x.translate, g.y.translate) → g ≡ t → transform_of s d ≡ t
grid_is t g s d e f h = (λ i. transform_of (e i) (f i)) ∙ h

pub topology_is : (t : TopologyParts) {a : Arcs} {b : Option Corners} {ls : List LayerParts} {g : Transform} {s d : ℤ × ℤ} → a ≡ t.arcs → b ≡ t.bbox → ls ≡ t.layers → s ≡ (g.x.scale, g.y.scale) → d ≡ (g.x.translate, g.y.translate) → g ≡ t.grid → text_with a.arcs b ls (transform_of s d) ≡ topology_text (seen_parts t)
topology_is t {a} {b} {ls} {g} {s} {d} e f h scale translate k =
    ap (λ x. text_with x.arcs b ls (transform_of s d)) e
    ∙ ap (λ x. text_with t.arcs.arcs x ls (transform_of s d)) f
    ∙ ap (λ x. text_with t.arcs.arcs t.bbox x (transform_of s d)) h
    ∙ ap (λ x. text_with t.arcs.arcs t.bbox t.layers x) (grid_is t.grid g s d scale translate k)
    ∙ ap (λ x. codes "{\"arcs\":[" ++ (joined arc_text t.arcs.arcs ++ (codes "]," ++ (option_text bbox_text t.bbox
    ++ (codes "\"objects\":{" ++ (x ++ (codes "}," ++ (transform_text t.grid ++ codes ",\"type\":\"Topology\"}"))))))))
    (sym (joined_map layer_text layer_of t.layers))
