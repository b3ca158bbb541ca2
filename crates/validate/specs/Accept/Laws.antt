-- Layers that are valid over a table of arcs, and what follows from it.
use Rattle.std.specs.Prelude.{◌≡◌, ℕ, List}
use Rattle.std.specs.FinMap as map
use Rattle.std.specs.List.{AllByRecursion}
use Rattle.grid.specs.declared.pos.Pos.{Pos}
use Rattle.lines.specs.Turned.{position_cmp}
use Rattle.shapes.specs.Ids.{HasI64}
use Rattle.shapes.specs.Maps.{Features, Layers}
use Rattle.shapes.specs.Parts.{spelled_text}
use Rattle.shapes.specs.Sets as set
use Rattle.theory.specs.Lists.{Pairwise}
use Rattle.theory.specs.Validity.{ArcsAreNoded}
use Rattle.arcs.specs.Arcs.{Arcs}
use Rattle.chains.specs.OfArcs.{table_as_map}
use Rattle.topo.specs.Features.{AreFeaturesOf}
use Rattle.topo.specs.GeometryOrder.{LayersHaveFeatures}
use Rattle.topo.specs.OfMap.{ArePartsOf}
use Rattle.topo.specs.Parts.{LayerParts}
use Rattle.validate.specs.Validity.{AreValidLists}
use Rattle.validate.specs.Accept.Lists.{layers_lines, layers_rings}
use Rattle.validate.specs.Accept.Order.{InOrder}

-- the arcs are apart, and the lists of the layers are valid over them
pub record AreValidLayers (t : Arcs) (ls : List LayerParts) : Type 0 where
  pub apart : ArcsAreNoded position_cmp t.arcs (table_as_map t)
  pub lists : AreValidLists t (layers_lines ls) (layers_rings ls)

-- each id that is a number is one of i64
abbrev pub HaveI64 : List LayerParts → Type 0
HaveI64 ls = AllByRecursion (λ l. AllByRecursion (λ g. HasI64 g.id) l.geometries) ls

-- the entry has the layer's name, and the features that the layer's geometries stitch to, in their order
pub record IsStitched (arcs : List (List Pos)) (e : List ℕ × Features) (l : LayerParts) : Type 0 where
  pub name : e.0 ≡ spelled_text l.name
  pub items : AreFeaturesOf arcs (set.items e.1) l.geometries

-- the map has such entries, in the order of the layers
abbrev pub AreStitched : List (List Pos) → Layers → List LayerParts → Type 0
AreStitched arcs m ls = Pairwise (IsStitched arcs) (map.entries m) ls

-- where layers are valid, each geometry stitches to a feature
abbrev pub GeometriesHaveFeatures : Type 0
GeometriesHaveFeatures = (t : Arcs) (ls : List LayerParts) → AreValidLayers t ls → HaveI64 ls → LayersHaveFeatures t.arcs ls

-- in order they stitch to a map
abbrev pub LayersMakeAMap : Type 0
LayersMakeAMap = (t : Arcs) (ls : List LayerParts) → AreValidLayers t ls → HaveI64 ls → InOrder t.arcs ls → (m : Layers) × AreStitched t.arcs m ls

-- and the table and the layers are the parts of that map's topology
abbrev pub LayersAreTheMaps : Type 0
LayersAreTheMaps = (t : Arcs) (ls : List LayerParts) → AreValidLayers t ls → (m : Layers) → AreStitched t.arcs m ls → ArePartsOf m t ls
