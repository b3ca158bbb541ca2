-- Layers that stand for others, over other arcs: what they stitch to, the others stitch to as well.
use Rattle.std.specs.Prelude.{◌≡◌, List}
use Rattle.grid.specs.declared.pos.Pos.{Pos}
use Rattle.shapes.specs.declared.feature.Feature.{Feature}
use Rattle.theory.specs.Lists.{Pairwise}
use Rattle.topo.specs.Features.{IsFeatureOf}
use Rattle.topo.specs.Parts.{LayerParts}
use Rattle.topo.specs.declared.geom.Geom.{Geom}

-- each feature that the new geometry stitches to over the new arcs is one that the old geometry stitches to over the old arcs
abbrev pub KeepsFeature : List (List Pos) → List (List Pos) → Geom → Geom → Type 0
KeepsFeature arcs new_arcs g k = (f : Feature) → IsFeatureOf new_arcs f k → IsFeatureOf arcs f g

-- the new layer has the name, and in the same order geometries that keep the features
pub record KeepsLayer (arcs new_arcs : List (List Pos)) (l k : LayerParts) : Type 0 where
  pub name : k.name ≡ l.name
  pub geometries : Pairwise (KeepsFeature arcs new_arcs) l.geometries k.geometries

-- the same of all layers, in the same order
abbrev pub KeepLayers : List (List Pos) → List (List Pos) → List LayerParts → List LayerParts → Type 0
KeepLayers arcs new_arcs = Pairwise (KeepsLayer arcs new_arcs)
