-- Which geometries of a topology another one has as well, told by the arcs that both are cut into.
use Rattle.std.specs.Prelude.{List, [], ◌∷◌, Option, Some, None}
use Rattle.std.specs.List.{AllByRecursion}
use Rattle.std.specs.declared.cmp.Ordering.{Ordering}
use Rattle.split_heal.specs.SplitParts.{RecutParts}
use Rattle.topo.specs.Features.{HasFeature}
use Rattle.topo.specs.GeometryOrder.{geometry_cmp}
use Rattle.topo.specs.Parts.{LayerParts}
use Rattle.topo.specs.declared.geom.Geom.{Geom}
use Rattle.topo.specs.LayerLaws.CutLayers.{behind, layer_cmp, tied}
use Rattle.topo.specs.LayerLaws.Cuts.{geometry_recut}
use Rattle.topo.specs.LayerLaws.Leaving.{others}

-- a geometry of the left side by the arcs of both
abbrev pub cut_again : RecutParts → Geom → Geom
cut_again r g = geometry_recut r.arcs.arcs r.left g

-- how it compares with one that is by the arcs of both already
abbrev pub by_lists : RecutParts → Geom → Geom → Ordering
by_lists r g h = geometry_cmp r.arcs.arcs (cut_again r g) h

-- each geometry stitches to a feature by the arcs of both
abbrev pub HaveRecut : RecutParts → List Geom → Type 0
HaveRecut r gs = AllByRecursion (λ g. HasFeature r.arcs.arcs (cut_again r g)) gs

-- each geometry of each layer stitches to a feature by the arcs of both
abbrev pub LayersHaveRecut : RecutParts → List LayerParts → Type 0
LayersHaveRecut r ls = AllByRecursion (λ l. HaveRecut r l.geometries) ls

-- the geometries of a layer, where there is one
abbrev pub geometries_in : Option LayerParts → List Geom
geometries_in None = []
geometries_in (Some l) = l.geometries

-- a layer without the geometries that tie with one of these
abbrev pub layer_without : RecutParts → LayerParts → List Geom → LayerParts
layer_without r l hs = record { name = l.name; geometries = others (by_lists r) l.geometries hs }

-- layers, each without the geometries that tie with one of the layer of its name; both lists are in the order of names
abbrev pub layers_without : RecutParts → List LayerParts → List LayerParts → List LayerParts
layers_without r [] ks = []
layers_without r (l ∷ ls) ks = layer_without r l (geometries_in (tied layer_cmp l ks)) ∷ layers_without r ls (behind layer_cmp l ks)
