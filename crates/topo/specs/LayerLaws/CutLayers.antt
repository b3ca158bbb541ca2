-- How a join of two topologies goes through their layers: what is before a member of the one list among those of the other.
use Rattle.std.specs.Prelude.{List, [], ◌∷◌, Option, Some, None}
use Rattle.std.specs.Cmp.Lexicographic.{slice_cmp}
use Rattle.std.specs.Ordering.{nat_cmp}
use Rattle.std.specs.declared.cmp.Ordering.{Ordering}
use Rattle.grid.specs.declared.pos.Pos.{Pos}
use Rattle.shapes.specs.Parts.{spelled_text}
use Rattle.theory.specs.ArcNumbers.{ArcRef}
use Rattle.topo.specs.GeometryOrder.{geometry_cmp}
use Rattle.topo.specs.Parts.{LayerParts}
use Rattle.topo.specs.declared.geom.Geom.{Geom}
use Rattle.topo.specs.Rewritten.{layer_rewritten}
use Rattle.topo.specs.LayerLaws.Cuts.{by_order, line_recut, merged, ring_recut, united}

-- what is before x
abbrev pub before : {A : Type 0} → (A → A → Ordering) → A → List A → List A
before cmp x [] = []
before cmp x (y ∷ ys) = by_order (cmp x y) [] [] (y ∷ before cmp x ys)

-- what is behind x, without what ties with it
abbrev pub behind : {A : Type 0} → (A → A → Ordering) → A → List A → List A
behind cmp x [] = []
behind cmp x (y ∷ ys) = by_order (cmp x y) (y ∷ ys) ys (behind cmp x ys)

-- what ties with x
abbrev pub tied : {A : Type 0} → (A → A → Ordering) → A → List A → Option A
tied cmp x [] = None
tied cmp x (y ∷ ys) = by_order (cmp x y) None (Some y) (tied cmp x ys)

-- x alone, or what `both` makes of it and another one
abbrev pub with_other : {A : Type 0} → (A → A → A) → A → Option A → A
with_other both x None = x
with_other both x (Some y) = both x y

-- how x compares with the first of a list
abbrev pub to_first : {A : Type 0} → (A → A → Ordering) → A → List A → Option Ordering
to_first cmp x [] = None
to_first cmp x (y ∷ ys) = Some (cmp x y)

-- a layer by the arcs that the old ones are cut into
abbrev pub layer_recut : List (List Pos) → List (List ArcRef) → LayerParts → LayerParts
layer_recut table pieces = layer_rewritten (line_recut pieces) (ring_recut table pieces)

-- layers by the bytes of their names
abbrev pub layer_cmp : LayerParts → LayerParts → Ordering
layer_cmp a b = slice_cmp nat_cmp (spelled_text a.name) (spelled_text b.name)

-- the layer of the geometries of both
abbrev pub layers_as_one : List (List Pos) → LayerParts → LayerParts → LayerParts
layers_as_one arcs a b = record { name = a.name; geometries = merged (geometry_cmp arcs) a.geometries b.geometries }

-- the layers of both, and under one name the geometries of both
abbrev pub layers_merged : List (List Pos) → List LayerParts → List LayerParts → List LayerParts
layers_merged arcs = united layer_cmp (layers_as_one arcs)
