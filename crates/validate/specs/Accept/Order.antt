-- Layers in order: their names ascend, and so do the features that the geometries of each stitch to.
use Rattle.std.specs.Prelude.{Bool, true, false, cond, List, [], ◌∷◌}
use Rattle.std.specs.Cmp.Lexicographic.{slice_cmp}
use Rattle.std.specs.List.{list_all}
use Rattle.std.specs.Ordering.{is_lt, nat_cmp}
use Rattle.std.specs.declared.cmp.Ordering.{Ordering}
use Rattle.grid.specs.declared.pos.Pos.{Pos}
use Rattle.shapes.specs.Parts.{spelled_text}
use Rattle.theory.specs.Arcs.{Ascends}
use Rattle.theory.specs.Lists.{Has}
use Rattle.topo.specs.GeometryOrder.{geometry_cmp}
use Rattle.topo.specs.Parts.{LayerParts}

-- layers by the bytes of their names
abbrev pub name_cmp : LayerParts → LayerParts → Ordering
name_cmp a b = slice_cmp nat_cmp (spelled_text a.name) (spelled_text b.name)

-- each name comes before those behind it, and in each layer the feature of each geometry before those behind it
pub record InOrder (arcs : List (List Pos)) (ls : List LayerParts) : Type 0 where
  pub names : Ascends name_cmp ls
  pub geometries : (l : LayerParts) → Has l ls → Ascends (geometry_cmp arcs) l.geometries

-- whether each comes before the next
abbrev pub rises : {A : Type 0} → (A → A → Ordering) → List A → Bool
rises cmp [] = true
rises cmp (x ∷ []) = true
rises cmp (x ∷ (y ∷ l)) = cond (is_lt (cmp x y)) (rises cmp (y ∷ l)) false

-- the same of the geometries of each layer
abbrev pub each_rises : List (List Pos) → List LayerParts → Bool
each_rises arcs ls = list_all (λ l. rises (geometry_cmp arcs) l.geometries) ls
