-- Arcs without repeated positions, and layers without the arcs that have one position then.
use Rattle.std.specs.Prelude.{◌≡◌, Bool, true, false, cond, List, [], ◌∷◌, Option, Some, None, length, map, nat_lt, slice_get}
use Rattle.grid.specs.declared.pos.Pos.{Pos}
use Rattle.lines.specs.Neighbours.{equal_neighbours}
use Rattle.lines.specs.Reading.{collapsed}
use Rattle.lines.specs.Turned.{position_cmp}
use Rattle.theory.specs.ArcNumbers.{ArcRef}
use Rattle.theory.specs.TopologyFunction.{keep, same_vertex}
use Rattle.topo.specs.Rewritten.{layer_rewritten}
use Rattle.topo.specs.Parts.{LayerParts}

-- whether an arc has equal neighbours
abbrev pub some_repeats : List (List Pos) → Bool
some_repeats [] = false
some_repeats (c ∷ cs) = cond (equal_neighbours (same_vertex position_cmp) c) true (some_repeats cs)

-- whether there is an arc of two positions or more
abbrev pub long_arc : Option (List Pos) → Bool
long_arc None = false
long_arc (Some c) = nat_lt 1 (length c)

-- whether the used arc has two positions or more
abbrev pub is_long : List (List Pos) → ArcRef → Bool
is_long arcs a = long_arc (slice_get arcs a.arc)

-- the used arcs that have two positions or more
abbrev pub long_refs : List (List Pos) → List ArcRef → List ArcRef
long_refs arcs used = keep (is_long arcs) used

-- a layer by the used arcs that have two positions or more
abbrev pub layer_long : List (List Pos) → LayerParts → LayerParts
layer_long arcs = layer_rewritten (long_refs arcs) (long_refs arcs)

-- equal neighbours in an arc are read as one, and used arcs that have one position then are left out [TopoJSON, 2.1.4; own]
pub record AreWithoutRepeats (old_arcs : List (List Pos)) (old_layers : List LayerParts) (new_arcs : List (List Pos)) (new_layers : List LayerParts) : Type 0 where
  pub arcs : new_arcs ≡ map (collapsed position_cmp) old_arcs
  pub layers : new_layers ≡ map (layer_long new_arcs) old_layers
