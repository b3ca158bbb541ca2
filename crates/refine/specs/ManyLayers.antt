-- The parts of many topologies, and their layers by the arcs of one table.
use Rattle.std.specs.Prelude.{ℕ, ◌+◌, List, [], ◌∷◌, map as map_list, Vec}
use Rattle.std.specs.declared.alloc.Global.{Global}
use Rattle.grid.specs.declared.pos.Pos.{Pos}
use Rattle.lines.specs.Turned.{position_cmp}
use Rattle.shapes.specs.Maps.{Layers}
use Rattle.arcs.specs.Arcs.{Arcs}
use Rattle.chains.specs.Seen.{geometry_of, seen}
use Rattle.theory.specs.Geometry.{JunctionOf}
use Rattle.theory.specs.Lists.{Pairwise}
use Rattle.theory.specs.Topology.{IsLayerOf}
use Rattle.refine.specs.OnGrid.{MapOnGrid}
use Rattle.topo.specs.LayerLaws.CutLayers.{layer_recut}
use Rattle.split_heal.specs.PartsOfAll.{RecutAllParts, of_table}
use Rattle.topo.specs.OfMap.{ArePartsOf, layer_of}
use Rattle.topo.specs.Parts.{LayerParts}

-- the layers of each list
abbrev pub layers_in : List (Vec LayerParts Global) → List (List LayerParts)
layers_in lists = map_list (λ v. v.items) lists

-- place by place, the table and the layers are the parts of the map
abbrev pub ArePartsOfAll : List Layers → List Arcs → List (List LayerParts) → Type 0
ArePartsOfAll [] [] [] = Unit {0}
ArePartsOfAll [] [] (l ∷ ls) = ⊥
ArePartsOfAll [] (t ∷ ts) ls = ⊥
ArePartsOfAll (m ∷ ms) [] ls = ⊥
ArePartsOfAll (m ∷ ms) (t ∷ ts) [] = ⊥
ArePartsOfAll (m ∷ ms) (t ∷ ts) (l ∷ ls) = ArePartsOf m t l × ArePartsOfAll ms ts ls

-- lists of layers by the arcs that the old ones are cut into, where the first list is by those of table n
abbrev pub layers_recut_from : RecutAllParts → ℕ → List (List LayerParts) → List (List LayerParts)
layers_recut_from r n [] = []
layers_recut_from r n (l ∷ ls) = map_list (layer_recut r.arcs.arcs (of_table n r)) l ∷ layers_recut_from r (n + 1) ls

-- the layers are those of the map, by the arcs of a table that has the junctions of u
abbrev pub AreLayersOf : Layers → List (List Pos) → Layers → List LayerParts → Type 0
AreLayersOf u table m ls = Pairwise (IsLayerOf position_cmp (JunctionOf (geometry_of u)) table) (seen m) (map_list layer_of ls)

-- the map of each shard
abbrev pub maps_of : List MapOnGrid → List Layers
maps_of shards = map_list (λ s. s.map) shards
