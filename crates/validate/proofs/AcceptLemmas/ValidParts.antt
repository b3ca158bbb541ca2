-- Layers that stand in order are the parts of the topology of a map.
use Rattle.std.proofs.Common.{◌≡◌, Bool, List, ◌++◌, map as map_list, ap, ◌∙◌}
use Rattle.grid.specs.declared.pos.Pos.{Pos}
use Rattle.shapes.specs.Maps.{Layers}
use Rattle.theory.specs.Lists.{gathered}
use Rattle.arcs.specs.Arcs.{Arcs}
use Rattle.validate.specs.Noding.{table_read}
use Rattle.validate.specs.ArcEnds.{line_ends}
use Rattle.validate.specs.FreeLoops.{ends_once, goes_free}
use Rattle.topo.specs.OfMap.{ArePartsOf}
use Rattle.topo.specs.Parts.{LayerParts}
use Rattle.validate.specs.Accept.Laws.{HaveI64}
use Rattle.validate.specs.Accept.Lists.{layers_lines}
use Rattle.validate.specs.Accept.Topology.{AreValidInOrder, table_of}
use Rattle.validate.proofs.AcceptLemmas.PartsOfMaps.{layers_are_the_maps}
use Rattle.validate.proofs.AcceptLemmas.StitchedMaps.{layers_make_a_map}

pub parts_of_a_map : (t : Arcs) (ls : List LayerParts) → HaveI64 ls → AreValidInOrder t ls → (m : Layers) × ArePartsOf m t ls
parts_of_a_map t ls b h = let (m, is) = layers_make_a_map t ls h.stand b h.order in (m, layers_are_the_maps t ls h.stand m is)

-- the marks that are computed, of ends and arcs as the code has them
pub table_made : (arcs again : List (List Pos)) (ls : List LayerParts) (ends : List Pos) (free marks : List Bool) →
    ends ≡ gathered (line_ends arcs) (layers_lines ls) → again ≡ arcs →
    free ≡ map_list (goes_free (ends ++ gathered ends_once again)) again → marks ≡ free → table_read arcs marks ≡ table_of arcs ls
table_made arcs again ls ends free marks e a f m =
    ap (table_read arcs) (m ∙ f ∙ (λ i. map_list (goes_free (e i ++ gathered ends_once (a i))) (a i)))
