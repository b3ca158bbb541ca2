use Rattle.std.proofs.Common.{subst, sym}
use Rattle.theory.specs.Lists.{Pairwise}
use Rattle.arcs.specs.Table.{IsTableOf}
use Rattle.chains.specs.Seen.{geometry_of}
use Rattle.merging.specs.Plans.{union_all}
use Rattle.topo.specs.GeometryOrder.Noded.{AreNoded}
use Rattle.topo.specs.OfMap.{ArePartsOf}
use Rattle.refine.specs.ManyLayers.{AreLayersOf, layers_in, maps_of}
use Rattle.refine.proofs.ManyParts.{all_layers, all_noded, all_table}
use Rattle.refine.proofs.cut_all.unite_all.Goals as goal
use Rattle.refine.proofs.cut_all.unite_all.Goals.{In_ok-layers}

pub layers_of_all-requires : goal.layers_of_all-requires
layers_of_all-requires c =
    let maps = maps_of c.args.shards.items in
    let r = c.in_ok-cut.cut in
    let are = c.in_ok-tables.ensures in
    record {
      noded = subst (λ t. AreNoded t.arcs) (sym c.into_arcs-arcs.ensures) (all_noded maps _ _ are r c.in_ok-cut.ensures);
      maps = (
        union_all maps,
        maps,
        subst (λ t. Pairwise (AreLayersOf (union_all maps) t.arcs) maps (layers_in c.in_ok-rewritten.rewritten.items)) (sym c.into_arcs-arcs.ensures)
            (subst (Pairwise (AreLayersOf (union_all maps) r.arcs.arcs) maps) (sym c.in_ok-rewritten.ensures) (all_layers maps _ _ are r c.in_ok-cut.ensures)),
      );
    }

-- the parts of the union's topology
parts : (c : In_ok-layers) → ArePartsOf (union_all (maps_of c.args.shards.items)) c.into_arcs-arcs.result c.in_ok-layers.layers.items
parts c =
    let maps = maps_of c.args.shards.items in
    let r = c.in_ok-cut.cut in
    let are = c.in_ok-tables.ensures in
    record {
      table = subst (IsTableOf (geometry_of (union_all maps))) (sym c.into_arcs-arcs.ensures) (all_table maps _ _ are r c.in_ok-cut.ensures);
      layers =
          c.in_ok-layers.ensures (union_all maps) maps
          (subst (λ t. Pairwise (AreLayersOf (union_all maps) t.arcs) maps (layers_in c.in_ok-rewritten.rewritten.items)) (sym c.into_arcs-arcs.ensures)
          (subst (Pairwise (AreLayersOf (union_all maps) r.arcs.arcs) maps) (sym c.in_ok-rewritten.ensures) (all_layers maps _ _ are r c.in_ok-cut.ensures)));
    }

pub from_parts_without_bbox-requires : goal.from_parts_without_bbox-requires
from_parts_without_bbox-requires c = (union_all (maps_of c.args.shards.items), parts (goal.at.from_parts_without_bbox-requires c).In_ok-layers)

pub returns-clause-of_map : goal.returns-clause-of_map
returns-clause-of_map c = c.from_parts_without_bbox.ensures.of_map (union_all (maps_of c.args.shards.items)) (parts (goal.at.returns-clause-of_map c).In_ok-layers)
