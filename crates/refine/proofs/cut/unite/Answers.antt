use Rattle.shapes.specs.Union.{union}
use Rattle.refine.proofs.JoinedParts.{arcs_noded, are_cut, left_has, parts_are, right_has}
use Rattle.refine.proofs.cut.unite.Goals as goal

pub layers_of_both-requires : goal.layers_of_both-requires
layers_of_both-requires c =
    let cut =
    are_cut c.into_parts-left_arcs.ensures.arcs c.into_parts-right_arcs.ensures.arcs c.into_parts-left_arcs.ensures.layers c.into_parts-right_arcs.ensures.layers c.in_ok-cut.ensures.refined
    c.into_arcs-arcs.ensures c.in_ok-lefts.ensures.left c.in_ok-lefts.ensures.right in
    record {
      noded = arcs_noded cut _ _ c.into_parts-left_arcs.ensures.of_map.1 c.into_parts-right_arcs.ensures.of_map.1;
      left = left_has cut _ _ c.into_parts-left_arcs.ensures.of_map.1 c.into_parts-right_arcs.ensures.of_map.1;
      right = right_has cut _ _ c.into_parts-left_arcs.ensures.of_map.1 c.into_parts-right_arcs.ensures.of_map.1;
    }

pub from_parts_without_bbox-requires : goal.from_parts_without_bbox-requires
from_parts_without_bbox-requires c =
    let cut =
    are_cut c.into_parts-left_arcs.ensures.arcs c.into_parts-right_arcs.ensures.arcs c.into_parts-left_arcs.ensures.layers c.into_parts-right_arcs.ensures.layers c.in_ok-cut.ensures.refined
    c.into_arcs-arcs.ensures c.in_ok-lefts.ensures.left c.in_ok-lefts.ensures.right in (
      union c.into_parts-left_arcs.ensures.of_map.0 c.into_parts-right_arcs.ensures.of_map.0,
      parts_are cut _ _ c.into_parts-left_arcs.ensures.of_map.1 c.into_parts-right_arcs.ensures.of_map.1 c.in_ok-layers.layers.items c.in_ok-layers.ensures,
    )

pub returns-clause-of_map : goal.returns-clause-of_map
returns-clause-of_map c = λ m n hm hn.
    let cut =
    are_cut c.into_parts-left_arcs.ensures.arcs c.into_parts-right_arcs.ensures.arcs c.into_parts-left_arcs.ensures.layers c.into_parts-right_arcs.ensures.layers c.in_ok-cut.ensures.refined
    c.into_arcs-arcs.ensures c.in_ok-lefts.ensures.left c.in_ok-lefts.ensures.right in
    c.from_parts_without_bbox.ensures.of_map (union m n) (parts_are cut m n hm hn c.in_ok-layers.layers.items c.in_ok-layers.ensures)
