use Rattle.std.proofs.Common.{◌∙◌, ap, refl}
use Rattle.topo.specs.LayerLaws.Less.{less}
use Rattle.refine.proofs.WhatIsLeft.{made_of, parts_made, pieces_made}
use Rattle.refine.proofs.remove.removal_of.Goals as goal

pub from_parts_without_bbox-topology-requires : goal.from_parts_without_bbox-topology-requires
from_parts_without_bbox-topology-requires c =
    let (m, h) = c.arcs.ensures.of_map in
    let (r, stay) = c.requires in
    let made =
    made_of {r = r} {stay = c.args.left.now} stay c.arcs.ensures.arcs refl c.in_ok-kept.ensures refl c.in_ok-ends.ensures c.arcs-2.ensures.arcs c.as_slice.ensures
    c.deref.ensures.value c.in_ok-joined.ensures.refined in (
      less m r,
      parts_made made m h c.into_parts-arcs.result.0 c.in_ok-layers.layers.items c.into_parts-arcs.ensures.arcs c.in_ok-layers.ensures,
    )

pub returns-clause-of_map : goal.returns-clause-of_map
returns-clause-of_map c = λ m r stay h.
    let made =
    made_of {r = r} {stay = c.args.left.now} stay c.arcs.ensures.arcs refl c.in_ok-kept.ensures refl c.in_ok-ends.ensures c.arcs-2.ensures.arcs c.as_slice.ensures
    c.deref.ensures.value c.in_ok-joined.ensures.refined in
    c.from_parts_without_bbox-topology.ensures.of_map (less m r) (parts_made made m h c.into_parts-arcs.result.0 c.in_ok-layers.layers.items c.into_parts-arcs.ensures.arcs c.in_ok-layers.ensures)

pub returns-clause-pieces : goal.returns-clause-pieces
returns-clause-pieces c = λ m r stay h.
    let made =
    made_of {r = r} {stay = c.args.left.now} stay c.arcs.ensures.arcs refl c.in_ok-kept.ensures refl c.in_ok-ends.ensures c.arcs-2.ensures.arcs c.as_slice.ensures
    c.deref.ensures.value c.in_ok-joined.ensures.refined in
    pieces_made made m h c.from_parts_without_bbox-topology.result.arcs.arcs c.into_parts-arcs.result.1.items (ap (λ a. a.arcs) (c.from_parts_without_bbox-topology.ensures.arcs ∙ c.into_parts-arcs.ensures.arcs))
    c.into_parts-arcs.ensures.pieces
