use Rattle.std.proofs.Common.{◌∙◌, refl}
use Rattle.refine.proofs.WhatDiffers.{if_left, if_noded, if_pass, if_right}
use Rattle.refine.proofs.difference.layers_less.Goals as goal

pub remaining_layers-requires-clause-noded : goal.remaining_layers-requires-clause-noded
remaining_layers-requires-clause-noded c =
    let (m, hm) = c.layers.ensures.of_map in
    let (n, hn) = c.into_parts-removed_arcs.ensures.of_map in
    if_noded {left = c.args.topology.now} {right = c.args.removed} c.requires refl c.into_parts-removed_arcs.ensures.arcs
    c.into_parts-removed_arcs.ensures.layers c.in_ok-both.ensures.refined c.in_ok-others.ensures c.layers.ensures.layers m n hm hn

pub remaining_layers-requires-clause-there : goal.remaining_layers-requires-clause-there
remaining_layers-requires-clause-there c =
    let (m, hm) = c.layers.ensures.of_map in
    let (n, hn) = c.into_parts-removed_arcs.ensures.of_map in
    if_left {left = c.args.topology.now} {right = c.args.removed} c.requires refl c.into_parts-removed_arcs.ensures.arcs
    c.into_parts-removed_arcs.ensures.layers c.in_ok-both.ensures.refined c.in_ok-others.ensures c.layers.ensures.layers m n hm hn

pub remaining_layers-requires-clause-removed_there : goal.remaining_layers-requires-clause-removed_there
remaining_layers-requires-clause-removed_there c =
    let (m, hm) = c.layers.ensures.of_map in
    let (n, hn) = c.into_parts-removed_arcs.ensures.of_map in
    if_right {left = c.args.topology.now} {right = c.args.removed} c.requires refl c.into_parts-removed_arcs.ensures.arcs
    c.into_parts-removed_arcs.ensures.layers c.in_ok-both.ensures.refined c.in_ok-others.ensures c.layers.ensures.layers m n hm hn

pub returns-clause-left : goal.returns-clause-left
returns-clause-left c = λ m n hm hn.
    c.in_ok-left.ensures
    ∙ if_pass {left = c.args.topology.now} {right = c.args.removed} c.requires refl c.into_parts-removed_arcs.ensures.arcs
    c.into_parts-removed_arcs.ensures.layers c.in_ok-both.ensures.refined c.in_ok-others.ensures c.layers.ensures.layers m n hm hn

pub returns-clause-some : goal.returns-clause-some
returns-clause-some c =
    let (m, hm) = c.layers.ensures.of_map in
    let (n, hn) = c.into_parts-removed_arcs.ensures.of_map in (
      n,
      c.in_ok-left.ensures
          ∙ if_pass {left = c.args.topology.now} {right = c.args.removed} c.requires refl c.into_parts-removed_arcs.ensures.arcs
          c.into_parts-removed_arcs.ensures.layers c.in_ok-both.ensures.refined c.in_ok-others.ensures c.layers.ensures.layers m n hm hn,
    )
