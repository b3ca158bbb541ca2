use Rattle.std.proofs.Common.{◌++◌, ◌∙◌, ap, map as map_list, sym, append-nil}
use Rattle.theory.specs.Lists.{gathered}
use Rattle.shapes.specs.Maps.{layer_entry}
use Rattle.chains.proofs.Layers.{of_layers}
use Rattle.topo.specs.Building.{form_counts, form_pieces, layer_counts, layer_pieces}
use Rattle.topo.proofs.cuts.Cuts.add_layers.Goals as goal

pub returns-clause-pieces : goal.returns-clause-pieces
returns-clause-pieces c =
    let first = ap (map_list layer_entry) c.into_iter-layer-iterator.ensures.into_iter_gives ∙ c.layers-layer-items.ensures in
    sym (append-nil _) ∙ ap (λ ls. c.loop-layer.self.pieces.items ++ gathered (layer_pieces c.args.index.now) ls) (sym c.in-None.ensures.steps.0) ∙ c.loop-layer.invariant.pieces
    ∙ ap (λ w. c.args.self.now.pieces.items ++ w) (of_layers (form_pieces c.args.index.now) c.args.map.now c.into_iter-layer-iterator.result first)

pub returns-clause-counts : goal.returns-clause-counts
returns-clause-counts c =
    let first = ap (map_list layer_entry) c.into_iter-layer-iterator.ensures.into_iter_gives ∙ c.layers-layer-items.ensures in
    sym (append-nil _) ∙ ap (λ ls. c.loop-layer.self.counts.items ++ gathered (layer_counts c.args.index.now) ls) (sym c.in-None.ensures.steps.0) ∙ c.loop-layer.invariant.counts
    ∙ ap (λ w. c.args.self.now.counts.items ++ w) (of_layers (form_counts c.args.index.now) c.args.map.now c.into_iter-layer-iterator.result first)
