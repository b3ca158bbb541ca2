use Rattle.std.proofs.Common.{◌≡◌, IfOk, map, subst}
use Rattle.arcs.specs.Arcs.{Arcs}
use Rattle.split_heal.specs.PartsOfAll.{of_table}
use Rattle.topo.specs.LayerLaws.CutLayers.{layer_recut}
use Rattle.compare.proofs.comparison.layers_by.Goals as goal

pub returns : goal.returns
returns c =
    subst (λ ps. IfOk c.layers_rewritten.result (λ v. v.items ≡ map (layer_recut c.args.recut.now.arcs.arcs ps) c.args.layers.items)) c.lists.ensures.pieces
    (subst (λ (t : Arcs). IfOk c.layers_rewritten.result (λ v. v.items ≡ map (layer_recut t.arcs (of_table c.lists.result.table c.lists.result.recut.now)) c.args.layers.items)) c.lists.ensures.arcs
    c.layers_rewritten.ensures)
