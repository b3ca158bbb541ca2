use Rattle.std.proofs.Common.{◌++◌, ◌∙◌, ap, map as map_list, sym, append-nil}
use Rattle.std.specs.Map.{values_of}
use Rattle.shapes.specs.Maps.{layer_entry}
use Rattle.topo.specs.Building.{parts_entry}
use Rattle.topo.specs.Taken.{entries_taken, layers_taken}
use Rattle.topo.proofs.TakenInOrder.{layers_entries}
use Rattle.topo.proofs.building.UsedLists.layers.Goals as goal

pub returns : goal.returns
returns c =
    let first = ap (λ es. map_list layer_entry (values_of es)) c.into_iter-layer-iterator.ensures.into_iter_gives ∙ c.into_layers-layer-items.ensures in
    let all = sym (append-nil _) ∙ ap (λ es. c.loop-layer.layers.items ++ layers_taken (values_of es) c.loop-layer.self) (sym c.in-None.ensures.steps.0) ∙ c.loop-layer.invariant in
    ap (map_list parts_entry) all ∙ layers_entries (values_of c.into_iter-layer-iterator.result) c.args.self.now ∙ ap (λ es. entries_taken es c.args.self.now) first
