use Rattle.std.proofs.Common.{◌≡◌, ◌+◌, ◌++◌, length}
use Rattle.refine.specs.ManyLayers.{layers_in, layers_recut_from}
use Rattle.refine.proofs.cut_all.layers_by_new_arcs.Given as goal

abbrev pub invariant-loop-layers : goal.invariant-loop-layers
invariant-loop-layers l = record {
  left : l.table + length l.layers-iterator.rest.items ≡ length l.fn.lists.items;
  lists : layers_in l.rewritten.items ++ layers_recut_from l.fn.recut l.table (layers_in l.layers-iterator.rest.items) ≡ layers_recut_from l.fn.recut 0 (layers_in l.fn.lists.items);
}
